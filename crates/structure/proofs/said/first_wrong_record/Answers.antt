-- The closure tests records from 1 on. Assumes nothing.
use Rattle.std.proofs.Common.{of_calls}
use Rattle.structure.specs.Rules.{wrong_record}
use Rattle.structure.proofs.WrongRecords.{not-the-header}
use Rattle.structure.proofs.said.first_wrong_record.Goals as goal

pub returns : goal.returns
returns c = c.lowest_record.ensures (wrong_record c.args.sheet.now) (not-the-header c.args.sheet.now, search of_calls)
