-- The closure tests records from 1 on. Assumes nothing.
use Rattle.std.proofs.Common.{of_calls}
use Rattle.structure.specs.Rules.{wrong_naming}
use Rattle.structure.proofs.Namers.{first-naming}
use Rattle.structure.proofs.naming.NamingTable.first_wrong.Goals as goal

pub returns : goal.returns
returns c = λ s held. c.lowest_record.ensures (wrong_naming s) (first-naming s, search (of_calls, held))
