-- A second header, or a word that is not what is asked. Assumes nothing.
use borrow.Author.Rules.{rules}
use Rattle.structure.proofs.WrongRecords.{second-header, record-tested}
use Rattle.structure.proofs.said.wrong_record.Goals as goal

pub returns-then-eq : goal.returns-then-eq
returns-then-eq c = second-header c.args.sheet.now c.args.rec c.kind.result (search rules) c.kind.ensures c.eq.ensures c.if-eq.true

pub returns-else-eq : goal.returns-else-eq
returns-else-eq c = record-tested c.args.sheet.now c.args.rec c.kind.result (search rules) c.kind.ensures c.eq.ensures c.if-eq.false c.well_said.ensures
