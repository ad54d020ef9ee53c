-- Past the records a word reads as 0, so a type that is no record has no constructor. Assumes nothing.
use Rattle.records.proofs.Reading.{constructor-past}
use Rattle.records.proofs.sheet.Sheet.is_constructor.Goals as goal

pub returns-then-records-flat : goal.returns-then-records-flat
returns-then-records-flat c = constructor-past c.records.ensures.sized c.args.rec c.args.w c.word-flat.result c.word-flat.ensures.0 c.if-records-flat.true
