-- The row is read from the three tables.
-- Assumes nothing.
use Rattle.recognizer.proofs.MachineLaws.{tables_right, row-fits, begun-by}
use Rattle.recognizer.proofs.machine.Machine.begin.Goals as goal

pub take_row-requires-clause-row : goal.take_row-requires-clause-row
take_row-requires-clause-row c = row-fits c.row-row.ensures.few c.requires.lead c.index-column.ensures tables_right

pub returns : goal.returns
returns c = begun-by c.row-row.ensures.few c.requires.lead c.index-column.ensures tables_right c.row-row.ensures.told c.take_row.ensures
