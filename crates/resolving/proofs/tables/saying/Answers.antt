-- The table is computed from the rows of the states.
-- Assumes nothing.
use Rattle.resolving.proofs.SayingLaws.{saying-at}
use Rattle.resolving.proofs.tables.saying.Goals as goal

pub returns : goal.returns
returns c = saying-at c.args.state _ c.index.result c.requires.0 c.requires.1 c.index.ensures
