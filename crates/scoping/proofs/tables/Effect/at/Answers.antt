-- The table is that of the rules of the states.
-- Assumes nothing.
use Rattle.scoping.proofs.TableLaws.{effect-at}
use Rattle.scoping.proofs.tables.Effect.at.Goals as goal

pub returns : goal.returns
returns c = effect-at c.args.state c.args.class _ _ c.requires.0 c.requires.1 c.from.ensures c.from-2.ensures
