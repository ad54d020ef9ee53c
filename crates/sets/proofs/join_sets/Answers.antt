-- Assumes nothing.
use borrow.Author.Rules.{rules}
use Rattle.sets.proofs.Joining.{sets-joined}
use Rattle.sets.proofs.join_sets.Goals as goal

pub returns : goal.returns
returns c = sets-joined _ _ _ _ (search rules) (search rules) c.loop-i.invariant
