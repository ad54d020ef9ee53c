-- The changes of the leaves before the one at hand are counted. Assumes nothing.
use Rattle.std.proofs.Common.{◌≡◌, ◌-◌}
use Rattle.changes.specs.Changes.{change_at, count_below}
use Rattle.changes.proofs.changes_in.Given as goal

abbrev pub invariant-loop-at : goal.invariant-loop-at
invariant-loop-at l = l.changes ≡ count_below (change_at l.outputs.width l.outputs.leaves.now l.k) (l.at - l.start)
