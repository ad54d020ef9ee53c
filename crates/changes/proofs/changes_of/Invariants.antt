-- The changes before cycle k are counted. Assumes nothing.
use Rattle.std.proofs.Common.{◌≡◌, ◌-◌, ◌≤◌}
use Rattle.changes.specs.Changes.{change_at, count_below}
use Rattle.changes.proofs.changes_of.Given as goal

abbrev pub invariant-loop-k : goal.invariant-loop-k
invariant-loop-k l = (l.changes ≡ count_below (λ k. change_at l.outputs.width l.outputs.leaves.now k l.leaf) l.k) × (l.k - 1 ≤ l.k-end - 1)
