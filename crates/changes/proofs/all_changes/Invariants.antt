-- The changes before cycle k are counted. Assumes nothing.
use Rattle.std.proofs.Common.{◌≡◌, ◌-◌, ◌≤◌, ◌*◌, length}
use Rattle.changes.specs.Changes.{changes_up_to}
use Rattle.changes.proofs.all_changes.Given as goal

abbrev pub invariant-loop-k : goal.invariant-loop-k
invariant-loop-k l = (l.changes ≡ length (changes_up_to l.outputs.width l.outputs.leaves.now l.k)) × (l.changes ≤ l.k * l.outputs.width) × (l.k - 1 ≤ l.k-end - 1)
