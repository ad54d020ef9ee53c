-- Assumes nothing.
use Rattle.picoella.specs.Language.{bounds}
use Rattle.records.specs.Trees.{type_at}
use Rattle.accepted.proofs.LeafBounds.{BoundsFilled}
use Rattle.accepted.proofs.fill_bounds.Given as goal

abbrev pub invariant-loop-i : goal.invariant-loop-i
invariant-loop-i l = BoundsFilled (bounds (type_at l.checked.sheet l.t)) l.i l.out
