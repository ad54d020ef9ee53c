-- The invariant: the leaf `at` of `flat` is leaf i of t. Each turn goes to a lower record. Assumes nothing.
use Rattle.records.specs.Words.{count}
use Rattle.typing.specs.Judging.{Ground}
use Rattle.typing.proofs.Bounds.{LeafReached}
use Rattle.typing.proofs.leaves.bound_at.Given as goal

abbrev pub invariant-loop-first : goal.invariant-loop-first
invariant-loop-first l = (g : Ground l.sheet (count l.sheet) l.table) → LeafReached g l.t l.i l.flat l.at

abbrev pub decreases-loop-first : goal.decreases-loop-first
decreases-loop-first l = l.flat
