-- The types that are left lead from what stands to the whole.
-- Assumes nothing.
use Rattle.emitting.proofs.TypeLaws.{TypesLeft}
use Rattle.emitting.proofs.write_types.Given as goal

abbrev pub invariant-loop-k : goal.invariant-loop-k
invariant-loop-k l = TypesLeft l.types l.initial.sheet l.sheet l.k l.cursor l.next
