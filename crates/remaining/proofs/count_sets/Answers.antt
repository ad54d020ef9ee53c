-- Assumes nothing.
use native.Mathlib.Omega.{arith}
use Rattle.remaining.proofs.PastRecords.{count_next}
use Rattle.remaining.proofs.count_sets.Goals as goal

pub loop-i-preserved : goal.loop-i-preserved
loop-i-preserved c = count_next _ _ _ _ c.loop-i.invariant (omega arith) c.how_many.ensures.ones-of
