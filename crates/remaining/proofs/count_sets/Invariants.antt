-- Assumes nothing.
use Rattle.remaining.proofs.PastRecords.{CountedTo}
use Rattle.remaining.proofs.count_sets.Given as goal

abbrev pub invariant-loop-i : goal.invariant-loop-i
invariant-loop-i l = CountedTo l.words l.i l.out
