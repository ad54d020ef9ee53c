-- Assumes nothing.
use Rattle.estimator.proofs.SetLeaves.{WordsFilled}
use Rattle.estimator.proofs.fill_sets.Given as goal

abbrev pub invariant-loop-i : goal.invariant-loop-i
invariant-loop-i l = WordsFilled l.counts l.value l.i l.out
