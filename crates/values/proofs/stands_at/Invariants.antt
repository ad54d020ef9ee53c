-- The invariant: the leaves before the one at hand are the same. Assumes nothing.
use Rattle.values.proofs.Standing.{Same}
use Rattle.values.proofs.stands_at.Given as goal

abbrev pub invariant-loop-i : goal.invariant-loop-i
invariant-loop-i l = Same l.value l.slot l.i
