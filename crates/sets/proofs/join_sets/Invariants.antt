-- Assumes nothing.
use lib.Bits.{bit_or}
use Rattle.values.proofs.LeafByLeaf.{JoinedTo}
use Rattle.sets.proofs.join_sets.Given as goal

abbrev pub invariant-loop-i : goal.invariant-loop-i
invariant-loop-i l = JoinedTo bit_or l.otherwise l.initial.out l.i l.out
