-- The invariant: the leaves before the one at hand are those on which both agree, and the others are as they were. Assumes nothing.
use Rattle.meaning.specs.Undecided.{agreed_leaf}
use Rattle.values.proofs.LeafByLeaf.{JoinedTo}
use Rattle.values.proofs.undecided.Given as goal

abbrev pub invariant-loop-i : goal.invariant-loop-i
invariant-loop-i l = JoinedTo agreed_leaf l.otherwise l.initial.out l.i l.out
