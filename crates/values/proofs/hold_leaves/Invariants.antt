-- The invariant: the value is held at the leaves before the one at hand. Assumes nothing.
use lib.ListN.{length}
use Rattle.records.specs.Words.{count}
use Rattle.values.specs.Chained.{Chained}
use Rattle.values.proofs.Leaves.{Along, HeldLeaves}
use Rattle.values.proofs.hold_leaves.Given as goal

abbrev pub invariant-loop-byte : goal.invariant-loop-byte
invariant-loop-byte l =
    (g : Chained l.sheet (count l.sheet) l.first (length l.value))
    → Along g.written l.first l.byte-index l.leaf × HeldLeaves g.written l.first l.value l.initial.held l.byte-index l.held
