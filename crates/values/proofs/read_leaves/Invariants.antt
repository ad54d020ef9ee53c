-- The invariant: the leaves before the one at hand are read. Assumes nothing.
use lib.ListN.{length}
use Rattle.records.specs.Words.{count}
use Rattle.values.specs.Chained.{Chained}
use Rattle.values.proofs.Leaves.{Along, Read}
use Rattle.values.proofs.read_leaves.Given as goal

abbrev pub invariant-loop-value : goal.invariant-loop-value
invariant-loop-value l = (g : Chained l.sheet (count l.sheet) l.first (length l.initial.out)) → Along g.written l.first l.value-index l.leaf × Read g.written l.first l.value-index l.out
