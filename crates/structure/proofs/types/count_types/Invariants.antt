-- The invariant: the table has the leaf counts of the types below rec. Assumes nothing.
use Rattle.structure.specs.LeafTable.{LeavesCounted}
use Rattle.structure.proofs.types.count_types.Given as goal

abbrev pub invariant-loop-rec : goal.invariant-loop-rec
invariant-loop-rec l = LeavesCounted l.sheet l.rec l.table
