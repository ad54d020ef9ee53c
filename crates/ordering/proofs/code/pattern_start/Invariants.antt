-- Those passed begin no pattern.
-- Assumes nothing.
use Prim.Native.Nat.{◌-◌}
use lib.ListN.{length}
use Rattle.ordering.proofs.ListLaws.{PatternSought}
use Rattle.ordering.proofs.code.pattern_start.Given as goal

abbrev pub invariant-loop-k : goal.invariant-loop-k
invariant-loop-k l = PatternSought l.waiting (length l.waiting - l.k)
