-- Those moved so far stand on the code.
-- Assumes nothing.
use Prim.Native.Nat.{◌-◌}
use mathlib.Core.Path.{◌≡◌}
use mathlib.Core.List.{◌++◌}
use lib.ListN.{length, take, drop}
use Rattle.ordering.proofs.code.move_onto.Given as goal

abbrev pub invariant-loop-k : goal.invariant-loop-k
invariant-loop-k l = l.code ≡ take (l.k - l.from) (drop (length l.waiting - l.k) l.waiting) ++ l.initial.code
