-- Those passed are none of the two.
-- Assumes nothing.
use Prim.Native.Nat.{◌-◌}
use mathlib.Core.Path.{◌≡◌}
use lib.ListN.{length, drop}
use Rattle.instructions.specs.Assembly.{pair_numbered}
use Rattle.ordering.proofs.types.constant_pair.Given as goal

abbrev pub invariant-loop-j : goal.invariant-loop-j
invariant-loop-j l = pair_numbered (drop (length l.types - l.j) l.types) l.first l.second ≡ 0
