-- What each function asks of its caller can be had: for sheet T, whose outputs have one leaf, and room for the longest outputs.
-- Assumes nothing.
use Prim.Native.Nat.{ℕ, ◌≤◌}
use mathlib.Core.List.{List}
use native.Mathlib.Omega.{arith}
use lib.Dec.{lit≤}
use lib.ListN.{length, replicate, length-replicate}
use Rattle.behaviour.specs.Bench.{toggle}
use Rattle.rooms.specs.Rooms.{most_output}

outputs-length : 1 ≤ 64
outputs-length = lit≤ tt

long : (n : ℕ) → n ≤ length {A = ℕ} (replicate n 0)
long n = let l = length-replicate {A = ℕ} n 0 in omega arith

outputs : List ℕ
outputs = replicate most_output 0

tell : (most_output ≤ length outputs) × (length toggle ≤ length toggle)
unfolding outputs
tell = (long most_output, omega arith)
