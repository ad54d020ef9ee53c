-- Assumes nothing.
use Prim.Native.Nat.{ℕ, ◌<◌}
use mathlib.Core.Path.{◌≡◌}
use mathlib.Core.Bool.{false}
use Rattle.replay.specs.Replay.{leaf_differs}
use Rattle.replay.proofs.find_differing.Given as goal

abbrev pub invariant-loop-leaf : goal.invariant-loop-leaf
invariant-loop-leaf l = (q : ℕ) → q < l.leaf → leaf_differs l.value l.other q ≡ false
