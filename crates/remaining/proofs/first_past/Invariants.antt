-- Assumes nothing.
use Prim.Native.Nat.{ℕ, ◌<◌}
use mathlib.Core.Path.{◌≡◌}
use mathlib.Core.Bool.{false}
use Rattle.possible.specs.Possible.{past_sets}
use Rattle.remaining.proofs.first_past.Given as goal

abbrev pub invariant-loop-rec : goal.invariant-loop-rec
invariant-loop-rec l = (q : ℕ) → q < l.rec → past_sets l.sheet q ≡ false
