-- The invariant: no record below rec has a label that a lower one bears, and the table has the delays below rec. Assumes nothing.
use Prim.Native.Nat.{ℕ, ◌<◌}
use mathlib.Core.Path.{◌≡◌}
use mathlib.Core.Bool.{false}
use Rattle.carry.specs.Labels.{label_twice}
use Rattle.carry.specs.Bearers.{Bearers}
use Rattle.carry.proofs.Labels.note_all.Given as goal

abbrev pub invariant-loop-rec : goal.invariant-loop-rec
invariant-loop-rec l = ((q : ℕ) → q < l.rec → label_twice l.sheet q ≡ false) × Bearers l.sheet l.rec l.self.bearers
