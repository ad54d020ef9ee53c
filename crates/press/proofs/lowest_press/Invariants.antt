-- Assumes nothing.
use Rattle.answers.specs.Answers.{is_some}
use Prim.Native.Nat.{ℕ, ◌<◌}
use mathlib.Core.Bool.{false}
use Rattle.press.specs.Press.{constructor_for}
use mathlib.Core.Path.{◌≡◌}
use Rattle.press.proofs.lowest_press.Given as goal

abbrev pub invariant-loop-j : goal.invariant-loop-j
invariant-loop-j l = (l.probe ≡ l.initial.probe) × (l.input ≡ l.initial.input) × ((q : ℕ) → q < l.j → is_some (constructor_for l.initial.probe.sheet l.initial.input l.initial.probe.leaf q) ≡ false)
