-- Assumes nothing.
use Prim.Native.Nat.{ℕ, suc, ◌<◌}
use mathlib.Core.Bool.{false}
use Rattle.press.specs.Press.{alters_to}
use mathlib.Core.Path.{◌≡◌}
use Rattle.press.proofs.lowest_constructor.Given as goal

abbrev pub invariant-loop-k : goal.invariant-loop-k
invariant-loop-k l = (l.probe ≡ l.initial.probe) × (l.input ≡ l.initial.input) × ((q : ℕ) → q < l.k → alters_to l.initial.probe.sheet l.initial.input l.initial.probe.leaf l.j (suc q) ≡ false)
