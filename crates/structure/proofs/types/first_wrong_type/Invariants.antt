-- The invariant: no record below rec breaks the rule, and the index has the pair types below rec. Assumes nothing.
use Prim.Native.Nat.{ℕ, ◌<◌}
use mathlib.Core.Path.{◌≡◌}
use mathlib.Core.Bool.{false}
use Rattle.structure.specs.Rules.{wrong_type}
use Rattle.structure.specs.PairIndex.{Indexed}
use Rattle.structure.proofs.types.first_wrong_type.Given as goal

abbrev pub invariant-loop-rec : goal.invariant-loop-rec
invariant-loop-rec l = ((q : ℕ) → q < l.rec → wrong_type l.sheet q ≡ false) × Indexed l.sheet l.rec l.index
