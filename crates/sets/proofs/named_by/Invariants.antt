-- Assumes nothing.
use Rattle.records.specs.Words.{count}
use Prim.Native.Nat.{ℕ}
use mathlib.Core.Path.{◌≡◌}
use Rattle.sets.specs.SetMatchings.{FlatFitting}
use Rattle.values.proofs.Gathering.{left}
use Rattle.sets.proofs.Naming.{NamedTo}
use Rattle.sets.proofs.named_by.Given as goal

abbrev pub invariant-loop-at : goal.invariant-loop-at
invariant-loop-at l = NamedTo l.sheet l.p l.named l.at × ((l.at ≡ 0 → ⊥) → (t : ℕ) × FlatFitting l.sheet (count l.sheet) l.at t)

abbrev pub decreases-loop-at : goal.decreases-loop-at
decreases-loop-at l = left (count l.sheet) l.at
