-- Values and their order (docs/SHEETS.md, "One cycle"; 000, §4.2.1: `cle`, `bottomOfConst`). A value is its leaves, 0 undefined;
-- that it is of a type is `OfType` of the language.
-- `Both` says of two values at once that they lie within the same bounds and that the first is at or below the second: every
-- induction proves it, and being of a type and the order are its halves. 000 leaves the order of values of different types
-- open; here two values of different lengths are never ordered.
use Rattle.std.specs.Prelude.{ℕ, ◌≤◌, ◌≡◌, ◌⊎◌, List, [], ◌∷◌, replicate}
use Rattle.picoella.specs.Language.{Ty, bounds, leaves, OfType}

-- undefined in every leaf
abbrev pub undefined : Ty → List ℕ
undefined τ = replicate (leaves τ) 0

-- a leaf is at or below another when it is 0 or equals it
abbrev pub LeafBelow : ℕ → ℕ → Type 0
LeafBelow v w = (v ≡ 0) ⊎ (v ≡ w)

infix 40 ◌⊑◌
-- value v is at or below w when each leaf of v is 0 or equals that of w
pub data ◌⊑◌ : List ℕ → List ℕ → Type 0 where
  below_none : [] ⊑ []
  below_leaf : {v w : ℕ} {vs ws : List ℕ} → LeafBelow v w → vs ⊑ ws → (v ∷ vs) ⊑ (w ∷ ws)

-- leaf by leaf both within the bound and the first at or below the second
pub data Both : (bounds v w : List ℕ) → Type 0 where
  both_none : Both [] [] []
  both_leaf : {n v w : ℕ} {ns vs ws : List ℕ}
      → v ≤ n → w ≤ n → LeafBelow v w → Both ns vs ws → Both (n ∷ ns) (v ∷ vs) (w ∷ ws)

-- an environment: a value of its type for each name in scope, the innermost first
pub data ValuesOf : List Ty → List (List ℕ) → Type 0 where
  no_values : ValuesOf [] []
  more_values : {τ : Ty} {Γ : List Ty} {v : List ℕ} {ρ : List (List ℕ)}
      → OfType τ v → ValuesOf Γ ρ → ValuesOf (τ ∷ Γ) (v ∷ ρ)

-- two environments, name by name of the same types and the first at or below the second
pub data BothValues : List Ty → List (List ℕ) → List (List ℕ) → Type 0 where
  both_no_values : BothValues [] [] []
  both_more_values : {τ : Ty} {Γ : List Ty} {v w : List ℕ} {ρ π : List (List ℕ)}
      → Both (bounds τ) v w → BothValues Γ ρ π → BothValues (τ ∷ Γ) (v ∷ ρ) (w ∷ π)

-- values of one type, as the inputs and the outputs of a run
pub data AllOf : Ty → List (List ℕ) → Type 0 where
  all_none : {τ : Ty} → AllOf τ []
  all_more : {τ : Ty} {v : List ℕ} {vs : List (List ℕ)} → OfType τ v → AllOf τ vs → AllOf τ (v ∷ vs)
