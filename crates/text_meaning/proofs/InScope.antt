-- The types of parts and of names in scope, and the nearest of a name by its distance.
-- Assumes nothing.
use Prim.Native.Nat.{ℕ}
use mathlib.Core.Path.{◌≡◌, subst}
use mathlib.Core.List.{List, []}
use mathlib.Core.Option.{none, some}
use native.Mathlib.Omega.{arith}
use Rattle.picoella.specs.Language.{Ty, Flat, TyTuple, Pattern, HasType, Named, here, there}
use Rattle.grammar.specs.Source.{Declaration}
use Rattle.name_rules.specs.Declared.{DeclaredName}
use Rattle.meaning.specs.Undecided.{undecided_constant}
use Rattle.meaning.specs.Constants.{ConstantTree, CoTuple, ConstantOf, of_cons, of_tuple, ConstantsOf, of_more, bottom_of_type, Bool3, tt3, ff3, uu3}
use Rattle.meaning.specs.Rules.{Elem, elem_here, elem_there, branch}
use Rattle.meaning.proofs.UndecidedRule.{rule-agreeing}
use Rattle.text_meaning.specs.NamedValues.{NamedValue}
use Rattle.text_meaning.specs.Circuits.{NamedCircuit}
use Rattle.text_meaning.specs.NamedRules.{Binding, nearest_binding, ComesTo}
use Rattle.text_meaning.proofs.Naming.{name_tree, KnownType, known-pair}
use Rattle.text_meaning.proofs.Related.{
  Scoped,
  scoped-input,
  scoped-name,
  BoundAt,
  at-input,
  at_here,
  at_there,
  NotIn,
  not-input,
  not-here,
  AllKnown,
  one_known,
}

pub bottom-of-type : (τ : Ty) → ConstantOf τ (bottom_of_type τ)
bottom-of-type (Flat r n) = of_cons {n = n} {i = 0} (omega arith)
bottom-of-type (TyTuple σ τ) = of_tuple (bottom-of-type σ) (bottom-of-type τ)

pub typed-as : {p q : Pattern} {τ : Ty} → p ≡ q → HasType p τ → HasType q τ
typed-as {τ = τ} e h = subst (λ p. HasType p τ) e h

pub comes-from : {D : List DeclaredName} {ρ : List Binding} {w : List ℕ} {c d : NamedCircuit} {i j v : NamedValue} → i ≡ j
    → ComesTo D ρ w c i v d → ComesTo D ρ w c j v d
comes-from {D} {ρ} {w} {c} {d} {v = v} e h = subst (λ i. ComesTo D ρ w c i v d) e h

pub first-of-type : {σ τ : Ty} {c d : ConstantTree} → ConstantOf (TyTuple σ τ) (CoTuple c d) → ConstantOf σ c
first-of-type (of_tuple h k) = h

pub second-of-type : {σ τ : Ty} {c d : ConstantTree} → ConstantOf (TyTuple σ τ) (CoTuple c d) → ConstantOf τ d
second-of-type (of_tuple h k) = k

pub first-known : {ds : List Declaration} {σ τ : Ty} → KnownType ds (TyTuple σ τ) → KnownType ds σ
first-known (known-pair x y) = x

pub second-known : {ds : List Declaration} {σ τ : Ty} → KnownType ds (TyTuple σ τ) → KnownType ds τ
second-known (known-pair x y) = y

pub branch-of-type : (b : Bool3) {τ : Ty} {c d : ConstantTree} → ConstantOf τ c → ConstantOf τ d → ConstantOf τ (branch undecided_constant b c d)
branch-of-type tt3 h k = h
branch-of-type ff3 h k = k
branch-of-type uu3 h k = rule-agreeing.of_type h k

pub elem-known : {ds : List Declaration} {Γ : List Ty} {l : List ConstantTree} {n : ℕ} {τ : Ty} {k : ConstantTree}
    → Named Γ n τ → ConstantsOf Γ l → AllKnown ds Γ → Elem l n k → ConstantOf τ k × KnownType ds τ
elem-known here (of_more h hs) (one_known x xs) elem_here = (h, x)
elem-known (there n) (of_more h hs) (one_known x xs) (elem_there e) = elem-known n hs xs e

-- what is at a distance is the nearest of its name
pub binding-found : {ds : List Declaration} {bound : List (List ℕ)} {l : List ConstantTree} {ρ : List Binding} {w : List ℕ} {n : ℕ} {k : ConstantTree}
    → BoundAt bound w n → Scoped ds bound l ρ → Elem l n k → nearest_binding ρ w ≡ some (name_tree ds k)
binding-found (at-input e) scoped-input elem_here = rw e
binding-found (at_here e) (scoped-name s) elem_here = rw e
binding-found (at_there e a) (scoped-name s) (elem_there x) = rw e (binding-found a s x)

pub not_found : {ds : List Declaration} {bound : List (List ℕ)} {l : List ConstantTree} {ρ : List Binding} {w : List ℕ}
    → NotIn bound w → Scoped ds bound l ρ → nearest_binding ρ w ≡ none
not_found (not-input e) scoped-input = rw e
not_found (not-here e n) (scoped-name s) = rw e (not_found n s)
