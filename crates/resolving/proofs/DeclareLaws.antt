-- A token declares names after those that are declared: these keep their entries and their numbers.
-- Assumes nothing.
use Prim.Native.Nat.{ℕ, zero, suc, ◌≤◌}
use native.Mathlib.Omega.{arith}
use native.Mathlib.Decide.{ℕ_discrete}
use mathlib.Core.Path.{◌≡◌, refl, sym, ap, subst, ◌∙◌}
use mathlib.Core.List.{List, [], ◌∷◌}
use lib.ListN.{length}
use Rattle.name_rules.specs.Declared.{DeclaredName}
use Rattle.name_rules.specs.TokenWalk.{scope, declared_in, met_in, left_by, ended_by}
use Rattle.name_rules.specs.TokenWalk.{ScopeEffect, keeps_scope, pends, declares_first, declares_next, binds, binds_pending, declares_pending, unbinds}
use Rattle.symbols.specs.Names.{declared_names}
use Rattle.instructions.specs.TokenOrder.{types_among, constructors_among}
use Rattle.resolving.specs.Said.{NamesDeclared, Numbered}
use Rattle.resolving.proofs.NameEntries.{type-names-counted, ranks-counted}

-- some names before others
data Extends (D : List DeclaredName) : List DeclaredName → Type 0 where
  no-name-more : Extends D D
  one-name-more : {x : DeclaredName} {E : List DeclaredName} → Extends D E → Extends D (x ∷ E)

name-extends : (e : ScopeEffect) (w : List ℕ) (P B : List (List ℕ)) (D : List DeclaredName) → Extends D (declared_in (left_by e w (met_in e (scope P B D))))
name-extends keeps_scope w P B D = no-name-more
name-extends pends w P B D = no-name-more
name-extends declares_first w [] B D = one-name-more no-name-more
name-extends declares_first w (v ∷ P) B D = one-name-more (one-name-more no-name-more)
name-extends declares_next w P B D = one-name-more no-name-more
name-extends binds w P B D = no-name-more
name-extends binds_pending w P B D = no-name-more
name-extends declares_pending w [] B D = no-name-more
name-extends declares_pending w (v ∷ P) B D = one-name-more no-name-more
name-extends unbinds w P B D = no-name-more

other-extends : (e : ScopeEffect) (P B : List (List ℕ)) (D : List DeclaredName) → Extends D (declared_in (ended_by e (scope P B D)))
other-extends keeps_scope P B D = no-name-more
other-extends pends P B D = no-name-more
other-extends declares_first P B D = no-name-more
other-extends declares_next P B D = no-name-more
other-extends binds P B D = no-name-more
other-extends binds_pending [] B D = no-name-more
other-extends binds_pending (v ∷ P) B D = no-name-more
other-extends declares_pending P B D = no-name-more
other-extends unbinds P [] D = no-name-more
other-extends unbinds P (v ∷ B) D = no-name-more

module _ (text spans roles spans' roles' : List ℕ) where
  names-long : (s r : List ℕ) (k : ℕ) → length (declared_names text s r k) ≡ suc k
  names-long s r zero = refl
  names-long s r (suc k) = ap suc (names-long s r k)

  longer : {D E : List DeclaredName} → Extends D E → length D ≤ length E
  longer no-name-more = omega arith
  longer (one-name-more x) = omega (arith, longer x)

  extends-names : {D E : List DeclaredName} → Extends D E → (base base' : ℕ) → D ≡ declared_names text spans roles base → E ≡ declared_names text spans' roles' base'
      → (base ≤ base') × (declared_names text spans' roles' base ≡ declared_names text spans roles base)
  extends-names no-name-more base base' d e =
      let l : base ≡ base' = (let a = ap length (sym d ∙ e) in let x = names-long spans roles base in let y = names-long spans' roles' base' in omega arith) in
      (omega arith, ap (declared_names text spans' roles') l ∙ sym e ∙ d)
  extends-names (one-name-more x) base zero d e =
      absurd
      (let a = ap length e in let b = ap length d in let y = names-long spans roles base in let z = longer x in omega arith)
  extends-names (one-name-more {x = v} {E} x) base (suc k) d e =
      let f : E ≡ declared_names text spans' roles' k = cc in
      let h = extends-names x base k d f in
      (let l = h.0 in omega arith, h.1)

  names-below : (m : ℕ) → declared_names text spans' roles' m ≡ declared_names text spans roles m → (k : ℕ) → k ≤ m
      → declared_names text spans' roles' k ≡ declared_names text spans roles k
  names-below zero e k h = let z : k ≡ 0 = omega arith in subst (λ j. declared_names text spans' roles' j ≡ declared_names text spans roles j) (sym z) e
  names-below (suc m) e k h =
      let f : declared_names text spans' roles' m ≡ declared_names text spans roles m = cc in
      go (ℕ_discrete k (suc m)) (names-below m f k)
    where
      go : Dec (k ≡ suc m) → (k ≤ m → declared_names text spans' roles' k ≡ declared_names text spans roles k)
          → declared_names text spans' roles' k ≡ declared_names text spans roles k
      go (yes z) again = subst (λ j. declared_names text spans' roles' j ≡ declared_names text spans roles j) (sym z) e
      go (no z) again = again (omega (arith, z))

  extended : {E : List DeclaredName} (base base' : ℕ) → Extends (declared_names text spans roles base) E → declared_names text spans' roles' base' ≡ E
      → NamesDeclared text spans roles base spans' roles' base'
  extended base base' x e =
      let h = extends-names x base base' refl (sym e) in record { higher = h.0; same = names-below base h.1 }

pub name-declares : {text spans roles spans' roles' : List ℕ} {base base' : ℕ} (e : ScopeEffect) (w : List ℕ) (P B : List (List ℕ))
    → declared_names text spans' roles' base' ≡ declared_in (left_by e w (met_in e (scope P B (declared_names text spans roles base))))
    → NamesDeclared text spans roles base spans' roles' base'
name-declares {text} {spans} {roles} {spans'} {roles'} {base} {base'} e w P B s =
    extended text spans roles spans' roles' base base' (name-extends e w P B (declared_names text spans roles base)) s

pub other-declares : {text spans roles spans' roles' : List ℕ} {base base' : ℕ} (e : ScopeEffect) (P B : List (List ℕ))
    → declared_names text spans' roles' base' ≡ declared_in (ended_by e (scope P B (declared_names text spans roles base)))
    → NamesDeclared text spans roles base spans' roles' base'
other-declares {text} {spans} {roles} {spans'} {roles'} {base} {base'} e P B s =
    extended text spans roles spans' roles' base base' (other-extends e P B (declared_names text spans roles base)) s

pub still-numbered : {text spans roles spans' roles' types ranks : List ℕ} {base base' : ℕ} → NamesDeclared text spans roles base spans' roles' base'
    → Numbered roles types ranks base → Numbered roles' types ranks base
still-numbered {text} {spans} {roles} {spans'} {roles'} d s = record {
  types_long = s.types_long;
  ranks_long = s.ranks_long;
  types_right = λ k h.
      s.types_right k h
      ∙ sym (type-names-counted text spans roles (suc k))
      ∙ ap types_among (sym (d.same (suc k) (omega arith)))
      ∙ type-names-counted text spans' roles' (suc k);
  ranks_right = λ k h.
      s.ranks_right k h
      ∙ sym (ranks-counted text spans roles (suc k))
      ∙ ap constructors_among (sym (d.same (suc k) (omega arith)))
      ∙ ranks-counted text spans' roles' (suc k);
}
