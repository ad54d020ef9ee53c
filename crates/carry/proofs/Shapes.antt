-- Types of one shape, record by record: flats by their counts, pairs by their parts, and a flat never with a pair. Of one shape are
-- types with the same bounds, and each type with itself.
-- Assumes nothing.
use Prim.Native.Nat.{ℕ, ◌<◌}
use mathlib.Core.Bool.{Bool, true, false, ◌&&◌}
use mathlib.Core.List.{List, ◌∷◌, [], ◌++◌}
use mathlib.Core.Path.{◌≡◌, refl, sym, ap, ap₂, ◌∙◌}
use native.Mathlib.Omega.{arith}
use borrow.Author.Tests.{eqb-true, eq-eqb}
use lib.Dec.{eqb}
use Rattle.picoella.specs.Language.{Ty, Flat, TyTuple, bounds}
use Rattle.records.specs.Words.{word, word_a, word_b}
use Rattle.records.specs.declared.kinds.Kind.{Kind}
use Rattle.records.specs.declared.kinds.Kind.TheVariants as Coded
use Rattle.records.specs.Kinded.{kind_meant}
use Rattle.records.proofs.Kinded.{not-flat}
use Rattle.records.specs.Kinds.{TypeKind, type_of, flat, pair, types, is_flat}
use Rattle.records.specs.Says.{kind_at}
use Rattle.records.specs.Trees.{type_at}
use Rattle.records.proofs.Tests.{both_left, both_right}
use Rattle.records.proofs.Table.{kind-of-sort}
use Rattle.records.proofs.Types.{flat-type, pair-type, pair_parts}
use Rattle.records.proofs.TypeRecords.{first_part, second-part}
use Rattle.carry.specs.Labels.{same_shape}
use Rattle.carry.specs.Carrying.{OfTypes, Comparing}

pub shape_same : (τ : Ty) → same_shape τ τ ≡ true
shape_same (Flat r n) = eq-eqb n n refl
shape_same (TyTuple σ τ) = rw (shape_same σ, shape_same τ) refl

pub shape-bounds : (σ τ : Ty) → same_shape σ τ ≡ true → bounds σ ≡ bounds τ
shape-bounds (Flat r n) (Flat q m) e = ap (λ k. k ∷ []) (eqb-true n m e)
shape-bounds (Flat r n) (TyTuple υ ω) e = let z : ◌≡◌ {A = ℕ} 0 1 = cc in absurd (omega arith)
shape-bounds (TyTuple σ τ) (Flat q m) e = let z : ◌≡◌ {A = ℕ} 0 1 = cc in absurd (omega arith)
shape-bounds (TyTuple σ τ) (TyTuple υ ω) e =
    ap₂ ◌++◌ (shape-bounds σ υ (both_left (same_shape σ υ) (same_shape τ ω) e))
    (shape-bounds τ ω (both_right (same_shape σ υ) (same_shape τ ω) e))

no-false : false ≡ true → ⊥
no-false e = let z : ◌≡◌ {A = ℕ} 0 1 = cc in omega arith

-- a type record is flat or a pair
module _ {s : List ℕ} {n t : ℕ} (g : OfTypes s n t) where
  pub type-in : t < n
  type-in = let c = g.sized.counted in let h = g.type.there in omega arith

  by_kind : (k : TypeKind) × (kind_at s t ≡ type_of k)
  by_kind = kind-of-sort types (kind_at s t) g.type.sort

  -- one that is not flat is a pair
  pub shape-pair : (k : Kind) → kind_meant k ≡ kind_at s t → (k ≡ Coded.FlatType → ⊥) → kind_at s t ≡ type_of pair
  shape-pair k e f = go by_kind.0 by_kind.1
    where
      go : (j : TypeKind) → kind_at s t ≡ type_of j → kind_at s t ≡ type_of pair
      go pair d = d
      go flat d = let z : is_flat (kind_meant k) ≡ true = rw (e, d) refl in absurd (no-false (sym (not-flat k f) ∙ z))

  -- the parts of a pair
  module _ (d : kind_at s t ≡ type_of pair) where
    pub first-of : (a : ℕ) → a ≡ word s t 2 → OfTypes s n a × (a < t)
    first-of a ea =
        rw ea
        (record { sized = g.sized; written = g.written; type = first_part g.written t g.type.there d }, (pair_parts g.written t g.type.there d).0)

    pub second-of : (b : ℕ) → b ≡ word s t 3 → OfTypes s n b × (b < t)
    second-of b eb =
        rw eb
        (record { sized = g.sized; written = g.written; type = second-part g.written t g.type.there d }, (pair_parts g.written t g.type.there d).2)

module _ {old : List ℕ} {n t : ℕ} {new : List ℕ} {m u : ℕ} (g : Comparing old n t new m u) where
  -- a flat and a pair
  pub flat-and-pair : kind_at old t ≡ type_of flat → kind_at new u ≡ type_of pair → false ≡ same_shape (type_at old t) (type_at new u)
  flat-and-pair e d = rw (flat-type old t e, pair-type g.after.written u g.after.type.there d) refl

  pub pair-and-flat : kind_at old t ≡ type_of pair → kind_at new u ≡ type_of flat → false ≡ same_shape (type_at old t) (type_at new u)
  pair-and-flat e d = rw (pair-type g.before.written t g.before.type.there e, flat-type new u d) refl

  module _ (a : ℕ) (ea : a ≡ word old t 2) (b : ℕ) (eb : b ≡ word new u 2) where
    -- two flats
    pub flats : kind_at old t ≡ type_of flat → kind_at new u ≡ type_of flat → eqb a b ≡ same_shape (type_at old t) (type_at new u)
    flats e d = rw (flat-type old t e, flat-type new u d, ea, eb) refl

    -- two pairs
    module _ (e : kind_at old t ≡ type_of pair) (d : kind_at new u ≡ type_of pair) where
      pub first-shapes : Comparing old n a new m b × (a < t)
      first-shapes =
          let p = first-of g.before e a ea in
          let q = first-of g.after d b eb in
          (record { before = p.0; after = q.0 }, p.1)

      pub second-shapes : (c k : ℕ) → c ≡ word old t 3 → k ≡ word new u 3 → Comparing old n c new m k × (c < t)
      second-shapes c k ec ek =
          let p = second-of g.before e c ec in
          let q = second-of g.after d k ek in
          (record { before = p.0; after = q.0 }, p.1)

      both-shapes : same_shape (type_at old t) (type_at new u)
          ≡ (same_shape (type_at old (word_a old t)) (type_at new (word_a new u)) && same_shape (type_at old (word_b old t)) (type_at new (word_b new u)))
      both-shapes =
          rw (pair-type g.before.written t g.before.type.there e, pair-type g.after.written u g.after.type.there d)
          refl

      pub firsts-unlike : (x : Bool) → x ≡ same_shape (type_at old a) (type_at new b) → x ≡ false → false ≡ same_shape (type_at old t) (type_at new u)
      firsts-unlike x ex z =
          let first : same_shape (type_at old (word_a old t)) (type_at new (word_a new u)) ≡ false = rw (← ea, ← eb) (sym ex ∙ z) in
          sym (both-shapes ∙ rw first refl)

      pub pair-shapes : (x : Bool) → x ≡ same_shape (type_at old a) (type_at new b) → x ≡ true → (c k : ℕ) → c ≡ word old t 3 → k ≡ word new u 3
          → (y : Bool) → y ≡ same_shape (type_at old c) (type_at new k) → y ≡ same_shape (type_at old t) (type_at new u)
      pair-shapes x ex z c k ec ek y ey =
          let first : same_shape (type_at old (word_a old t)) (type_at new (word_a new u)) ≡ true = rw (← ea, ← eb) (sym ex ∙ z) in
          ey ∙ rw (ec, ek) (sym (both-shapes ∙ rw first refl))
