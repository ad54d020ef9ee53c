-- The type of a type record, with no steps counted: a flat record stands for a flat type with its count, a pair record for
-- the pair of its parts' types. The parts of a written pair record are lower, so the steps never run out, and how many are
-- left does not matter. A type has as many leaves as bounds, and at least one.
-- Assumes nothing.
use Prim.Native.Nat.{ℕ, zero, suc, ◌≤◌, ◌<◌}
use mathlib.Core.List.{List}
use mathlib.Core.Path.{◌≡◌, refl, ap₂}
use native.Mathlib.Omega.{arith}
use lib.ListN.{length, length-append}
use Rattle.picoella.specs.Language.{Ty, Flat, TyTuple, bounds, leaves}
use Rattle.records.specs.Words.{count, word_a, word_b}
use Rattle.records.specs.Kinds.{
  Kind,
  header,
  type_of,
  expression,
  pattern,
  leaf,
  unknown,
  TypeKind,
  flat,
  pair,
  types,
}
use Rattle.records.specs.Says.{kind_at, sort_at}
use Rattle.records.specs.Trees.{type_step, type_within, type_at}
use Rattle.records.specs.Written.{Written, TypesFit}
use Rattle.records.proofs.Table.{ask_of_kind, kind-of-sort}
use Rattle.records.proofs.Asked.{as-kind-asks}

pub leaves-of-bounds : (τ : Ty) → leaves τ ≡ length (bounds τ)
leaves-of-bounds (Flat r n) = refl
leaves-of-bounds (TyTuple σ τ) = rw (length-append, leaves-of-bounds σ, leaves-of-bounds τ)

pub some-leaves : (τ : Ty) → 0 < leaves τ
some-leaves (Flat r n) = omega arith
some-leaves (TyTuple σ τ) = omega (arith, some-leaves σ)

-- the parts of a pair record are lower type records
pub pair_parts : {s : List ℕ} → Written s → (r : ℕ) → r < count s → kind_at s r ≡ type_of pair
    → (word_a s r < r) × (sort_at s (word_a s r) ≡ types) × (word_b s r < r) × (sort_at s (word_b s r) ≡ types)
pair_parts {s} w r h e =
    let a : (word_a s r < r) × (sort_at s (word_a s r) ≡ types) = unfold ask_of_kind in as-kind-asks w r (type_of pair) h e 2 refl in
    let b : (word_b s r < r) × (sort_at s (word_b s r) ≡ types) = unfold ask_of_kind in as-kind-asks w r (type_of pair) h e 3 refl in
    (a.0, a.1, b.0, b.1)

-- two ways to go on that agree on the parts of a pair agree on the type
steps-agree : (go other : ℕ → Ty) (k : Kind) (r a b : ℕ) → (k ≡ type_of pair → (go a ≡ other a) × (go b ≡ other b))
    → type_step go k r a b ≡ type_step other k r a b
steps-agree go other header r a b agree = refl
steps-agree go other (type_of flat) r a b agree = refl
steps-agree go other (type_of pair) r a b agree = ap₂ TyTuple (agree refl).0 (agree refl).1
steps-agree go other (expression k) r a b agree = refl
steps-agree go other (pattern k) r a b agree = refl
steps-agree go other leaf r a b agree = refl
steps-agree go other unknown r a b agree = refl

steps-enough : {s : List ℕ} → Written s → (m n r : ℕ) → r < m → r < n → r < count s → type_within s m r ≡ type_within s n r
unfolding type_within
steps-enough {s} w zero n r hm hn h = absurd (omega arith)
steps-enough {s} w (suc m) zero r hm hn h = absurd (omega arith)
steps-enough {s} w (suc m) (suc n) r hm hn h =
    steps-agree (type_within s m) (type_within s n) (kind_at s r) r (word_a s r) (word_b s r)
    (λ e. let p = pair_parts w r h e in (
      steps-enough w m n (word_a s r) (omega arith) (omega arith) (omega arith),
      steps-enough w m n (word_b s r) (omega arith) (omega arith) (omega arith),
    ))

pub flat-type : (s : List ℕ) (r : ℕ) → kind_at s r ≡ type_of flat → type_at s r ≡ Flat r (word_a s r)
unfolding type_at type_within
flat-type s r e = rw e

pub pair-type : {s : List ℕ} → Written s → (r : ℕ) → r < count s → kind_at s r ≡ type_of pair
    → type_at s r ≡ TyTuple (type_at s (word_a s r)) (type_at s (word_b s r))
unfolding type_at type_within
pair-type {s} w r h e =
    let p = pair_parts w r h e in
    rw e
    (ap₂ TyTuple (steps-enough w r (suc (word_a s r)) (word_a s r) p.0 (omega arith) (omega arith))
    (steps-enough w r (suc (word_b s r)) (word_b s r) p.2 (omega arith) (omega arith)))

pub few-leaves : {s : List ℕ} → TypesFit s → (r : ℕ) → r < count s → sort_at s r ≡ types → leaves (type_at s r) ≤ 64
few-leaves {s} fit r h e = let k = kind-of-sort types (kind_at s r) e in go k.0 k.1
  where
    go : (k : TypeKind) → kind_at s r ≡ type_of k → leaves (type_at s r) ≤ 64
    go flat e = rw (flat-type s r e) (omega arith)
    go pair e = fit.small r h e
