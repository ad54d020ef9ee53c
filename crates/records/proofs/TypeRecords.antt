-- Type records: what a type word names is one, a pair record's parts are, and two of the same type are the same record. The
-- last by induction on the record: a flat type carries its record's number, and of two pairs of the same types the parts are
-- the same records, so that each is the one pair record of these parts.
-- Assumes nothing.
use Prim.Native.Nat.{ℕ, zero, suc, ◌<◌}
use mathlib.Core.Bool.{true, ◌&&◌}
use mathlib.Core.List.{List}
use mathlib.Core.Path.{◌≡◌, refl, sym, ap₂, ◌∙◌}
use native.Mathlib.Omega.{arith}
use lib.Dec.{ltb}
use Rattle.picoella.specs.Language.{Ty, Flat, TyTuple}
use Rattle.records.specs.Words.{word, count, word_a, word_b}
use Rattle.records.specs.Kinds.{Kind, TypeKind, flat, pair, type_of, types, lower_type}
use Rattle.records.specs.Says.{kind_at, sort_at}
use Rattle.records.specs.Trees.{type_at, pair_of, TypeRecord}
use Rattle.records.specs.Written.{Written, TypesFit}
use Rattle.records.proofs.Table.{ask_of_kind, kind-of-sort}
use Rattle.records.proofs.Asked.{as-kind-asks, past-header}
use Rattle.records.proofs.Types.{pair_parts, flat-type, pair-type}
use Rattle.records.proofs.Pairs.{pair-of-found, pair-of-parts}

-- a record of the sheet of the sort of types is no header
pub type-record : {s : List ℕ} → Written s → (t : ℕ) → t < count s → sort_at s t ≡ types → TypeRecord s t
type-record {s} w t h e = record { past = past-header w t (rw e); there = h; sort = e }

-- a type word of a record of this kind names a type record
pub type-word : {s : List ℕ} → Written s → (r : ℕ) (k : Kind) → r < count s → kind_at s r ≡ k → (j : ℕ)
    → (ltb 0 j && ltb j 6) ≡ true
    → ask_of_kind k j ≡ lower_type → TypeRecord s (word s r j)
type-word {s} w r k h e j t a =
    let f : (word s r j < r) × (sort_at s (word s r j) ≡ types) = rw a at (as-kind-asks w r k h e j t) in
    type-record w (word s r j) (omega arith) f.1

-- the input type
pub input-type : {s : List ℕ} → Written s → TypeRecord s (word_a s 0)
input-type {s} w =
    let f : (0 < word_a s 0) × (word_a s 0 < count s) × (sort_at s (word_a s 0) ≡ types) =
    unfold ask_of_kind in as-kind-asks w 0 _ w.some w.headed 2 refl in
    record { past = f.0; there = f.1; sort = f.2 }

pub first_part : {s : List ℕ} → Written s → (t : ℕ) → t < count s → kind_at s t ≡ type_of pair → TypeRecord s (word_a s t)
first_part {s} w t h e = let p = pair_parts w t h e in type-record w (word_a s t) (omega arith) p.1

pub second-part : {s : List ℕ} → Written s → (t : ℕ) → t < count s → kind_at s t ≡ type_of pair → TypeRecord s (word_b s t)
second-part {s} w t h e = let p = pair_parts w t h e in type-record w (word_b s t) (omega arith) p.3

-- a pair record that is found is a type record
pub found-pair : {s : List ℕ} → Written s → (a b : ℕ) → 0 < pair_of s a b → TypeRecord s (pair_of s a b)
found-pair {s} w a b h = let f = pair-of-found s a b (pair_of s a b) refl h in record { past = h; there = f.0; sort = rw f.1 }

-- a record of a pair's type is a pair record of its parts' types
pub pair-record : {s : List ℕ} → Written s → (t : ℕ) (σ τ : Ty) → TypeRecord s t → type_at s t ≡ TyTuple σ τ
    → (kind_at s t ≡ type_of pair) × (type_at s (word_a s t) ≡ σ) × (type_at s (word_b s t) ≡ τ)
pair-record {s} w t σ τ r e = let k = kind-of-sort types (kind_at s t) r.sort in go k.0 k.1
  where
    go : (k : TypeKind) → kind_at s t ≡ type_of k
        → (kind_at s t ≡ type_of pair) × (type_at s (word_a s t) ≡ σ) × (type_at s (word_b s t) ≡ τ)
    go flat k = let f = flat-type s t k in (cc, cc, cc)
    go pair k = let f = pair-type w t r.there k in (k, cc, cc)

-- a record of a flat type is that flat record
pub flat-record : {s : List ℕ} → Written s → (t r n : ℕ) → TypeRecord s t → type_at s t ≡ Flat r n
    → (kind_at s t ≡ type_of flat) × (t ≡ r)
flat-record {s} w t r n u e = let k = kind-of-sort types (kind_at s t) u.sort in go k.0 k.1
  where
    go : (k : TypeKind) → kind_at s t ≡ type_of k → (kind_at s t ≡ type_of flat) × (t ≡ r)
    go flat k = let f = flat-type s t k in (k, cc)
    go pair k = let f = pair-type w t u.there k in (cc, cc)

-- two type records of the same type are one record
pub same-type-same-record : {s : List ℕ} → Written s → TypesFit s → (t u : ℕ) → TypeRecord s t → TypeRecord s u
    → type_at s t ≡ type_at s u → t ≡ u
same-type-same-record {s} w fit t u rt ru e = go (suc t) t u (omega arith) rt ru e
  where
    go : (n t u : ℕ) → t < n → TypeRecord s t → TypeRecord s u → type_at s t ≡ type_at s u → t ≡ u
    go zero t u h rt ru e = absurd (omega arith)
    go (suc n) t u h rt ru e = let k = kind-of-sort types (kind_at s t) rt.sort in by_kind k.0 k.1 (go n)
      where
        by_kind : (k : TypeKind) → kind_at s t ≡ type_of k
            → ((a b : ℕ) → a < n → TypeRecord s a → TypeRecord s b → type_at s a ≡ type_at s b → a ≡ b) → t ≡ u
        by_kind flat k lower = sym (flat-record w u t (word_a s t) ru (sym e ∙ flat-type s t k)).1
        by_kind pair k lower =
            let p = pair-record w u (type_at s (word_a s t)) (type_at s (word_b s t)) ru (sym e ∙ pair-type w t rt.there k) in
            let q = pair_parts w t rt.there k in
            let a : word_a s t ≡ word_a s u = lower (word_a s t) (word_a s u) (omega arith) (first_part w t rt.there k)
            (first_part w u ru.there p.0) (sym p.1) in
            let b : word_b s t ≡ word_b s u = lower (word_b s t) (word_b s u) (omega arith) (second-part w t rt.there k)
            (second-part w u ru.there p.0) (sym p.2) in
            sym (pair-of-parts w fit t rt.there k) ∙ ap₂ (pair_of s) a b ∙ pair-of-parts w fit u ru.there p.0
