-- The constructor count of a leaf of a type, found by going down the type's parts: a leaf of a pair is one of its first part's where
-- its number is below that part's leaves, and else one of its second's. Assumes nothing.
use mathlib.Core.Path.{◌≡◌, refl, sym, ◌∙◌, ap}
use mathlib.Core.Bool.{false}
use mathlib.Core.List.{List, ◌++◌}
use Prim.Native.Nat.{ℕ, ◌+◌, ◌-◌, ◌≤◌, ◌<◌}
use native.Mathlib.Omega.{arith}
use lib.ListN.{length, get_or, get_or-append}
use lib.Seq.{get_or-append-add}
use Rattle.picoella.specs.Language.{Ty, Flat, TyTuple, bounds, leaves}
use Rattle.records.specs.Words.{count, word, word_a, word_b}
use Rattle.records.specs.Kinds.{type_of, flat, pair, types, TypeKind, is_pair}
use Rattle.records.specs.Says.{kind_at}
use Rattle.records.specs.Trees.{type_at, TypeRecord}
use Rattle.records.specs.Written.{Written, TypesFit}
use Rattle.records.proofs.Tests.{never_both}
use Rattle.records.proofs.Table.{kind-of-sort}
use Rattle.records.proofs.Types.{leaves-of-bounds, flat-type, pair-type, few-leaves}
use Rattle.records.proofs.TypeRecords.{first_part, second-part}
use Rattle.records.proofs.Types.{pair_parts}
use Rattle.structure.specs.Rules.{Passes}
use Rattle.structure.specs.LeafTable.{LeavesCounted}
use Rattle.structure.proofs.Passes.{written, types-fit}
use Rattle.typing.specs.Judging.{Ground}

-- a table of leaf counts has the leaves of each type of a sheet that passes
pub counts-leaves : (s : List ℕ) (n : ℕ) (table : List ℕ) → n ≡ count s → Passes s → LeavesCounted s n table
    → (t : ℕ) → TypeRecord s t → get_or table t 0 ≡ leaves (type_at s t)
counts-leaves s n table e p c t r =
    let few = few-leaves (types-fit p) t r.there r.sort in
    let h = r.there in
    c.below t (omega arith) ∙ rw r.sort (omega arith)

module _ {s : List ℕ} {n : ℕ} {table : List ℕ} (g : Ground s n table) where
  pub ground-written : Written s
  ground-written = written g.passes

  pub ground-types : TypesFit s
  ground-types = types-fit g.passes

  pub below-count : (r : ℕ) → r < count s → r < n
  below-count r h = let c = g.sized.counted in omega arith

  pub in_count : (r : ℕ) → r < n → r < count s
  in_count r h = let c = g.sized.counted in omega arith

  -- the table has the leaves of each type record
  pub few-of : (t : ℕ) → TypeRecord s t → leaves (type_at s t) ≤ 64
  few-of t r = few-leaves ground-types t r.there r.sort

  pub leaves-counted : (t : ℕ) → TypeRecord s t → get_or table t 0 ≡ leaves (type_at s t)
  leaves-counted t r = g.leaves t r

  -- the leaf `at` of the type record `part` is leaf i of t
  pub record LeafReached (t i part at : ℕ) : Type 0 where
    pub typed : TypeRecord s part
    pub below : at < leaves (type_at s part)
    pub same : get_or (bounds (type_at s t)) i 0 ≡ get_or (bounds (type_at s part)) at 0

  pub reached-itself : (t i : ℕ) → TypeRecord s t → i < leaves (type_at s t) → LeafReached t i t i
  reached-itself t i r h = record { typed = r; below = h; same = refl }

  module _ (t i part at : ℕ) (r : LeafReached t i part at) where
    module _ (e : kind_at s part ≡ type_of pair) where
      split : type_at s part ≡ TyTuple (type_at s (word_a s part)) (type_at s (word_b s part))
      split = pair-type ground-written part r.typed.there e

      pub first-typed : TypeRecord s (word_a s part)
      first-typed = first_part ground-written part r.typed.there e

      pub parts-lower : (word_a s part < part) × (word_b s part < part)
      parts-lower = let p = pair_parts ground-written part r.typed.there e in (p.0, p.2)

      pub reached-first : (x w : ℕ) → x ≡ word s part 2 → w ≡ get_or table x 0 → at < w → LeafReached t i x at
      reached-first x w ex ew h =
          let m = leaves-counted (word_a s part) first-typed in
          let lw : w ≡ leaves (type_at s (word_a s part)) = ew ∙ ap (λ (y : ℕ). get_or table y 0) ex ∙ m in
          rw ex
          (record {
            typed = first-typed;
            below = omega arith;
            same =
                r.same
                ∙ ap (λ (τ : Ty). get_or (bounds τ) at 0) split
                ∙ get_or-append (bounds (type_at s (word_a s part))) (bounds (type_at s (word_b s part))) 0 at
                (omega (arith, leaves-of-bounds (type_at s (word_a s part))));
          })

      pub reached-second : (x y w : ℕ) → x ≡ word s part 2 → y ≡ word s part 3 → w ≡ get_or table x 0 → w ≤ at → LeafReached t i y (at - w)
      reached-second x y w ex ey ew h =
          let m = leaves-counted (word_a s part) first-typed in
          let lw : w ≡ leaves (type_at s (word_a s part)) = ew ∙ ap (λ (z : ℕ). get_or table z 0) ex ∙ m in
          let b = r.below in
          let sum : leaves (type_at s part) ≡ leaves (type_at s (word_a s part)) + leaves (type_at s (word_b s part)) = ap leaves split in
          let long : length (bounds (type_at s (word_a s part))) ≡ w = sym (leaves-of-bounds (type_at s (word_a s part))) ∙ sym lw in
          let back : at ≡ length (bounds (type_at s (word_a s part))) + (at - w) = omega arith in
          rw ey
          (record {
            typed = second-part ground-written part r.typed.there e;
            below = omega arith;
            same =
                r.same
                ∙ ap (λ (τ : Ty). get_or (bounds τ) at 0) split
                ∙ ap (λ (z : ℕ). get_or (bounds (type_at s (word_a s part)) ++ bounds (type_at s (word_b s part))) z 0) back
                ∙ get_or-append-add (bounds (type_at s (word_a s part))) (bounds (type_at s (word_b s part))) (at - w) 0;
          })

    pub reached-flat : (v : ℕ) → is_pair (kind_at s part) ≡ false → v ≡ word s part 2 → v ≡ get_or (bounds (type_at s t)) i 0
    reached-flat v f ev = let q = kind-of-sort types (kind_at s part) r.typed.sort in go q.0 q.1
      where
        go : (q : TypeKind) → kind_at s part ≡ type_of q → v ≡ get_or (bounds (type_at s t)) i 0
        go pair e = absurd (never_both false (sym f ∙ ap is_pair e) refl)
        go flat e =
            let b : at < leaves (Flat part (word_a s part)) = rw (flat-type s part e) at r.below in
            let z : at ≡ 0 = omega arith in
            ev ∙ sym (r.same ∙ ap (λ (τ : Ty). get_or (bounds τ) at 0) (flat-type s part e) ∙ rw z)
