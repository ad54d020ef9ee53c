-- The leaves of a type taken off a chain: for a pair type those of its first part and then those of its second, for a flat type one
-- leaf, no greater than the type's count. Assumes nothing.
use mathlib.Core.Path.{◌≡◌, refl, sym, ◌∙◌, ap}
use mathlib.Core.Bool.{false}
use mathlib.Core.List.{List, [], ◌∷◌, ◌++◌, append_assoc, append-nil}
use Rattle.std.specs.Prelude.{Option, Some, None}
use Prim.Native.Nat.{ℕ, zero, suc, ◌≤◌, ◌<◌}
use native.Mathlib.Omega.{arith}
use borrow.Author.Tests.{lt-leb, le-leb, ne_eqb}
use lib.Dec.{eqb}
use Rattle.std.specs.Option.{option_eq}
use Rattle.picoella.specs.Language.{bounds}
use Rattle.records.specs.Words.{count, word, word_a, word_b, next_word}
use Rattle.records.specs.Kinds.{type_of, flat, pair, types, TypeKind, leafs, is_pair}
use Rattle.records.specs.Says.{kind_at, sort_at}
use Rattle.records.specs.Trees.{type_at, TypeRecord, chain, follow}
use Rattle.records.specs.Decoding.{leaf_values}
use Rattle.records.specs.Sized.{Sized}
use Rattle.records.specs.Written.{Written}
use Rattle.records.proofs.Tests.{never_both}
use Rattle.records.proofs.Table.{kind-of-sort}
use Rattle.records.proofs.Asked.{past-header}
use Rattle.records.proofs.Trees.{chain-of, next-leaf}
use Rattle.records.proofs.Types.{flat-type, pair-type, pair_parts}
use Rattle.records.proofs.TypeRecords.{first_part, second-part}
use Rattle.typing.specs.Judgements.{within}
use Rattle.typing.specs.LeafChains.{LeafOrEnd, values_from, remains_within, TakenOff}

follows : (s : List ℕ) (r : ℕ) → 0 < r → follow [] (chain s) r ≡ chain s r
follows s zero h = absurd (omega arith)
follows s (suc r) h = refl

misfit-from : (r : ℕ) → ◌≡◌ {A = Option ℕ} None (Some r) → ⊥
misfit-from r e = let z : ◌≡◌ {A = ℕ} 0 1 = cc in omega arith

pub type-there : {s : List ℕ} {n t : ℕ} → Sized s n → TypeRecord s t → t < n
type-there z r = let c = z.counted in let h = r.there in omega arith

pub leaf-counted : {s : List ℕ} {n r : ℕ} → Sized s n → r < n → r < count s
leaf-counted z h = let c = z.counted in omega arith

pub leaf-there : {s : List ℕ} {n leaf : ℕ} → Sized s n → LeafOrEnd s leaf → (leaf ≡ 0 → ⊥) → leaf < n
leaf-there z l g = let c = z.counted in let h = (l.leaf (omega arith)).0 in omega arith

module _ {s : List ℕ} (w : Written s) {t : ℕ} (r : TypeRecord s t) (leaf : ℕ) where
  -- of a pair type
  module _ (e : kind_at s t ≡ type_of pair) where
    both : (ns : List ℕ) → bounds (type_at s t) ++ ns ≡ bounds (type_at s (word_a s t)) ++ (bounds (type_at s (word_b s t)) ++ ns)
    both ns =
        rw (pair-type w t r.there e)
        (append_assoc (bounds (type_at s (word_a s t))) (bounds (type_at s (word_b s t))) ns)

    pub first-lower : {x : ℕ} → x ≡ word s t 2 → TypeRecord s x × (x < t)
    first-lower ex =
        rw ex (first_part w t r.there e, (pair_parts w t r.there e).0)

    pub second-lower : {y : ℕ} → y ≡ word s t 3 → TypeRecord s y × (y < t)
    second-lower ey =
        rw ey (second-part w t r.there e, (pair_parts w t r.there e).2)

    pub first-misfit : {x : ℕ} → x ≡ word s t 2 → TakenOff s x leaf None → TakenOff s t leaf None
    first-misfit ex o = record {
      goes_on = o.goes_on;
      same = λ ns. rw (both ns, ← ex) (o.same (bounds (type_at s (word_b s t)) ++ ns));
    }

    pub both-taken : {x y rest : ℕ} {first second : Option ℕ} → x ≡ word s t 2 → y ≡ word s t 3 → TakenOff s x leaf first
        → first ≡ Some rest → TakenOff s y rest second → TakenOff s t leaf second
    both-taken {y = y} ex ey o m p = record {
      goes_on = p.goes_on;
      same = λ ns. rw (both ns, ← ex, ← ey) (o.same (bounds (type_at s y) ++ ns) ∙ rw m (p.same ns));
    }

  -- of a flat type
  module _ (f : is_pair (kind_at s t) ≡ false) where
    one-bound : bounds (type_at s t) ≡ word_a s t ∷ []
    one-bound = let q = kind-of-sort types (kind_at s t) r.sort in go q.0 q.1
      where
        go : (q : TypeKind) → kind_at s t ≡ type_of q → bounds (type_at s t) ≡ word_a s t ∷ []
        go flat e = rw (flat-type s t e)
        go pair e = absurd (never_both false (sym f ∙ ap is_pair e) refl)

    pub no-leaf-left : leaf ≡ 0 → TakenOff s t leaf None
    no-leaf-left z = record { goes_on = λ q e. absurd (misfit-from q e); same = λ ns. rw (one-bound, z) }

    module _ (there : LeafOrEnd s leaf) (g : leaf ≡ 0 → ⊥) {c v : ℕ} (ec : c ≡ word s t 2) (ev : v ≡ word s leaf 2) where
      past : 0 < leaf
      past = omega arith

      values : values_from s leaf ≡ word_a s leaf ∷ values_from s (next_word s leaf)
      values = let l = there.leaf past in rw (follows s leaf past, chain-of w leaf l.0 l.1)

      pub too-great : c < v → TakenOff s t leaf None
      too-great h = record {
        goes_on = λ q e. absurd (misfit-from q e);
        same = λ ns. rw (one-bound, values, ← ec, ← ev, lt-leb v c h);
      }

      pub one-taken : v ≤ c → {x : ℕ} → x ≡ word s leaf 1 → TakenOff s t leaf (Some x)
      one-taken h {x} ex = record {
        goes_on = λ q e. record { leaf = λ p. next q e p };
        same = λ ns. rw (one-bound, values, ← ec, ← ev, le-leb v c h, ← ex);
      }
        where
          next : (q : ℕ) → ◌≡◌ {A = Option ℕ} (Some x) (Some q) → 0 < q → (q < count s) × (sort_at s q ≡ leafs)
          next q e p =
              let l = there.leaf past in
              let d : q ≡ next_word s leaf = sym (cc) ∙ ex in
              let m = next-leaf w leaf l.0 l.1 (rw (← d) p) in
              rw d (m.1, m.2)

-- the whole chain
pub starts : {s : List ℕ} (first : ℕ) → first < count s → sort_at s first ≡ leafs → LeafOrEnd s first
starts first h e = record { leaf = λ p. (h, e) }

module _ {s : List ℕ} (w : Written s) (t first : ℕ) (h : first < count s) (e : sort_at s first ≡ leafs) where
  past_first : 0 < first
  past_first = past-header w first (rw e)

  module _ (answer : Option ℕ) (o : TakenOff s t first answer) where
    whole : within (bounds (type_at s t)) (leaf_values s (chain s first)) ≡ remains_within s [] answer
    whole = rw (← follows s first past_first) (rw (append-nil (bounds (type_at s t))) at (o.same []))

    pub taken-whole : option_eq eqb answer (Some 0) ≡ within (bounds (type_at s t)) (leaf_values s (chain s first))
    taken-whole = go answer o.goes_on ∙ sym whole
      where
        rest-fits : (q : ℕ) → LeafOrEnd s q → eqb q 0 ≡ within [] (values_from s q)
        rest-fits zero l = refl
        rest-fits (suc q) l =
            let p = l.leaf (omega arith) in
            sym (rw (chain-of w (suc q) p.0 p.1, ne_eqb (suc q) 0 (λ z. omega arith)))

        go : (a : Option ℕ) → ((r : ℕ) → a ≡ Some r → LeafOrEnd s r) → option_eq eqb a (Some 0) ≡ remains_within s [] a
        go None g = refl
        go (Some r) g = rest-fits r (g r refl)

    pub misfit-whole : answer ≡ None → false ≡ within (bounds (type_at s t)) (leaf_values s (chain s first))
    misfit-whole m = rw m at taken-whole

    pub fits_whole : {rest : ℕ} → answer ≡ Some rest → eqb rest 0 ≡ within (bounds (type_at s t)) (leaf_values s (chain s first))
    fits_whole m = rw m at taken-whole
