-- The table of leaf counts as records are added to it: a flat type has one leaf, a pair type the leaves of its parts, which stand
-- lower and are in the table, and any other record has none. Assumes nothing.
use mathlib.Core.Path.{◌≡◌, refl, sym, ◌∙◌}
use mathlib.Core.Bool.{true, false, ◌||◌, or-true}
use mathlib.Core.List.{List}
use Prim.Native.Nat.{ℕ, zero, suc, min, ◌+◌, ◌≤◌, ◌<◌}
use native.Mathlib.Omega.{arith}
use native.Mathlib.Decide.{ℕ_discrete}
use borrow.Author.Tests.{eq-eqb, lt-ltb, le-ltb}
use lib.Dec.{ltb}
use lib.ListN.{get_or, set, replicate, length-set, length-replicate, get_or-replicate}
use lib.Seq.{get_or-set_same, get_or-set_other}
use Rattle.std.specs.Prelude.{Option, is_some}
use Rattle.picoella.specs.Language.{leaves}
use Rattle.records.specs.Words.{count, word, word_a, word_b}
use Rattle.records.specs.Kinds.{
  Kind,
  header,
  type_of,
  expression,
  pattern,
  leaf,
  unknown,
  flat,
  pair,
  types,
  sort_of,
  same_sort,
  is_flat,
  is_pair,
}
use Rattle.records.specs.Says.{kind_at, sort_at}
use Rattle.records.specs.Trees.{type_at, pair_below}
use Rattle.records.specs.Written.{Written}
use Rattle.records.proofs.CodeTable.{pair-number}
use Rattle.records.proofs.Table.{is-pair}
use Rattle.records.proofs.Types.{flat-type, pair-type, pair_parts}
use Rattle.structure.specs.Rules.{wrong_type}
use Rattle.structure.specs.LeafTable.{type_leaves, LeavesCounted}
use Rattle.structure.specs.PairIndex.{lower_pair, some_record}

-- a type is flat or a pair
flat-or-pair : (k : Kind) → same_sort (sort_of k) types ≡ (is_flat k || is_pair k)
flat-or-pair header = refl
flat-or-pair (type_of flat) = refl
flat-or-pair (type_of pair) = refl
flat-or-pair (expression k) = refl
flat-or-pair (pattern k) = refl
flat-or-pair leaf = refl
flat-or-pair unknown = refl

pub pair-kind : (s : List ℕ) (r k : ℕ) → k ≡ word s r 0 → k ≡ 17 → kind_at s r ≡ type_of pair
pair-kind s r k ek e = is-pair (kind_at s r) (pair-number _ ∙ eq-eqb _ 17 (sym ek ∙ e))

pub counts-none : (s : List ℕ) → LeavesCounted s 0 (replicate 4096 0)
counts-none s = record {
  long = length-replicate {A = ℕ} 4096 0;
  below = λ r h. absurd (omega arith);
  rest = λ r h l. get_or-replicate {A = ℕ} 4096 r 0 0 l;
}

module _ {s : List ℕ} {rec : ℕ} {table : List ℕ} (counts : LeavesCounted s rec table) (few : rec < 4096) where
  counts-set : (v : ℕ) → v ≡ type_leaves s rec → LeavesCounted s (rec + 1) (set table rec v)
  counts-set v e = record {
    long = length-set table rec v ∙ counts.long;
    below = λ r h. go r h (ℕ_discrete r rec);
    rest = λ r h l. get_or-set_other table rec r v 0 (λ q. omega arith) ∙ counts.rest r (omega arith) l;
  }
    where
      go : (r : ℕ) → r < rec + 1 → Dec (r ≡ rec) → get_or (set table rec v) r 0 ≡ type_leaves s r
      go r h (yes q) =
          let l = counts.long in
          rw q (get_or-set_same table rec v 0 (omega arith) ∙ e)
      go r h (no q) = get_or-set_other table rec r v 0 q ∙ counts.below r (omega arith)

  pub counts-other : is_flat (kind_at s rec) ≡ false → is_pair (kind_at s rec) ≡ false → LeavesCounted s (rec + 1) table
  counts-other f g = record {
    long = counts.long;
    below = λ r h. go r h (ℕ_discrete r rec);
    rest = λ r h l. counts.rest r (omega arith) l;
  }
    where
      none : type_leaves s rec ≡ 0
      none = rw (flat-or-pair, f, g)

      go : (r : ℕ) → r < rec + 1 → Dec (r ≡ rec) → get_or table r 0 ≡ type_leaves s r
      go r h (yes q) = rw q (counts.rest rec (omega arith) few ∙ sym none)
      go r h (no q) = counts.below r (omega arith)

  pub counts-flat : kind_at s rec ≡ type_of flat → LeavesCounted s (rec + 1) (set table rec 1)
  counts-flat f = counts-set 1 (rw (f, flat-type s rec f))

  module _ (w : Written s) (h : rec < count s) (f : kind_at s rec ≡ type_of pair) where
    -- a part of a pair type is a lower type, with its leaves in the table
    abbrev Part : ℕ → Type 0
    Part x = (x < rec) × (get_or table x 0 ≡ min 65 (leaves (type_at s x)))

    part_of : (x : ℕ) → x < rec → sort_at s x ≡ types → Part x
    part_of x l q = (l, counts.below x l ∙ rw q)

    pub first_counted : {x : ℕ} → x ≡ word s rec 2 → Part x
    first_counted ex = let p = pair_parts w rec h f in rw ex (part_of (word_a s rec) p.0 p.1)

    pub second-counted : {x : ℕ} → x ≡ word s rec 3 → Part x
    second-counted ex = let p = pair_parts w rec h f in rw ex (part_of (word_b s rec) p.2 p.3)

    pub counts-pair : {x y v : ℕ} → x ≡ word s rec 2 → y ≡ word s rec 3 → v ≡ min 65 (get_or table x 0 + get_or table y 0)
        → LeavesCounted s (rec + 1) (set table rec v)
    counts-pair {x} {y} {v} ex ey ev = counts-set v (ev ∙ sum)
      where
        sum : min 65 (get_or table x 0 + get_or table y 0) ≡ type_leaves s rec
        sum =
            rw (f, pair-type w rec h f, ← ex, ← ey, (first_counted ex).1, (second-counted ey).1)
            (capped (leaves (type_at s x)) (leaves (type_at s y)))
          where
            capped : (a b : ℕ) → min 65 (min 65 a + min 65 b) ≡ min 65 (a + b)
            capped a b = omega arith

pub no-pair-fits : (s : List ℕ) (r : ℕ) → is_pair (kind_at s r) ≡ false → false ≡ wrong_type s r
unfolding wrong_type
no-pair-fits s r f = rw f

module _ {s : List ℕ} {n : ℕ} {table : List ℕ} (counts : LeavesCounted s n table) (r : ℕ) (h : r < n) (p : is_pair (kind_at s r) ≡ true) where
  counted : get_or table r 0 ≡ min 65 (leaves (type_at s r))
  counted = counts.below r h ∙ rw (is-pair (kind_at s r) p)

  pub many-leaves : 64 < get_or table r 0 → true ≡ wrong_type s r
  unfolding wrong_type
  many-leaves l =
      let m = counted in
      rw (p, lt-ltb 64 (leaves (type_at s r)) (omega arith)) (sym (or-true (ltb 0 (pair_below s (word_a s r) (word_b s r) r))))

  pub few-leaves-fit : {o : Option ℕ} → get_or table r 0 ≤ 64 → o ≡ some_record (lower_pair s r) → is_some o ≡ wrong_type s r
  unfolding wrong_type
  few-leaves-fit {o} l e =
      let m = counted in
      rw (e, p, le-ltb 64 (leaves (type_at s r)) (omega arith)) (some (pair_below s (word_a s r) (word_b s r) r))
    where
      some : (v : ℕ) → is_some (some_record v) ≡ (ltb 0 v || false)
      some zero = refl
      some (suc v) = rw (lt-ltb 0 (suc v) (omega arith))
