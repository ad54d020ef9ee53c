-- The constructor counts of a type's leaves are bytes, found through the check's table and filled in leaf by leaf. By induction on the
-- type records, from the lowest up.
-- Assumes nothing.
use Prim.Native.Nat.{ℕ, zero, suc, ◌+◌, ◌≤◌, ◌<◌}
use mathlib.Core.List.Memᴰ
use mathlib.Core.List.{List, [], ◌∷◌, ◌++◌, Memᴰ}
use mathlib.Core.Logic.{◌⊎◌, inl, inr}
use mathlib.Core.Path.{◌≡◌, refl, sym, ◌∙◌}
use native.Mathlib.Omega.{arith}
use native.Mathlib.Numerals.{add-one}
use lib.ListN.{length, get_or, set, take, length-set}
use lib.Seq.{take-length, take-suc, take-suc-set}
use Rattle.picoella.specs.Language.{bounds, leaves}
use Rattle.records.specs.Words.{word_a, word_b}
use Rattle.records.specs.Kinds.{TypeKind, flat, pair, types}
use Rattle.records.specs.Kinds as Kinds
use Rattle.records.specs.Says.{kind_at}
use Rattle.records.specs.Trees.{type_at, TypeRecord}
use Rattle.records.specs.Written.{Written}
use Rattle.records.proofs.Table.{ask_of_kind, kind-of-sort}
use Rattle.records.proofs.Asked.{as-kind-asks}
use Rattle.records.proofs.Types.{pair_parts, flat-type, pair-type, leaves-of-bounds}
use Rattle.records.proofs.TypeRecords.{first_part, second-part}
use Rattle.structure.proofs.Passes.{written}
use Rattle.typing.specs.Judging.{Ground}
use Rattle.verdict.proofs.Exact.{exact}
use Rattle.accepted.specs.Accepting.{Accepting}

-- each number of a list is a byte, and not 0
abbrev AllCounts : List ℕ → Type 0
AllCounts ns = (n : ℕ) → Memᴰ n ns → (0 < n) × (n ≤ 255)

counts-both : (ns ms : List ℕ) → AllCounts ns → AllCounts ms → AllCounts (ns ++ ms)
counts-both ns ms a b n m = go (Memᴰ.append_cases ns m)
  where
    go : Memᴰ n ns ⊎ Memᴰ n ms → (0 < n) × (n ≤ 255)
    go (inl k) = a n k
    go (inr k) = b n k

-- the counts of a type's leaves are bytes, and each leaf has a constructor
bounds-counts : {s : List ℕ} → Written s → (t : ℕ) → TypeRecord s t → AllCounts (bounds (type_at s t))
bounds-counts {s} w t u = go (suc t) t (omega arith) u
  where
    go : (n t : ℕ) → t < n → TypeRecord s t → AllCounts (bounds (type_at s t))
    go zero t h u = absurd (omega arith)
    go (suc n) t h u = let k = kind-of-sort types (kind_at s t) u.sort in by_kind k.0 k.1 (go n)
      where
        by_kind : (k : TypeKind) → kind_at s t ≡ Kinds.type_of k
            → ((a : ℕ) → a < n → TypeRecord s a → AllCounts (bounds (type_at s a))) → AllCounts (bounds (type_at s t))
        by_kind flat k lower =
            let f : (0 < word_a s t) × (word_a s t ≤ 255) = unfold ask_of_kind in as-kind-asks w t _ u.there k 2 refl in
            rw (flat-type s t k) (λ n m. let e = Memᴰ.eq_of_singleton m in (omega arith, omega arith))
        by_kind pair k lower =
            let p = pair_parts w t u.there k in
            rw (pair-type w t u.there k)
            (counts-both (bounds (type_at s (word_a s t))) (bounds (type_at s (word_b s t)))
            (lower (word_a s t) (omega arith) (first_part w t u.there k))
            (lower (word_b s t) (omega arith) (second-part w t u.there k)))

-- each number of a list is a byte
abbrev pub AllBytes : List ℕ → Type 0
AllBytes ns = (n : ℕ) → Memᴰ n ns → n ≤ 255

pub bounds-small : {s : List ℕ} → Written s → (t : ℕ) → TypeRecord s t → AllBytes (bounds (type_at s t))
bounds-small w t u n m = (bounds-counts w t u n m).1

pub bounds-positive : {s : List ℕ} → Written s → (t : ℕ) → TypeRecord s t → (n : ℕ) → Memᴰ n (bounds (type_at s t)) → 0 < n
bounds-positive w t u n m = (bounds-counts w t u n m).0

-- a leaf of a list of bytes
pub listed_small : (ns : List ℕ) → AllBytes ns → (i : ℕ) → get_or ns i 0 ≤ 255
listed_small [] f i = omega arith
listed_small (n ∷ ns) f zero = f n (Memᴰ.head refl)
listed_small (n ∷ ns) f (suc i) = listed_small ns (λ m k. f m (Memᴰ.tail k)) i

pub bound-small : {s : List ℕ} {n : ℕ} {widths : List ℕ} → Accepting s n widths → (t : ℕ) → TypeRecord s t → (i : ℕ)
    → get_or (bounds (type_at s t)) i 0 ≤ 255
bound-small {s} g t u i =
    listed_small (bounds (type_at s t)) (bounds-small (written ((exact s g.type).0 g.accepted).0) t u) i

-- the check's table serves where leaves are looked up
pub accepting-ground : {s : List ℕ} {n : ℕ} {widths : List ℕ} → Accepting s n widths → Ground s n widths
accepting-ground {s} g = record { sized = g.sized; passes = ((exact s g.type).0 g.accepted).0; leaves = g.table.types }

-- the counts before leaf i are filled in
pub record BoundsFilled (bs : List ℕ) (i : ℕ) (out : List ℕ) : Type 0 where
  pub few : i ≤ length bs
  pub long : length out ≡ length bs
  pub so_far : take i out ≡ take i bs

module _ {bs : List ℕ} where
  pub none_filled : (out : List ℕ) → length out ≡ length bs → BoundsFilled bs 0 out
  none_filled out e = record { few = omega arith; long = e; so_far = refl }

  module _ (i : ℕ) (out : List ℕ) (f : BoundsFilled bs i out) where
    pub fill-next : i < length bs → (v : ℕ) → v ≡ get_or bs i 0 → BoundsFilled bs (i + 1) (set out i v)
    fill-next h v e =
        let l = f.long in
        record {
          few = omega arith;
          long = length-set out i v ∙ l;
          so_far = rw (add-one i, take-suc-set out i v (omega arith), take-suc bs i 0 h, f.so_far, e) refl;
        }

    pub all-filled : length bs ≤ i → out ≡ bs
    all-filled h =
        let w = f.few in
        let l = f.long in
        let e : i ≡ length bs = omega arith in
        let whole : take (length out) out ≡ take (length bs) bs = rw (l, ← e) f.so_far in
        sym (take-length out) ∙ whole ∙ take-length bs

pub type-bounds : (s : List ℕ) (t : ℕ) (out : List ℕ) → length out ≡ leaves (type_at s t) → length out ≡ length (bounds (type_at s t))
type-bounds s t out e = e ∙ leaves-of-bounds (type_at s t)
