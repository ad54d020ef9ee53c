-- In a sheet whose records say what the table asks, each word has what it asks for: a part is a higher record of its sort, a
-- type word a lower type record, and so on: by the cases of what is asked.
-- Assumes nothing.
use Prim.Native.Nat.{ℕ, zero, suc, ◌≤◌, ◌<◌}
use mathlib.Core.Bool.{Bool, true, false, ◌&&◌, ◌||◌}
use mathlib.Core.List.{List}
use mathlib.Core.Path.{◌≡◌, refl}
use native.Mathlib.Omega.{arith}
use lib.Dec.{eqb, ltb, leb}
use borrow.Author.Tests.{ltb-true, leb-true, eqb-true, ne_eqb}
use Rattle.records.specs.Words.{word, count, word_a, word_b}
use Rattle.records.specs.Kinds.{
  Sort,
  types,
  flat,
  Kind,
  header,
  type_of,
  same_sort,
  is_flat,
  is_header,
  Ask,
  zeroed,
  next_of,
  part,
  any_type,
  lower_type,
  lower_flat,
  constructor_of,
  counted,
  byte,
  free,
  total,
  never,
  expressions,
}
use Rattle.records.specs.Says.{kind_at, sort_at, ask_at, higher, meets, meets_word_at, well_said}
use Rattle.records.specs.Written.{Written}
use Rattle.records.proofs.Tests.{never_both, both_left, both_right}
use Rattle.records.proofs.Table.{ask_of_kind, ask-by-kind, same-sort, is-flat}

-- what passes at each of the words 1 to 5 passes at any of them
any-of-five : (p : ℕ → Bool) → (p 1 && (p 2 && (p 3 && (p 4 && p 5)))) ≡ true → (k : ℕ) → 0 < k → k < 6 → p k ≡ true
any-of-five p t zero low high = absurd (omega arith)
any-of-five p t (suc zero) low high = both_left (p 1) (p 2 && (p 3 && (p 4 && p 5))) t
any-of-five p t (suc (suc k)) low high = from-two (both_right (p 1) (p 2 && (p 3 && (p 4 && p 5))) t) k high
  where
    from-four : (p 4 && p 5) ≡ true → (k : ℕ) → suc (suc (suc (suc k))) < 6 → p (suc (suc (suc (suc k)))) ≡ true
    from-four t zero high = both_left (p 4) (p 5) t
    from-four t (suc zero) high = both_right (p 4) (p 5) t
    from-four t (suc (suc k)) high = absurd (omega arith)

    from-two : (p 2 && (p 3 && (p 4 && p 5))) ≡ true → (k : ℕ) → suc (suc k) < 6 → p (suc (suc k)) ≡ true
    from-two t zero high = both_left (p 2) (p 3 && (p 4 && p 5)) t
    from-two t (suc zero) high = both_left (p 3) (p 4 && p 5) (both_right (p 2) (p 3 && (p 4 && p 5)) t)
    from-two t (suc (suc k)) high =
        from-four (both_right (p 3) (p 4 && p 5) (both_right (p 2) (p 3 && (p 4 && p 5)) t)) k high

-- each word of a record is what it asks
pub meets_at : {s : List ℕ} → Written s → (r k : ℕ) → r < count s → 0 < k → k < 6 → meets_word_at s r k ≡ true
unfolding well_said
meets_at {s} w r k h low high = any-of-five (meets_word_at s r) (w.said r h) k low high

-- a record whose words are all as asked says nothing wrong, and one with another word does
pub all-meet : (s : List ℕ) (r : ℕ) → ((k : ℕ) → 0 < k → k < 6 → meets_word_at s r k ≡ true) → well_said s r ≡ true
unfolding well_said
all-meet s r m =
    rw (
      m 1 (omega arith) (omega arith),
      m 2 (omega arith) (omega arith),
      m 3 (omega arith) (omega arith),
      m 4 (omega arith) (omega arith),
      m 5 (omega arith) (omega arith),
    )

pub one-fails : (s : List ℕ) (r k : ℕ) → 0 < k → k < 6 → meets_word_at s r k ≡ false → well_said s r ≡ false
unfolding well_said
one-fails s r k low high e = go (well_said s r) refl
  where
    go : (b : Bool) → well_said s r ≡ b → well_said s r ≡ false
    go false t = t
    go true t = absurd (never_both (meets_word_at s r k) (any-of-five (meets_word_at s r) t k low high) e)

-- what it is to be as asked, in words
abbrev pub AskMeans : List ℕ → ℕ → Ask → ℕ → Type 0
AskMeans s r zeroed w = w ≡ 0
AskMeans s r (next_of σ) w = 0 < w → (r < w) × (w < count s) × (sort_at s w ≡ σ)
AskMeans s r (part σ) w = (r < w) × (w < count s) × (sort_at s w ≡ σ)
AskMeans s r any_type w = (0 < w) × (w < count s) × (sort_at s w ≡ types)
AskMeans s r lower_type w = (w < r) × (sort_at s w ≡ types)
AskMeans s r lower_flat w = (w < r) × (kind_at s w ≡ type_of flat)
AskMeans s r constructor_of w = (0 < w) × (w ≤ word_a s (word_a s r))
AskMeans s r counted w = (0 < w) × (w ≤ 255)
AskMeans s r byte w = w ≤ 255
AskMeans s r free w = Unit {0}
AskMeans s r total w = w ≡ count s
AskMeans s r never w = ⊥

pub higher-is : (s : List ℕ) (r : ℕ) (σ : Sort) (w : ℕ) → higher s r σ w ≡ true → (r < w) × (w < count s) × (sort_at s w ≡ σ)
higher-is s r σ w e =
    let f = both_right (ltb r w) (ltb w (count s) && same_sort (sort_at s w) σ) e in (
      ltb-true r w (both_left (ltb r w) (ltb w (count s) && same_sort (sort_at s w) σ) e),
      ltb-true w (count s) (both_left (ltb w (count s)) (same_sort (sort_at s w) σ) f),
      same-sort (sort_at s w) σ (both_right (ltb w (count s)) (same_sort (sort_at s w) σ) f),
    )

next_is : (s : List ℕ) (r : ℕ) (σ : Sort) (w : ℕ) → (eqb w 0 || higher s r σ w) ≡ true → AskMeans s r (next_of σ) w
next_is s r σ w e = λ h. higher-is s r σ w (go (eqb w 0) (ne_eqb w 0 (λ z. omega arith)) e)
  where
    go : (b : Bool) → b ≡ false → (b || higher s r σ w) ≡ true → higher s r σ w ≡ true
    go b f e = rw f at e

-- what meets an ask is as asked
pub means : (s : List ℕ) (r : ℕ) (a : Ask) (w : ℕ) → meets s r a w ≡ true → AskMeans s r a w
means s r zeroed w e = eqb-true w 0 e
means s r (next_of σ) w e = next_is s r σ w e
means s r (part σ) w e = higher-is s r σ w e
means s r any_type w e = higher-is s 0 types w e
means s r lower_type w e = (
  ltb-true w r (both_left (ltb w r) (same_sort (sort_at s w) types) e),
  same-sort (sort_at s w) types (both_right (ltb w r) (same_sort (sort_at s w) types) e),
)
means s r lower_flat w e = (
  ltb-true w r (both_left (ltb w r) (is_flat (kind_at s w)) e),
  is-flat (kind_at s w) (both_right (ltb w r) (is_flat (kind_at s w)) e),
)
means s r constructor_of w e = (
  ltb-true 0 w (both_left (ltb 0 w) (leb w (word_a s (word_a s r))) e),
  leb-true w (word_a s (word_a s r)) (both_right (ltb 0 w) (leb w (word_a s (word_a s r))) e),
)
means s r counted w e =
    (ltb-true 0 w (both_left (ltb 0 w) (leb w 255) e), leb-true w 255 (both_right (ltb 0 w) (leb w 255) e))
means s r byte w e = leb-true w 255 e
means s r free w e = tt
means s r total w e = eqb-true w (count s) e
means s r never w e = absurd (never_both false e refl)

-- word j, from 1 to 5, of a record is as asked
pub as-asked :
    {s : List ℕ} → Written s → (r j : ℕ) (a : Ask) → r < count s → 0 < j → j < 6 → ask_at s r j ≡ a → AskMeans s r a (word s r j)
as-asked {s} w r j a h low high e = rw e at (means s r (ask_at s r j) (word s r j) (meets_at w r j h low high))

-- the same where the kind is known; at a kind and a word `ask_of_kind` computes
pub as-kind-asks :
    {s : List ℕ} → Written s → (r : ℕ) (k : Kind) → r < count s → kind_at s r ≡ k → (j : ℕ) → (ltb 0 j && ltb j 6) ≡ true
    → AskMeans s r (ask_of_kind k j) (word s r j)
as-kind-asks {s} w r k h e j t =
    as-asked w r j (ask_of_kind k j) h (ltb-true 0 j (both_left (ltb 0 j) (ltb j 6) t)) (ltb-true j 6 (both_right (ltb 0 j) (ltb j 6) t))
    (ask-by-kind s r j k e)

-- a word that names a part of a record of this kind
pub part-of-kind :
    {s : List ℕ} → Written s → (r : ℕ) (k : Kind) (σ : Sort) → r < count s → kind_at s r ≡ k → (j : ℕ)
    → (ltb 0 j && ltb j 6) ≡ true
    → ask_of_kind k j ≡ part σ → (r < word s r j) × (word s r j < count s) × (sort_at s (word s r j) ≡ σ)
part-of-kind {s} w r k σ h e j t a = rw a at (as-kind-asks w r k h e j t)

-- a next that is not zero
pub next-of-kind : {s : List ℕ} → Written s → (r : ℕ) (k : Kind) (σ : Sort) → r < count s → kind_at s r ≡ k
    → ask_of_kind k 1 ≡ next_of σ
    → 0 < word s r 1 → (r < word s r 1) × (word s r 1 < count s) × (sort_at s (word s r 1) ≡ σ)
next-of-kind {s} w r k σ h e a = rw a at (as-kind-asks w r k h e 1 refl)

-- a record that is no header is not record 0
pub past-header : {s : List ℕ} → Written s → (r : ℕ) → is_header (kind_at s r) ≡ false → 0 < r
past-header {s} w zero e = absurd (never_both (is_header (kind_at s 0)) (rw w.headed) e)
past-header {s} w (suc r) e = omega arith

-- the root is an expression
pub root_is : {s : List ℕ} → Written s → (0 < word_b s 0) × (word_b s 0 < count s) × (sort_at s (word_b s 0) ≡ expressions)
root_is {s} w = part-of-kind w 0 header expressions w.some w.headed 3 refl (unfold ask_of_kind in refl)
