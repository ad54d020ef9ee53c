-- A written sheet with only leaves and labels rewritten, each leaf to a byte, is written, and what codes 4 and 5 ask holds of it
-- where it held: a word that is the same meets the same ask, as kinds and counts are the same, a leaf's word a asks for a byte, and
-- a delay's word d for any number.
-- Assumes nothing.
use Prim.Native.Nat.{ℕ, ◌≤◌, ◌<◌}
use mathlib.Core.Bool.{true, ◌&&◌}
use mathlib.Core.List.{List}
use mathlib.Core.Path.{◌≡◌, refl, sym, ap, ◌∙◌}
use mathlib.Core.Logic.{◌⊎◌, inl, inr}
use native.Mathlib.Omega.{arith}
use native.Mathlib.Decide.{ℕ_discrete}
use borrow.Author.Tests.{le-leb}
use Rattle.records.specs.Words.{word, count, kind_word, word_a}
use Rattle.records.specs.Kinds.{
  Sort,
  type_of,
  flat,
  types,
  leaf,
  expression,
  delay,
  Ask,
  zeroed,
  next_of,
  part,
  any_type,
  lower_type,
  lower_flat,
  constructor_of,
  counted,
  byte,
  free,
  total,
  never,
  ask_of,
}
use Rattle.records.specs.Says.{kind_at, ask_at, higher, meets, meets_word_at, well_said}
use Rattle.records.specs.Rewritten.{Rewritten}
use Rattle.records.specs.Written.{Written, WellNamed}
use Rattle.records.proofs.Tests.{both}
use Rattle.records.proofs.Table.{ask_of_kind, ask-by-kind, constructor-of-flat}
use Rattle.records.proofs.Asked.{meets_at, as-asked}
use Rattle.records.proofs.Rewritten.{same_count, same_kind, same-namings, leaf-or-not, delay-or-not}

module _ {s s' : List ℕ} (w : Written s) (o : Rewritten s s')
    (small : (r : ℕ) → r < count s → kind_at s r ≡ leaf → word_a s' r ≤ 255) where
  same-ask : (r j : ℕ) → ask_at s' r j ≡ ask_at s r j
  same-ask r j = ap (λ n. ask_of n j) (o.leaves r 0 (omega arith) (λ e. omega arith))

  same-higher : (r : ℕ) (σ : Sort) (v : ℕ) → higher s' r σ v ≡ higher s r σ v
  same-higher r σ v = rw (same_count o, same_kind o v)

  -- the count of the flat type of a record that asks for a constructor
  same-bound : (r j : ℕ) → r < count s → ask_at s r j ≡ constructor_of → word_a s' (word_a s' r) ≡ word_a s (word_a s r)
  same-bound r j h e =
      let a = constructor-of-flat (kind_word s r) j e in
      let f : (word_a s r < r) × (kind_at s (word_a s r) ≡ type_of flat) = as-asked w r 2 lower_flat h (omega arith) (omega arith) a in
      let here : word_a s' r ≡ word_a s r = o.others r (λ k. no-leaf (sym a ∙ ask-by-kind s r 2 leaf k)) 2 (omega arith) in
      rw here (o.others (word_a s r) (λ k. let z : ◌≡◌ {A = ℕ} 0 1 = cc in omega arith) 2 (omega arith))
    where
      no-leaf : lower_flat ≡ ask_of_kind leaf 2 → ⊥
      no-leaf e = unfold ask_of_kind in (let z : ◌≡◌ {A = ℕ} 0 1 = cc in omega arith)

  meets-again : (r : ℕ) (a : Ask) (v : ℕ) → (a ≡ constructor_of → word_a s' (word_a s' r) ≡ word_a s (word_a s r))
      → meets s r a v ≡ true → meets s' r a v ≡ true
  meets-again r zeroed v bound e = e
  meets-again r (next_of σ) v bound e = rw (same-higher r σ v) e
  meets-again r (part σ) v bound e = rw (same-higher r σ v) e
  meets-again r any_type v bound e = rw (same-higher 0 types v) e
  meets-again r lower_type v bound e = rw (same_kind o v) e
  meets-again r lower_flat v bound e = rw (same_kind o v) e
  meets-again r constructor_of v bound e = rw (bound refl) e
  meets-again r counted v bound e = e
  meets-again r byte v bound e = e
  meets-again r free v bound e = e
  meets-again r total v bound e = rw (same_count o) e
  meets-again r never v bound e = e

  word-again : (r j : ℕ) → r < count s → 0 < j → j < 6 → meets_word_at s' r j ≡ true
  word-again r j h low high = go (ℕ_discrete j 2) (ℕ_discrete j 5) (leaf-or-not (kind_at s r)) (delay-or-not (kind_at s r))
    where
      unchanged : word s' r j ≡ word s r j → meets_word_at s' r j ≡ true
      unchanged e =
          rw (same-ask r j, e) (meets-again r (ask_at s r j) (word s r j) (same-bound r j h) (meets_at w r j h low high))

      go : Dec (j ≡ 2) → Dec (j ≡ 5) → (kind_at s r ≡ leaf) ⊎ (kind_at s r ≡ leaf → ⊥)
          → (kind_at s r ≡ expression delay) ⊎ (kind_at s r ≡ expression delay → ⊥) → meets_word_at s' r j ≡ true
      go (no f) (no g) d x = unchanged (o.leaves r j (omega arith) f)
      go (yes z) y (inr f) x = unchanged (o.others r f j (omega arith))
      go (yes z) y (inl e) x =
          rw (z, ask-by-kind s' r 2 leaf (same_kind o r ∙ e)) (unfold ask_of_kind in le-leb (word_a s' r) 255 (small r h e))
      go (no f) (yes z) d (inl e) =
          rw (z, ask-by-kind s' r 5 (expression delay) (same_kind o r ∙ e)) (unfold ask_of_kind in refl)
      go (no f) (yes z) d (inr g) = unchanged (rw z (o.unlabelled r g))

  said-again : (r : ℕ) → r < count s → well_said s' r ≡ true
  unfolding well_said
  said-again r h =
      both (meets_word_at s' r 1) (meets_word_at s' r 2 && (meets_word_at s' r 3 && (meets_word_at s' r 4 && meets_word_at s' r 5)))
      (word-again r 1 h (omega arith) (omega arith))
      (both (meets_word_at s' r 2) (meets_word_at s' r 3 && (meets_word_at s' r 4 && meets_word_at s' r 5))
      (word-again r 2 h (omega arith) (omega arith))
      (both (meets_word_at s' r 3) (meets_word_at s' r 4 && meets_word_at s' r 5) (word-again r 3 h (omega arith) (omega arith))
      (both (meets_word_at s' r 4) (meets_word_at s' r 5) (word-again r 4 h (omega arith) (omega arith))
      (word-again r 5 h (omega arith) (omega arith)))))

  pub written-again : Written s'
  written-again = record {
    some = rw (same_count o) w.some;
    few = rw (same_count o) w.few;
    headed = same_kind o 0 ∙ w.headed;
    said = λ r h. said-again r (rw (same_count o) at h);
    others = λ r low high. rw (same_kind o r) (w.others r low (rw (same_count o) at high));
  }

pub named_again : (s s' : List ℕ) → Rewritten s s' → WellNamed s → WellNamed s'
named_again s s' o well = λ r low high. rw (same-namings o r) (well r low (rw (same_count o) at high))
