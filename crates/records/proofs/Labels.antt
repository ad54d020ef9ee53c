-- Two sheets that differ in the delays' words d alone have each other word in common, and each record of the one is well said where
-- that of the other is: a delay's word d may be any number, and no other word is read differently.
-- Assumes nothing.
use Prim.Native.Nat.{ℕ, ◌+◌, ◌*◌, ◌<◌}
use mathlib.Core.Bool.{◌&&◌}
use mathlib.Core.List.{List}
use mathlib.Core.Path.{◌≡◌, refl, ap, ap₂}
use mathlib.Core.Logic.{◌⊎◌, inl, inr}
use native.Mathlib.Omega.{arith}
use native.Mathlib.Decide.{ℕ_discrete, dec_lt}
use Rattle.records.specs.Words.{word, word_a}
use Rattle.records.specs.Kinds.{
  Sort,
  types,
  expression,
  delay,
  Ask,
  zeroed,
  next_of,
  part,
  any_type,
  lower_type,
  lower_flat,
  constructor_of,
  counted,
  byte,
  free,
  total,
  never,
  ask_of,
}
use Rattle.records.specs.Says.{kind_at, ask_at, higher, meets, meets_word_at, well_said}
use Rattle.records.specs.Rewritten.{Rewritten}
use Rattle.records.specs.OnlyLabels.{OnlyLabels}
use Rattle.records.proofs.Table.{ask_of_kind, ask-by-kind}
use Rattle.records.proofs.Rewritten.{same_count, same_kind, delay-or-not}

-- a word whose first byte is that of a word d is that word d
same_label : (r k q : ℕ) → k < 6 → 12 * r + 2 * k ≡ 12 * q + 10 → (r ≡ q) × (k ≡ 5)
same_label r k q h e = go (dec_lt r q) (dec_lt q r)
  where
    go : Dec (r < q) → Dec (q < r) → (r ≡ q) × (k ≡ 5)
    go (yes a) b = absurd (omega arith)
    go (no a) (yes b) = absurd (omega arith)
    go (no a) (no b) = (omega arith, omega arith)

module _ {s s' : List ℕ} (o : OnlyLabels s s') where
  -- a word that is not the word d of a delay
  no_label : (r k : ℕ) → k < 6 → (kind_at s r ≡ expression delay → k ≡ 5 → ⊥) → word s' r k ≡ word s r k
  unfolding word
  no_label r k h other =
      ap₂ (λ x y. x + 256 * y)
      (o.bytes (12 * r + 2 * k) (λ q e. (λ i. at q e (same_label r k q h i), λ i. absurd (omega arith))))
      (o.bytes (12 * r + 2 * k + 1) (λ q e. (λ i. absurd (omega arith), λ i. at q e (same_label r k q h (omega arith)))))
    where
      at : (q : ℕ) → kind_at s q ≡ expression delay → (r ≡ q) × (k ≡ 5) → ⊥
      at q e p = other (rw p.0 e) p.1

  pub labels-words : (r k : ℕ) → k < 5 → word s' r k ≡ word s r k
  labels-words r k h = no_label r k (omega arith) (λ e z. omega arith)

  pub labels-rewritten : Rewritten s s'
  labels-rewritten = record {
    length = o.length;
    others = λ r f k h. labels-words r k h;
    leaves = λ r k h f. labels-words r k h;
    unlabelled = λ r f. no_label r 5 (omega arith) (λ e z. f e);
  }

  same-higher : (r : ℕ) (σ : Sort) (v : ℕ) → higher s' r σ v ≡ higher s r σ v
  same-higher r σ v = rw (same_count labels-rewritten, same_kind labels-rewritten v)

  meets-same : (r : ℕ) (a : Ask) (v : ℕ) → meets s' r a v ≡ meets s r a v
  meets-same r zeroed v = refl
  meets-same r (next_of σ) v = rw (same-higher r σ v)
  meets-same r (part σ) v = same-higher r σ v
  meets-same r any_type v = same-higher 0 types v
  meets-same r lower_type v = rw (same_kind labels-rewritten v)
  meets-same r lower_flat v = rw (same_kind labels-rewritten v)
  meets-same r constructor_of v = rw (labels-words r 2 (omega arith), labels-words (word_a s r) 2 (omega arith))
  meets-same r counted v = refl
  meets-same r byte v = refl
  meets-same r free v = refl
  meets-same r total v = rw (same_count labels-rewritten)
  meets-same r never v = refl

  word_same : (r j : ℕ) → j < 6 → meets_word_at s' r j ≡ meets_word_at s r j
  word_same r j h = go (ℕ_discrete j 5) (delay-or-not (kind_at s r))
    where
      same-ask : ask_at s' r j ≡ ask_at s r j
      same-ask = ap (λ n. ask_of n j) (labels-words r 0 (omega arith))

      unchanged : word s' r j ≡ word s r j → meets_word_at s' r j ≡ meets_word_at s r j
      unchanged e = rw (same-ask, e) (meets-same r (ask_at s r j) (word s r j))

      go : Dec (j ≡ 5) → (kind_at s r ≡ expression delay) ⊎ (kind_at s r ≡ expression delay → ⊥) → meets_word_at s' r j ≡ meets_word_at s r j
      go (no f) d = unchanged (labels-words r j (omega arith))
      go (yes z) (inr f) = unchanged (rw z (labels-rewritten.unlabelled r f))
      go (yes z) (inl e) = rw (same-ask, z, ask-by-kind s r 5 (expression delay) e) (unfold ask_of_kind in refl)

  -- a record says what the table asks as it did
  pub said_same : (r : ℕ) → well_said s' r ≡ well_said s r
  unfolding well_said
  said_same r =
      ap₂ ◌&&◌ (word_same r 1 (omega arith))
      (ap₂ ◌&&◌ (word_same r 2 (omega arith))
      (ap₂ ◌&&◌ (word_same r 3 (omega arith)) (ap₂ ◌&&◌ (word_same r 4 (omega arith)) (word_same r 5 (omega arith)))))
