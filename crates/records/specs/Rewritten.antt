-- A sheet with only leaves and labels rewritten: as long as the other, and alike in every word but the words a of leaf records and
-- the words d of delays. A run's next sheet is such a one, with its labels as they were; and the one that has other labels alone.
use Rattle.std.specs.Prelude.{ℕ, ◌<◌, ◌≡◌, List, length}
use Rattle.records.specs.Words.{word}
use Rattle.records.specs.Kinds.{expression, delay, leaf}
use Rattle.records.specs.Says.{kind_at}

pub record Rewritten (s s' : List ℕ) : Type 0 where
  pub length : length s' ≡ length s
  pub others : (r : ℕ) → (kind_at s r ≡ leaf → ⊥) → (k : ℕ) → k < 5 → word s' r k ≡ word s r k
  pub leaves : (r k : ℕ) → k < 5 → (k ≡ 2 → ⊥) → word s' r k ≡ word s r k
  pub unlabelled : (r : ℕ) → (kind_at s r ≡ expression delay → ⊥) → word s' r 5 ≡ word s r 5
