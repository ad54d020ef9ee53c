-- Sheets that differ in labels alone (docs/SHEETS.md, "The run": "Nothing that the check or a run answers depends on them").
use Rattle.std.specs.Prelude.{ℕ, ◌+◌, ◌≡◌, List, length, get_or}
use Rattle.records.specs.Words.{offset}
use Rattle.records.specs.Kinds.{expression, delay}
use Rattle.records.specs.Says.{kind_at}

-- one sheet equals another but for the labels, the delays' words d: it is as long, and each other byte is the same
pub record OnlyLabels (s s' : List ℕ) : Type 0 where
  pub length : length s' ≡ length s
  pub bytes : (i : ℕ)
      → ((r : ℕ) → kind_at s r ≡ expression delay → (i ≡ offset r 5 → ⊥) × (i ≡ offset r 5 + 1 → ⊥))
      → get_or s' i 0 ≡ get_or s i 0
