-- A table of leaf counts, one byte a record, of the type records below a number; 0 at every other record. A count above 64 stands
-- as 65.
use Rattle.std.specs.Prelude.{ℕ, min, ◌≤◌, ◌<◌, ◌≡◌, cond, List, length, get_or}
use Rattle.records.specs.Limits.{most_records}
use Rattle.picoella.specs.Language.{leaves}
use Rattle.records.specs.Kinds.{types, same_sort}
use Rattle.records.specs.Says.{sort_at}
use Rattle.records.specs.Trees.{type_at}

abbrev pub type_leaves : List ℕ → ℕ → ℕ
type_leaves s r = cond (same_sort (sort_at s r) types) (min 65 (leaves (type_at s r))) 0

pub record LeavesCounted (s : List ℕ) (m : ℕ) (table : List ℕ) : Type 0 where
  pub long : length table ≡ most_records
  pub below : (r : ℕ) → r < m → get_or table r 0 ≡ type_leaves s r
  pub rest : (r : ℕ) → m ≤ r → r < most_records → get_or table r 0 ≡ 0
