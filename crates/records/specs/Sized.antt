-- What every reader of a sheet is called with: whole records, as many as n, at most 4,096 (codes 1 does not apply).
use Rattle.std.specs.Prelude.{ℕ, ◌*◌, ◌≤◌, ◌<◌, ◌≡◌, List, length}
use Rattle.records.specs.Limits.{most_records}
use Rattle.records.specs.Words.{count}

pub record Sized (s : List ℕ) (n : ℕ) : Type 0 where
  pub counted : n ≡ count s
  pub whole : length s ≡ 12 * n
  pub some : 0 < n
  pub few : n ≤ most_records
