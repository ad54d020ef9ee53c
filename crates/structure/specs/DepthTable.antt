-- Tables of how deep each record below a number lies, and in how many feedbacks' defining parts, one byte a record. A depth above
-- 64 stands as 65, a nesting above 3 as 4.
use Rattle.std.specs.Prelude.{ℕ, min, ◌<◌, ◌≡◌, List, length, get_or}
use Rattle.records.specs.Limits.{most_records}
use Rattle.records.specs.Sized.{Sized}
use Rattle.records.specs.Says.{namings}
use Rattle.records.specs.Written.{Written, WellNamed}
use Rattle.structure.specs.Rules.{depth, nesting}
use Rattle.structure.specs.NamerTable.{NamingsHeld}

-- the table holds f of each record below m, no more than the cap
pub record Capped (cap : ℕ) (f : ℕ → ℕ) (m : ℕ) (table : List ℕ) : Type 0 where
  pub long : length table ≡ most_records
  pub below : (r : ℕ) → r < m → get_or table r 0 ≡ min cap (f r)

pub record Placed (s : List ℕ) (m : ℕ) (depths nestings : List ℕ) : Type 0 where
  pub deep : Capped 65 (depth s) m depths
  pub nested : Capped 4 (nesting s) m nestings

-- what the records from m on are placed with
pub record Placing (s : List ℕ) (n m : ℕ) (namers depths nestings : List ℕ) : Type 0 where
  pub sized : Sized s n
  pub written : Written s
  pub well : WellNamed s
  pub named : NamingsHeld (namings s) namers
  pub some : 0 < m
  pub placed : Placed s m depths nestings
