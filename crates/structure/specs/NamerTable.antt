-- A table of namings, one number a record: 0 where nothing names the record, 65,535 where it is named but not well named, and else
-- the word that names it, the first where several IFs share a pattern.
use Rattle.std.specs.Prelude.{ℕ, ◌+◌, ◌*◌, ◌<◌, cond, ◌≡◌, List, [], ◌∷◌, ◌++◌, length, get_or}
use Rattle.records.specs.Limits.{most_records}
use Rattle.records.specs.Says.{Naming, well_named}

-- the entry of a record that several words name, and not well
abbrev pub named_several : ℕ
named_several = 65535

abbrev pub summary : List Naming → ℕ
summary [] = 0
summary (n ∷ ns) = cond (well_named (n ∷ ns)) (8 * n.by + n.at + 1) named_several

-- the namings are by words of records
abbrev pub ByWords : List Naming → Type 0
ByWords [] = Unit {0}
ByWords (n ∷ ns) = (n.at < 6) × ByWords ns

-- each record's entry has the namings `more` beside those that it had
pub record NamingsAdded (more : ℕ → List Naming) (before after : List ℕ) : Type 0 where
  pub long : length before ≡ most_records → length after ≡ most_records
  pub entries : (r : ℕ) (ns : List Naming) → r < most_records → ByWords ns → get_or before r 0 ≡ summary ns
      → get_or after r 0 ≡ summary (ns ++ more r)

-- the table holds each record's namings
pub record NamingsHeld (all : ℕ → List Naming) (table : List ℕ) : Type 0 where
  pub long : length table ≡ most_records
  pub entries : (r : ℕ) → r < most_records → get_or table r 0 ≡ summary (all r)
