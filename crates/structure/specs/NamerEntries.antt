-- How a record is named, as the number that stands in a table of namings.
use Rattle.std.specs.Prelude.{ℕ, ◌+◌, ◌*◌, ◌<◌, ◌≡◌, List, [], ◌∷◌, ◌++◌, length, get_or, Bool, true}
use Rattle.records.specs.Limits.{most_records}
use Rattle.records.specs.Says.{Naming}
use Rattle.structure.specs.declared.naming.Named.{Named}
use Rattle.structure.specs.declared.naming.Named.TheVariants.{Nowhere, Well, Badly}
use Rattle.structure.specs.NamerTable.{named_several, summary, ByWords}

abbrev pub entry_of : Named → ℕ
entry_of Nowhere = 0
entry_of (Well n) = 8 * n.by + n.at + 1
entry_of Badly = named_several

-- the number has 16 bits, and gives the word back
abbrev pub FitsEntry : Named → Type 0
FitsEntry Nowhere = Unit {0}
FitsEntry (Well n) = (8 * n.by + n.at + 1 < named_several) × (n.at < 8)
FitsEntry Badly = Unit {0}

-- where a word names record rec, the record's entry has the naming by word `at` of record `by` beside those that it had; no other
-- entry changes
pub record NamingNoted (names : Bool) (rec by at : ℕ) (before after : List ℕ) : Type 0 where
  pub long : length after ≡ length before
  pub here : names ≡ true → rec < most_records → (ns : List Naming) → ByWords ns → get_or before rec 0 ≡ summary ns
      → get_or after rec 0 ≡ summary (ns ++ (record { by = by; at = at } ∷ []))
  pub others : (r : ℕ) → r < most_records → (names ≡ true → r ≡ rec → ⊥) → get_or after r 0 ≡ get_or before r 0
