-- A table of the types of patterns, by record: of the chain of alternatives from a record the one type that each of them has, 0
-- where there is none. It is filled from the last record down, since the parts of a pattern and what follows it are higher.
use Rattle.std.specs.Prelude.{ℕ, ◌+◌, ◌≤◌, ◌<◌, ◌≡◌, List, length, get_or, eqb, zero, Option, Some, None}
use Rattle.records.specs.Limits.{most_records, word_bound}
use Rattle.records.specs.Words.{count}
use Rattle.records.specs.Kinds.{patterns}
use Rattle.records.specs.Says.{sort_at}
use Rattle.records.specs.Sized.{Sized}
use Rattle.records.specs.Trees.{TypeRecord, alternatives}
use Rattle.structure.specs.PairIndex.{Indexed}
use Rattle.structure.specs.Rules.{Passes}
use Rattle.typing.specs.Judgements.{pattern_fits}
use Rattle.typing.specs.Judging.{FittedOne}

-- the alternative at p has type record x and no other
abbrev pub TypedOne : List ℕ → ℕ → ℕ → Type 0
TypedOne s p x = (t : ℕ) → TypeRecord s t → FittedOne s p t (eqb x t)

-- and so have all alternatives from p
abbrev pub TypedAll : List ℕ → ℕ → ℕ → Type 0
TypedAll s p x = (t : ℕ) → TypeRecord s t → pattern_fits s (alternatives s p) t ≡ eqb x t

-- the table has the types of the patterns from a record on
pub record PatternsTyped (s : List ℕ) (from : ℕ) (types : List ℕ) : Type 0 where
  pub long : length types ≡ most_records
  pub small : (p : ℕ) → get_or types p 0 < word_bound
  pub typed : (p : ℕ) → from ≤ p → p < count s → sort_at s p ≡ patterns → TypedAll s p (get_or types p 0)

-- what finding the type of record p is called with
pub record TypingPattern (s : List ℕ) (n : ℕ) (index types : List ℕ) (p : ℕ) : Type 0 where
  pub sized : Sized s n
  pub passes : Passes s
  pub indexed : Indexed s n index
  pub there : p < n
  pub above : PatternsTyped s (p + 1) types

-- what judging looks up: the pair types by their parts, and the types of patterns
pub record TypeTables (s : List ℕ) (n : ℕ) (index types : List ℕ) : Type 0 where
  pub indexed : Indexed s n index
  pub typed : PatternsTyped s 0 types

-- the number of a record, 0 where there is none
abbrev pub or_zero : Option ℕ → ℕ
or_zero None = zero
or_zero (Some r) = r
