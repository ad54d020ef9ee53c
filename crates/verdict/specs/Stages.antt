-- What is known before each stage of the check: the codes so far do not apply. And what a stage gives.
use Rattle.std.specs.Prelude.{ℕ, ◌≡◌, false, List, length, Option, None}
use Rattle.std.proofs.Math.Option.{none}
use Rattle.records.specs.Limits.{most_records}
use Rattle.records.specs.Words.{count}
use Rattle.records.specs.Sized.{Sized}
use Rattle.answers.specs.Answers.{lowest}
use Rattle.answers.specs.Searches.{found}
use Rattle.records.specs.Trees.{circuit}
use Rattle.structure.specs.LeafTable.{LeavesCounted}
use Rattle.structure.specs.PairIndex.{Indexed}
use Rattle.structure.specs.Rules.{wrong_length, wrong_header, wrong_record, wrong_naming, wrong_type}
use Rattle.typing.specs.Judging.{noted}
use Rattle.answers.specs.Answers.{Verdict}
use Rattle.answers.specs.Answers.{Accepted}
use Rattle.verdict.specs.Verdict.{verdict}
use Rattle.verdict.specs.Scopes.{inputs}

-- not code 1
pub record CheckingRecords (s : List ℕ) (n : ℕ) : Type 0 where
  pub sized : Sized s n
  pub length : wrong_length s ≡ false

-- nor 2 and 3
pub record CheckingNamings (s : List ℕ) (n : ℕ) : Type 0 where
  pub measured : CheckingRecords s n
  pub header : wrong_header s ≡ false
  pub records : lowest (wrong_record s) (count s) ≡ none

-- nor 4
pub record CheckingTypes (s : List ℕ) (n : ℕ) : Type 0 where
  pub recorded : CheckingNamings s n
  pub namings : lowest (wrong_naming s) (count s) ≡ none

-- nor 5
pub record CheckingDepths (s : List ℕ) (n : ℕ) : Type 0 where
  pub named : CheckingTypes s n
  pub types : lowest (wrong_type s) (count s) ≡ none

-- what the search of the type records gives: the lowest that is wrong, the leaf counts of types,
-- and where none is wrong the pair types by their parts
pub record TypesChecked (s : List ℕ) (n : ℕ) (answer : Option ℕ) (widths index : List ℕ) : Type 0 where
  pub answered : found answer ≡ lowest (wrong_type s) n
  pub counted : LeavesCounted s n widths
  pub indexed : answer ≡ None → Indexed s n index

-- what the last stage gives: the verdict v, and for an accepted sheet the table `before` with the
-- leaf count of each expression noted
pub record RulesChecked (s : List ℕ) (v answer : Verdict) (before after : List ℕ) : Type 0 where
  pub answered : answer ≡ v
  pub long : length after ≡ most_records
  pub notes : (t : ℕ) → answer ≡ Accepted t → after ≡ noted s (inputs s) (circuit s) before

-- what all stages give: the verdict, and for an accepted sheet a table with the leaf counts of
-- types and then those of expressions
pub record StagesChecked (s : List ℕ) (n : ℕ) (answer : Verdict) (after : List ℕ) : Type 0 where
  pub answered : answer ≡ verdict s
  pub notes : (t : ℕ) → answer ≡ Accepted t
      → (table : List ℕ) × LeavesCounted s n table × (after ≡ noted s (inputs s) (circuit s) table)
