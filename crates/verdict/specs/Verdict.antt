-- The verdict on a byte string (docs/SHEETS.md, "Codes", 0 to 7): the lowest code that applies, with its place.
use Rattle.std.specs.Prelude.{ℕ, Bool, true, false, List, [], ◌∷◌}
use Rattle.std.proofs.Math.Option.{Option, none, some}
use Rattle.records.specs.Words.{count}
use Rattle.records.specs.Trees.{circuit, type_record_of}
use Rattle.answers.specs.Answers.{Check, check, when, lowest}
use Rattle.structure.specs.Rules.{wrong_length, wrong_header, wrong_record, wrong_naming, wrong_type, too_deep}
use Rattle.typing.specs.Judgements.{judgements, first_failing}
use Rattle.answers.specs.Answers.{Verdict}
use Rattle.verdict.specs.Scopes.{inputs}
use Rattle.answers.specs.Answers.{Accepted, WrongLength, WrongHeader, WrongRecord, WrongNaming, WrongType, TooDeep, IllTyped}

-- a test or a search that refuses, or else what comes after it
abbrev pub unless : Bool → Verdict → Verdict → Verdict
unless true v w = v
unless false v w = w

abbrev pub refusing : Option ℕ → (ℕ → Verdict) → Verdict → Verdict
refusing (some r) f v = f r
refusing none f v = v

-- the output type's record
abbrev pub output_type : List ℕ → ℕ
output_type s = type_record_of s (inputs s) (circuit s)

-- the checks of a sheet, in the order of their codes
abbrev pub sheet_checks : List ℕ → List Check
sheet_checks s =
    check 1 (when (wrong_length s) 0)
    ∷ check 2 (when (wrong_header s) 0)
    ∷ check 3 (lowest (wrong_record s) (count s))
    ∷ check 4 (lowest (wrong_naming s) (count s))
    ∷ check 5 (lowest (wrong_type s) (count s))
    ∷ check 6 (lowest (too_deep s) (count s))
    ∷ check 7 (first_failing s (judgements s (inputs s) (circuit s)))
    ∷ []

-- by the type rules
unfoldable pub by_types : List ℕ → Verdict
by_types s =
    refusing (first_failing s (judgements s (inputs s) (circuit s))) IllTyped
    (Accepted (output_type s))

-- by each rule on records in its turn, the lowest record first, and then by what comes after it
abbrev pub by_depths : List ℕ → Verdict
by_depths s = refusing (lowest (too_deep s) (count s)) TooDeep (by_types s)

abbrev pub by_type_records : List ℕ → Verdict
by_type_records s = refusing (lowest (wrong_type s) (count s)) WrongType (by_depths s)

abbrev pub by_namings : List ℕ → Verdict
by_namings s = refusing (lowest (wrong_naming s) (count s)) WrongNaming (by_type_records s)

unfoldable pub by_records : List ℕ → Verdict
by_records s = refusing (lowest (wrong_record s) (count s)) WrongRecord (by_namings s)

unfoldable pub verdict : List ℕ → Verdict
verdict s = unless (wrong_length s) WrongLength (unless (wrong_header s) WrongHeader (by_records s))
