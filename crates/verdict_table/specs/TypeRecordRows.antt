-- Code 5 (docs/SHEETS.md, "Codes": "a pair type whose two parts a lower pair type has, or that has more than 64 leaves").
use Rattle.std.specs.Prelude.{List, [], ◌∷◌}
use Rattle.records.specs.SheetOf.{words}
use Rattle.answers.specs.Answers.{Accepted, WrongType}
use Rattle.verdict_table.specs.Rows.{VerdictRow, gives}

abbrev pub type_record_rows : List VerdictRow
type_record_rows =
    gives "two pair types have the same parts: the higher is at fault"
    (words 1 1 1 4 5 0 ∷ words 16 2 2 0 0 0 ∷ words 17 3 1 1 0 0 ∷ words 17 0 1 1 0 0 ∷ words 33 0 0 0 0 0 ∷ [])
    (WrongType 3)
    ∷ gives "two pair types of the same parts in the other order pass"
    (words 1 1 1 5 6 0 ∷ words 16 2 2 0 0 0 ∷ words 16 3 3 0 0 0 ∷ words 17 4 1 2 0 0 ∷ words 17 0 2 1 0 0
    ∷ words 33 0 0 0 0 0 ∷ [])
    (Accepted 1)
    ∷ gives "two flat types of as many constructors pass"
    (words 1 1 1 3 4 0 ∷ words 16 2 2 0 0 0 ∷ words 16 0 2 0 0 0 ∷ words 33 0 0 0 0 0 ∷ [])
    (Accepted 1)
    ∷ gives "a pair type of 65 leaves"
    (words 1 1 1 9 10 0 ∷ words 16 2 2 0 0 0 ∷ words 17 3 1 1 0 0 ∷ words 17 4 2 2 0 0 ∷ words 17 5 3 3 0 0
    ∷ words 17 6 4 4 0 0 ∷ words 17 7 5 5 0 0 ∷ words 17 8 6 6 0 0 ∷ words 17 0 7 1 0 0 ∷ words 33 0 0 0 0 0 ∷ [])
    (WrongType 8)
    ∷ gives "a pair type of 64 leaves passes"
    (words 1 1 7 8 9 0 ∷ words 16 2 2 0 0 0 ∷ words 17 3 1 1 0 0 ∷ words 17 4 2 2 0 0 ∷ words 17 5 3 3 0 0
    ∷ words 17 6 4 4 0 0 ∷ words 17 7 5 5 0 0 ∷ words 17 0 6 6 0 0 ∷ words 33 0 0 0 0 0 ∷ [])
    (Accepted 7)
    ∷ gives "same parts, and 65 leaves above: the lower record is the place"
    (words 1 1 1 10 11 0 ∷ words 16 2 2 0 0 0 ∷ words 17 3 1 1 0 0 ∷ words 17 4 1 1 0 0 ∷ words 17 5 2 2 0 0
    ∷ words 17 6 4 4 0 0 ∷ words 17 7 5 5 0 0 ∷ words 17 8 6 6 0 0 ∷ words 17 9 7 7 0 0 ∷ words 17 0 8 1 0 0
    ∷ words 33 0 0 0 0 0 ∷ [])
    (WrongType 3)
    ∷ gives "65 leaves, and same parts above: the lower record is the place"
    (words 1 1 1 10 11 0 ∷ words 16 2 2 0 0 0 ∷ words 17 3 1 1 0 0 ∷ words 17 4 2 2 0 0 ∷ words 17 5 3 3 0 0
    ∷ words 17 6 4 4 0 0 ∷ words 17 7 5 5 0 0 ∷ words 17 8 6 6 0 0 ∷ words 17 9 7 1 0 0 ∷ words 17 0 1 1 0 0
    ∷ words 33 0 0 0 0 0 ∷ [])
    (WrongType 8)
    ∷ []
