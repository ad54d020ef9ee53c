-- Accepted sheets that no other file has: the smallest, the sheet T of docs/SHEETS.md, and one whose input type is a high record.
use Rattle.std.specs.Prelude.{List, [], ◌∷◌}
use Rattle.records.specs.SheetOf.{words}
use Rattle.answers.specs.Answers.{Accepted}
use Rattle.verdict_table.specs.Rows.{VerdictRow, gives}

abbrev pub accepted_rows : List VerdictRow
accepted_rows =
    gives "one type, and the input as the root"
    (words 1 1 1 2 3 0 ∷ words 16 0 2 0 0 0 ∷ words 33 0 0 0 0 0 ∷ [])
    (Accepted 1)
    ∷ gives "the sheet T"
    (words 1 1 1 2 17 0 ∷ words 16 0 2 0 0 0 ∷ words 38 0 1 3 16 0 ∷ words 40 0 1 4 5 0 ∷ words 64 0 2 0 0 0
    ∷ words 39 0 6 8 15 7 ∷ words 33 0 1 0 0 0 ∷ words 49 0 1 1 0 0 ∷ words 39 0 9 11 13 10 ∷ words 33 0 0 0 0 0
    ∷ words 49 0 1 2 0 0 ∷ words 32 0 1 12 0 0 ∷ words 64 0 1 0 0 0 ∷ words 32 0 1 14 0 0 ∷ words 64 0 2 0 0 0
    ∷ words 33 0 0 0 0 0 ∷ words 33 0 0 0 0 0 ∷ [])
    (Accepted 1)
    ∷ gives "the input type may be any type record"
    (words 1 1 3 2 4 0 ∷ words 16 3 2 0 0 0 ∷ words 33 0 0 0 0 0 ∷ words 16 0 2 0 0 0 ∷ [])
    (Accepted 3)
    ∷ gives "the types may stand anywhere, in a chain that begins anywhere"
    (words 1 2 2 1 4 0 ∷ words 33 0 0 0 0 0 ∷ words 16 3 2 0 0 0 ∷ words 16 0 3 0 0 0 ∷ [])
    (Accepted 2)
    ∷ []
