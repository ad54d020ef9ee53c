-- Code 7, types (docs/SHEETS.md, "Type rules": "there is a pair type of exactly the two parts' types, in this order"; of first and
-- second part "the part's type is a pair type"; of a feedback "the defining part has the type in word `a`", of a delay "the delayed
-- part has the type in word `a`"; of an IF "the two branches have one type"; "Two types are the same only if they are the same
-- record.").
use Rattle.std.specs.Prelude.{List, [], ◌∷◌}
use Rattle.records.specs.SheetOf.{words}
use Rattle.typing.specs.Outcomes.{Sound, Fault}
use Rattle.typing.specs.Rows.{TypingRow, judged_to}

abbrev pub type_rows : List TypingRow
type_rows =
    judged_to "the first part of a pair"
    (words 1 1 3 4 6 0 ∷ words 16 2 2 0 0 0 ∷ words 16 3 3 0 0 0 ∷ words 17 0 1 2 0 0 ∷ words 35 0 5 0 0 0
    ∷ words 33 0 0 0 0 0 ∷ [])
    (Sound 1)
    ∷ judged_to "the second part of a pair"
    (words 1 1 3 4 6 0 ∷ words 16 2 2 0 0 0 ∷ words 16 3 3 0 0 0 ∷ words 17 0 1 2 0 0 ∷ words 36 0 5 0 0 0
    ∷ words 33 0 0 0 0 0 ∷ [])
    (Sound 2)
    ∷ judged_to "the first part of a flat type"
    (words 1 1 1 2 4 0 ∷ words 16 0 2 0 0 0 ∷ words 35 0 3 0 0 0 ∷ words 33 0 0 0 0 0 ∷ [])
    (Fault 2)
    ∷ judged_to "the second part of a flat type"
    (words 1 1 1 2 4 0 ∷ words 16 0 2 0 0 0 ∷ words 36 0 3 0 0 0 ∷ words 33 0 0 0 0 0 ∷ [])
    (Fault 2)
    ∷ judged_to "a pair whose types have a pair record"
    (words 1 1 1 4 8 0 ∷ words 16 2 2 0 0 0 ∷ words 16 3 3 0 0 0 ∷ words 17 0 1 2 0 0 ∷ words 34 0 5 6 0 0
    ∷ words 33 0 0 0 0 0 ∷ words 32 0 2 7 0 0 ∷ words 64 0 0 0 0 0 ∷ [])
    (Sound 3)
    ∷ judged_to "a pair whose types have no pair record"
    (words 1 1 1 2 5 0 ∷ words 16 0 2 0 0 0 ∷ words 34 0 3 4 0 0 ∷ words 33 0 0 0 0 0 ∷ words 33 0 0 0 0 0 ∷ [])
    (Fault 2)
    ∷ judged_to "a pair whose types have a pair record in the other order only"
    (words 1 1 1 4 8 0 ∷ words 16 2 2 0 0 0 ∷ words 16 3 3 0 0 0 ∷ words 17 0 2 1 0 0 ∷ words 34 0 5 6 0 0
    ∷ words 33 0 0 0 0 0 ∷ words 32 0 2 7 0 0 ∷ words 64 0 0 0 0 0 ∷ [])
    (Fault 4)
    ∷ judged_to "a pair whose types have a pair record of other types of the same shape only"
    (words 1 1 1 4 8 0 ∷ words 16 2 2 0 0 0 ∷ words 16 3 2 0 0 0 ∷ words 17 0 1 1 0 0 ∷ words 34 0 5 6 0 0
    ∷ words 33 0 0 0 0 0 ∷ words 32 0 2 7 0 0 ∷ words 64 0 0 0 0 0 ∷ [])
    (Fault 4)
    ∷ judged_to "a feedback's defining part is of another type"
    (words 1 1 1 3 7 0 ∷ words 16 2 2 0 0 0 ∷ words 16 0 3 0 0 0 ∷ words 38 0 1 4 6 0 ∷ words 32 0 2 5 0 0
    ∷ words 64 0 0 0 0 0 ∷ words 33 0 0 0 0 0 ∷ [])
    (Fault 3)
    ∷ judged_to "a feedback's defining part is of another type of the same shape"
    (words 1 1 1 3 7 0 ∷ words 16 2 2 0 0 0 ∷ words 16 0 2 0 0 0 ∷ words 38 0 1 4 6 0 ∷ words 32 0 2 5 0 0
    ∷ words 64 0 0 0 0 0 ∷ words 33 0 0 0 0 0 ∷ [])
    (Fault 3)
    ∷ judged_to "a delay's part is of another type"
    (words 1 1 1 3 6 0 ∷ words 16 2 2 0 0 0 ∷ words 16 0 3 0 0 0 ∷ words 40 0 2 4 5 0 ∷ words 64 0 0 0 0 0
    ∷ words 33 0 0 0 0 0 ∷ [])
    (Fault 3)
    ∷ judged_to "a delay's part is of another type of the same shape"
    (words 1 1 1 3 6 0 ∷ words 16 2 2 0 0 0 ∷ words 16 0 2 0 0 0 ∷ words 40 0 2 4 5 0 ∷ words 64 0 0 0 0 0
    ∷ words 33 0 0 0 0 0 ∷ [])
    (Fault 3)
    ∷ judged_to "branches of one type, which the IF has"
    (words 1 1 1 3 10 0 ∷ words 16 2 2 0 0 0 ∷ words 16 0 3 0 0 0 ∷ words 39 0 4 5 7 9 ∷ words 33 0 0 0 0 0
    ∷ words 32 0 2 6 0 0 ∷ words 64 0 0 0 0 0 ∷ words 32 0 2 8 0 0 ∷ words 64 0 0 0 0 0 ∷ words 49 0 1 1 0 0 ∷ [])
    (Sound 2)
    ∷ judged_to "branches of two types"
    (words 1 1 1 3 9 0 ∷ words 16 2 2 0 0 0 ∷ words 16 0 3 0 0 0 ∷ words 39 0 4 5 6 8 ∷ words 33 0 0 0 0 0
    ∷ words 33 0 0 0 0 0 ∷ words 32 0 2 7 0 0 ∷ words 64 0 0 0 0 0 ∷ words 48 0 1 0 0 0 ∷ [])
    (Fault 3)
    ∷ judged_to "branches of two types of the same shape"
    (words 1 1 1 3 9 0 ∷ words 16 2 2 0 0 0 ∷ words 16 0 2 0 0 0 ∷ words 39 0 4 5 6 8 ∷ words 33 0 0 0 0 0
    ∷ words 33 0 0 0 0 0 ∷ words 32 0 2 7 0 0 ∷ words 64 0 0 0 0 0 ∷ words 48 0 1 0 0 0 ∷ [])
    (Fault 3)
    ∷ []
