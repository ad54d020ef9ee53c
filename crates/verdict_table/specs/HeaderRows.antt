-- Code 2 (docs/SHEETS.md, "Codes": "the header's kind, count or `d` is wrong, or a record that it names has the wrong number or sort"):
-- each row breaks one word of the header of an accepted sheet, `smallest`.
use Rattle.std.specs.Prelude.{List, [], ◌∷◌}
use Rattle.records.specs.SheetOf.{words}
use Rattle.answers.specs.Answers.{WrongHeader}
use Rattle.verdict_table.specs.Rows.{VerdictRow, gives}

abbrev pub header_rows : List VerdictRow
header_rows =
    gives "the header is a name"
    (words 33 1 1 2 3 0 ∷ words 16 0 2 0 0 0 ∷ words 33 0 0 0 0 0 ∷ [])
    WrongHeader
    ∷ gives "the header is of no kind"
    (words 2 1 1 2 3 0 ∷ words 16 0 2 0 0 0 ∷ words 33 0 0 0 0 0 ∷ [])
    WrongHeader
    ∷ gives "the header's c is one more than the records"
    (words 1 1 1 2 4 0 ∷ words 16 0 2 0 0 0 ∷ words 33 0 0 0 0 0 ∷ [])
    WrongHeader
    ∷ gives "the header's c is one less than the records"
    (words 1 1 1 2 2 0 ∷ words 16 0 2 0 0 0 ∷ words 33 0 0 0 0 0 ∷ [])
    WrongHeader
    ∷ gives "the header's d is not 0"
    (words 1 1 1 2 3 1 ∷ words 16 0 2 0 0 0 ∷ words 33 0 0 0 0 0 ∷ [])
    WrongHeader
    ∷ gives "the header's next is 0"
    (words 1 0 1 2 3 0 ∷ words 16 0 2 0 0 0 ∷ words 33 0 0 0 0 0 ∷ [])
    WrongHeader
    ∷ gives "the header's next names no record"
    (words 1 3 1 2 3 0 ∷ words 16 0 2 0 0 0 ∷ words 33 0 0 0 0 0 ∷ [])
    WrongHeader
    ∷ gives "the header's next names an expression"
    (words 1 2 1 2 3 0 ∷ words 16 0 2 0 0 0 ∷ words 33 0 0 0 0 0 ∷ [])
    WrongHeader
    ∷ gives "the input type is record 0"
    (words 1 1 0 2 3 0 ∷ words 16 0 2 0 0 0 ∷ words 33 0 0 0 0 0 ∷ [])
    WrongHeader
    ∷ gives "the input type is no record"
    (words 1 1 3 2 3 0 ∷ words 16 0 2 0 0 0 ∷ words 33 0 0 0 0 0 ∷ [])
    WrongHeader
    ∷ gives "the input type is an expression"
    (words 1 1 2 2 3 0 ∷ words 16 0 2 0 0 0 ∷ words 33 0 0 0 0 0 ∷ [])
    WrongHeader
    ∷ gives "the root is record 0"
    (words 1 1 1 0 3 0 ∷ words 16 0 2 0 0 0 ∷ words 33 0 0 0 0 0 ∷ [])
    WrongHeader
    ∷ gives "the root is no record"
    (words 1 1 1 3 3 0 ∷ words 16 0 2 0 0 0 ∷ words 33 0 0 0 0 0 ∷ [])
    WrongHeader
    ∷ gives "the root is a type"
    (words 1 1 1 1 3 0 ∷ words 16 0 2 0 0 0 ∷ words 33 0 0 0 0 0 ∷ [])
    WrongHeader
    ∷ gives "the root is of no kind, so of no sort, and 2 goes before 3"
    (words 1 1 1 2 3 0 ∷ words 16 0 2 0 0 0 ∷ words 99 0 0 0 0 0 ∷ [])
    WrongHeader
    ∷ []
