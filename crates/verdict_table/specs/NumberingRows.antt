-- Code 3, the numbering rule and the sorts (docs/SHEETS.md, "Numbering and naming": "A type word, unless it is the header's, names a
-- record whose number is lower than that of its own record." "Every other word that names a record, and every `next` that is not 0, has
-- a number higher than its own record's." "A number at or above the number of records names nothing, and breaks the numbering." "What a
-- word names is of the sort that the word asks for.").
use Rattle.std.specs.Prelude.{List, [], ◌∷◌}
use Rattle.records.specs.SheetOf.{words}
use Rattle.answers.specs.Answers.{WrongRecord}
use Rattle.verdict_table.specs.Rows.{VerdictRow, gives}

abbrev pub numbering_rows : List VerdictRow
numbering_rows =
    gives "a pair type's part is itself"
    (words 1 1 1 3 4 0 ∷ words 16 2 2 0 0 0 ∷ words 17 0 2 1 0 0 ∷ words 33 0 0 0 0 0 ∷ [])
    (WrongRecord 2)
    ∷ gives "a pair type's part is a higher type"
    (words 1 1 1 4 5 0 ∷ words 16 2 2 0 0 0 ∷ words 17 3 1 3 0 0 ∷ words 16 0 2 0 0 0 ∷ words 33 0 0 0 0 0 ∷ [])
    (WrongRecord 2)
    ∷ gives "a pair type's part is record 0"
    (words 1 1 1 3 4 0 ∷ words 16 2 2 0 0 0 ∷ words 17 0 1 0 0 0 ∷ words 33 0 0 0 0 0 ∷ [])
    (WrongRecord 2)
    ∷ gives "a pair type's part is a lower record that is no type"
    (words 1 1 1 2 4 0 ∷ words 16 3 2 0 0 0 ∷ words 33 0 0 0 0 0 ∷ words 17 0 1 2 0 0 ∷ [])
    (WrongRecord 3)
    ∷ gives "a constant's type is a higher record"
    (words 1 1 1 2 5 0 ∷ words 16 4 2 0 0 0 ∷ words 32 0 4 3 0 0 ∷ words 64 0 0 0 0 0 ∷ words 16 0 2 0 0 0 ∷ [])
    (WrongRecord 2)
    ∷ gives "a constant's type is record 0"
    (words 1 1 1 2 4 0 ∷ words 16 0 2 0 0 0 ∷ words 32 0 0 3 0 0 ∷ words 64 0 0 0 0 0 ∷ [])
    (WrongRecord 2)
    ∷ gives "a constant's type is a lower record that is no type"
    (words 1 1 1 2 6 0 ∷ words 16 0 2 0 0 0 ∷ words 37 0 3 5 0 0 ∷ words 32 0 2 4 0 0 ∷ words 64 0 0 0 0 0
    ∷ words 33 0 0 0 0 0 ∷ [])
    (WrongRecord 3)
    ∷ gives "a feedback's type is a higher record"
    (words 1 1 1 2 6 0 ∷ words 16 5 2 0 0 0 ∷ words 38 0 5 3 4 0 ∷ words 33 0 0 0 0 0 ∷ words 33 0 0 0 0 0
    ∷ words 16 0 2 0 0 0 ∷ [])
    (WrongRecord 2)
    ∷ gives "a delay's type is a higher record"
    (words 1 1 1 2 6 0 ∷ words 16 5 2 0 0 0 ∷ words 40 0 5 3 4 0 ∷ words 64 0 0 0 0 0 ∷ words 33 0 0 0 0 0
    ∷ words 16 0 2 0 0 0 ∷ [])
    (WrongRecord 2)
    ∷ gives "a pattern's type is a higher record"
    (words 1 1 1 2 8 0 ∷ words 16 7 2 0 0 0 ∷ words 39 0 3 4 5 6 ∷ words 33 0 0 0 0 0 ∷ words 33 0 0 0 0 0
    ∷ words 33 0 0 0 0 0 ∷ words 48 0 7 0 0 0 ∷ words 16 0 2 0 0 0 ∷ [])
    (WrongRecord 6)
    ∷ gives "a part is a lower record"
    (words 1 1 1 3 4 0 ∷ words 16 0 2 0 0 0 ∷ words 33 0 0 0 0 0 ∷ words 35 0 2 0 0 0 ∷ [])
    (WrongRecord 3)
    ∷ gives "a part is the record itself"
    (words 1 1 1 2 3 0 ∷ words 16 0 2 0 0 0 ∷ words 35 0 2 0 0 0 ∷ [])
    (WrongRecord 2)
    ∷ gives "a part is record 0"
    (words 1 1 1 2 3 0 ∷ words 16 0 2 0 0 0 ∷ words 35 0 0 0 0 0 ∷ [])
    (WrongRecord 2)
    ∷ gives "a part is no record"
    (words 1 1 1 2 3 0 ∷ words 16 0 2 0 0 0 ∷ words 35 0 3 0 0 0 ∷ [])
    (WrongRecord 2)
    ∷ gives "an expression's part is a leaf"
    (words 1 1 1 2 4 0 ∷ words 16 0 2 0 0 0 ∷ words 35 0 3 0 0 0 ∷ words 64 0 0 0 0 0 ∷ [])
    (WrongRecord 2)
    ∷ gives "an expression's part is a type"
    (words 1 1 1 2 4 0 ∷ words 16 3 2 0 0 0 ∷ words 35 0 3 0 0 0 ∷ words 16 0 2 0 0 0 ∷ [])
    (WrongRecord 2)
    ∷ gives "an expression's part is a pattern"
    (words 1 1 1 2 4 0 ∷ words 16 0 2 0 0 0 ∷ words 35 0 3 0 0 0 ∷ words 48 0 1 0 0 0 ∷ [])
    (WrongRecord 2)
    ∷ gives "a constant's first leaf is an expression"
    (words 1 1 1 2 4 0 ∷ words 16 0 2 0 0 0 ∷ words 32 0 1 3 0 0 ∷ words 33 0 0 0 0 0 ∷ [])
    (WrongRecord 2)
    ∷ gives "a delay's first leaf is an expression"
    (words 1 1 1 2 5 0 ∷ words 16 0 2 0 0 0 ∷ words 40 0 1 3 4 0 ∷ words 33 0 0 0 0 0 ∷ words 33 0 0 0 0 0 ∷ [])
    (WrongRecord 2)
    ∷ gives "a delay's part is a leaf"
    (words 1 1 1 2 5 0 ∷ words 16 0 2 0 0 0 ∷ words 40 0 1 3 4 0 ∷ words 64 0 0 0 0 0 ∷ words 64 0 0 0 0 0 ∷ [])
    (WrongRecord 2)
    ∷ gives "an IF's pattern is an expression"
    (words 1 1 1 2 7 0 ∷ words 16 0 2 0 0 0 ∷ words 39 0 3 4 5 6 ∷ words 33 0 0 0 0 0 ∷ words 33 0 0 0 0 0
    ∷ words 33 0 0 0 0 0 ∷ words 33 0 0 0 0 0 ∷ [])
    (WrongRecord 2)
    ∷ gives "a pair pattern's part is a leaf"
    (words 1 1 2 3 10 0 ∷ words 16 2 2 0 0 0 ∷ words 17 0 1 1 0 0 ∷ words 39 0 4 5 6 7 ∷ words 33 0 0 0 0 0
    ∷ words 33 0 0 0 0 0 ∷ words 33 0 0 0 0 0 ∷ words 50 0 8 9 0 0 ∷ words 48 0 1 0 0 0 ∷ words 64 0 0 0 0 0 ∷ [])
    (WrongRecord 7)
    ∷ gives "the next of a type is lower"
    (words 1 1 1 3 4 0 ∷ words 16 2 2 0 0 0 ∷ words 16 1 2 0 0 0 ∷ words 33 0 0 0 0 0 ∷ [])
    (WrongRecord 2)
    ∷ gives "the next of a type is no record"
    (words 1 1 1 2 3 0 ∷ words 16 3 2 0 0 0 ∷ words 33 0 0 0 0 0 ∷ [])
    (WrongRecord 1)
    ∷ gives "the next of a type is an expression"
    (words 1 1 1 2 3 0 ∷ words 16 2 2 0 0 0 ∷ words 33 0 0 0 0 0 ∷ [])
    (WrongRecord 1)
    ∷ gives "the next of a leaf is an expression"
    (words 1 1 1 2 5 0 ∷ words 16 0 2 0 0 0 ∷ words 32 0 1 3 0 0 ∷ words 64 4 0 0 0 0 ∷ words 33 0 0 0 0 0 ∷ [])
    (WrongRecord 3)
    ∷ gives "the next of a pattern is a leaf"
    (words 1 1 1 2 8 0 ∷ words 16 0 2 0 0 0 ∷ words 39 0 3 4 5 6 ∷ words 33 0 0 0 0 0 ∷ words 33 0 0 0 0 0
    ∷ words 33 0 0 0 0 0 ∷ words 48 7 1 0 0 0 ∷ words 64 0 0 0 0 0 ∷ [])
    (WrongRecord 6)
    ∷ gives "where a part is of unknown kind, the record that names it, the lower, is the place"
    (words 1 1 1 2 4 0 ∷ words 16 0 2 0 0 0 ∷ words 35 0 3 0 0 0 ∷ words 99 0 0 0 0 0 ∷ [])
    (WrongRecord 2)
    ∷ gives "where a type word names a record of unknown kind, that record, the lower, is the place"
    (words 1 2 2 3 5 0 ∷ words 99 0 0 0 0 0 ∷ words 16 0 2 0 0 0 ∷ words 32 0 1 4 0 0 ∷ words 64 0 0 0 0 0 ∷ [])
    (WrongRecord 1)
    ∷ gives "record 1 is in no chain, but 3 goes before 4"
    (words 1 2 2 3 4 0 ∷ words 16 0 2 0 0 0 ∷ words 16 0 2 0 0 0 ∷ words 33 7 0 0 0 0 ∷ [])
    (WrongRecord 3)
    ∷ []
