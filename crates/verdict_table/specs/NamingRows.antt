-- Code 4 (docs/SHEETS.md, "Numbering and naming": "Every record but 0 is named by exactly one word"; "Type words are not counted,
-- `next` words are"). `SharingRows` has what IFs may share.
use Rattle.std.specs.Prelude.{List, [], ◌∷◌}
use Rattle.records.specs.SheetOf.{words}
use Rattle.answers.specs.Answers.{Accepted, WrongNaming}
use Rattle.verdict_table.specs.Rows.{VerdictRow, gives}

abbrev pub naming_rows : List VerdictRow
naming_rows =
    gives "nothing names an expression"
    (words 1 1 1 2 4 0 ∷ words 16 0 2 0 0 0 ∷ words 33 0 0 0 0 0 ∷ words 33 0 0 0 0 0 ∷ [])
    (WrongNaming 3)
    ∷ gives "nothing names a leaf"
    (words 1 1 1 2 4 0 ∷ words 16 0 2 0 0 0 ∷ words 33 0 0 0 0 0 ∷ words 64 0 0 0 0 0 ∷ [])
    (WrongNaming 3)
    ∷ gives "nothing names a pattern"
    (words 1 1 1 2 4 0 ∷ words 16 0 2 0 0 0 ∷ words 33 0 0 0 0 0 ∷ words 48 0 1 0 0 0 ∷ [])
    (WrongNaming 3)
    ∷ gives "nothing names a type"
    (words 1 1 1 2 4 0 ∷ words 16 0 2 0 0 0 ∷ words 33 0 0 0 0 0 ∷ words 16 0 2 0 0 0 ∷ [])
    (WrongNaming 3)
    ∷ gives "a type in front of the header's next is in no chain"
    (words 1 2 2 3 4 0 ∷ words 16 0 2 0 0 0 ∷ words 16 0 2 0 0 0 ∷ words 33 0 0 0 0 0 ∷ [])
    (WrongNaming 1)
    ∷ gives "a type that a constant names by a type word alone is not named"
    (words 1 1 1 3 5 0 ∷ words 16 0 2 0 0 0 ∷ words 16 0 2 0 0 0 ∷ words 32 0 2 4 0 0 ∷ words 64 0 0 0 0 0 ∷ [])
    (WrongNaming 2)
    ∷ gives "two words of one record name the same record"
    (words 1 1 1 2 4 0 ∷ words 16 0 2 0 0 0 ∷ words 34 0 3 3 0 0 ∷ words 33 0 0 0 0 0 ∷ [])
    (WrongNaming 3)
    ∷ gives "two records name the same record"
    (words 1 1 1 2 6 0 ∷ words 16 0 2 0 0 0 ∷ words 34 0 3 4 0 0 ∷ words 35 0 5 0 0 0 ∷ words 35 0 5 0 0 0
    ∷ words 33 0 0 0 0 0 ∷ [])
    (WrongNaming 5)
    ∷ gives "two constants have the same leaf"
    (words 1 1 1 2 6 0 ∷ words 16 0 2 0 0 0 ∷ words 34 0 3 4 0 0 ∷ words 32 0 1 5 0 0 ∷ words 32 0 1 5 0 0
    ∷ words 64 0 0 0 0 0 ∷ [])
    (WrongNaming 5)
    ∷ gives "a chain of leaves ends in another's first leaf"
    (words 1 1 1 2 7 0 ∷ words 16 0 2 0 0 0 ∷ words 34 0 3 4 0 0 ∷ words 32 0 1 5 0 0 ∷ words 32 0 1 6 0 0
    ∷ words 64 6 0 0 0 0 ∷ words 64 0 0 0 0 0 ∷ [])
    (WrongNaming 6)
    ∷ gives "a pair pattern has the same part twice"
    (words 1 1 2 3 9 0 ∷ words 16 2 2 0 0 0 ∷ words 17 0 1 1 0 0 ∷ words 39 0 4 5 6 7 ∷ words 33 0 0 0 0 0
    ∷ words 33 0 0 0 0 0 ∷ words 33 0 0 0 0 0 ∷ words 50 0 8 8 0 0 ∷ words 48 0 1 0 0 0 ∷ [])
    (WrongNaming 8)
    ∷ gives "of two records that nothing names the lower is the place"
    (words 1 1 1 2 5 0 ∷ words 16 0 2 0 0 0 ∷ words 33 0 0 0 0 0 ∷ words 33 0 0 0 0 0 ∷ words 33 0 0 0 0 0 ∷ [])
    (WrongNaming 3)
    ∷ gives "type words may name a type as often as they like"
    (words 1 1 1 3 8 0 ∷ words 16 2 2 0 0 0 ∷ words 17 0 1 1 0 0 ∷ words 34 0 4 6 0 0 ∷ words 32 0 1 5 0 0
    ∷ words 64 0 1 0 0 0 ∷ words 32 0 1 7 0 0 ∷ words 64 0 2 0 0 0 ∷ [])
    (Accepted 2)
    ∷ []
