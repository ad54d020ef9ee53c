-- Code 3 (docs/SHEETS.md, "Codes": "unknown kind, or kind 1, or a word that the table of kinds, the numbering or the sort asked for
-- does not allow"): the kind, words that a kind does not mention, and numbers out of the table's bounds.
use Rattle.std.specs.Prelude.{List, [], ◌∷◌}
use Rattle.records.specs.SheetOf.{words}
use Rattle.answers.specs.Answers.{Accepted, WrongRecord}
use Rattle.verdict_table.specs.Rows.{VerdictRow, gives}

abbrev pub word_rows : List VerdictRow
word_rows =
    gives "a record of kind 99"
    (words 1 1 1 2 4 0 ∷ words 16 0 2 0 0 0 ∷ words 33 0 0 0 0 0 ∷ words 99 0 0 0 0 0 ∷ [])
    (WrongRecord 3)
    ∷ gives "a record of kind 0"
    (words 1 1 1 2 4 0 ∷ words 16 0 2 0 0 0 ∷ words 33 0 0 0 0 0 ∷ words 0 0 0 0 0 0 ∷ [])
    (WrongRecord 3)
    ∷ gives "a record of kind 1"
    (words 1 1 1 2 4 0 ∷ words 16 0 2 0 0 0 ∷ words 33 0 0 0 0 0 ∷ words 1 1 1 2 4 0 ∷ [])
    (WrongRecord 3)
    ∷ gives "word b of a flat type"
    (words 1 1 1 2 3 0 ∷ words 16 0 2 1 0 0 ∷ words 33 0 0 0 0 0 ∷ [])
    (WrongRecord 1)
    ∷ gives "word c of a pair type"
    (words 1 1 1 3 4 0 ∷ words 16 2 2 0 0 0 ∷ words 17 0 1 1 1 0 ∷ words 33 0 0 0 0 0 ∷ [])
    (WrongRecord 2)
    ∷ gives "next of a constant, though it is the constant's leaf"
    (words 1 1 1 2 4 0 ∷ words 16 0 2 0 0 0 ∷ words 32 3 1 3 0 0 ∷ words 64 0 0 0 0 0 ∷ [])
    (WrongRecord 2)
    ∷ gives "word c of a constant"
    (words 1 1 1 2 4 0 ∷ words 16 0 2 0 0 0 ∷ words 32 0 1 3 1 0 ∷ words 64 0 0 0 0 0 ∷ [])
    (WrongRecord 2)
    ∷ gives "next of a name"
    (words 1 1 1 2 3 0 ∷ words 16 0 2 0 0 0 ∷ words 33 1 0 0 0 0 ∷ [])
    (WrongRecord 2)
    ∷ gives "word b of a name"
    (words 1 1 1 2 3 0 ∷ words 16 0 2 0 0 0 ∷ words 33 0 0 1 0 0 ∷ [])
    (WrongRecord 2)
    ∷ gives "word c of a pair"
    (words 1 1 1 3 6 0 ∷ words 16 2 2 0 0 0 ∷ words 17 0 1 1 0 0 ∷ words 34 0 4 5 1 0 ∷ words 33 0 0 0 0 0
    ∷ words 33 0 0 0 0 0 ∷ [])
    (WrongRecord 3)
    ∷ gives "word b of a first part"
    (words 1 1 2 3 5 0 ∷ words 16 2 2 0 0 0 ∷ words 17 0 1 1 0 0 ∷ words 35 0 4 1 0 0 ∷ words 33 0 0 0 0 0 ∷ [])
    (WrongRecord 3)
    ∷ gives "word d of a second part"
    (words 1 1 2 3 5 0 ∷ words 16 2 2 0 0 0 ∷ words 17 0 1 1 0 0 ∷ words 36 0 4 0 0 1 ∷ words 33 0 0 0 0 0 ∷ [])
    (WrongRecord 3)
    ∷ gives "word c of a LET"
    (words 1 1 1 2 5 0 ∷ words 16 0 2 0 0 0 ∷ words 37 0 3 4 1 0 ∷ words 33 0 0 0 0 0 ∷ words 33 0 0 0 0 0 ∷ [])
    (WrongRecord 2)
    ∷ gives "word d of a feedback"
    (words 1 1 1 2 5 0 ∷ words 16 0 2 0 0 0 ∷ words 38 0 1 3 4 1 ∷ words 33 0 0 0 0 0 ∷ words 33 0 0 0 0 0 ∷ [])
    (WrongRecord 2)
    ∷ gives "next of an IF"
    (words 1 1 1 2 7 0 ∷ words 16 0 2 0 0 0 ∷ words 39 1 3 4 5 6 ∷ words 33 0 0 0 0 0 ∷ words 33 0 0 0 0 0
    ∷ words 33 0 0 0 0 0 ∷ words 48 0 1 0 0 0 ∷ [])
    (WrongRecord 2)
    ∷ gives "next of a delay"
    (words 1 1 1 2 5 0 ∷ words 16 0 2 0 0 0 ∷ words 40 1 1 3 4 0 ∷ words 64 0 0 0 0 0 ∷ words 33 0 0 0 0 0 ∷ [])
    (WrongRecord 2)
    ∷ gives "word d of a delay is its label, and passes"
    (words 1 1 1 2 5 0 ∷ words 16 0 2 0 0 0 ∷ words 40 0 1 3 4 1 ∷ words 64 0 0 0 0 0 ∷ words 33 0 0 0 0 0 ∷ [])
    (Accepted 1)
    ∷ gives "a label may be any number, and names nothing"
    (words 1 1 1 2 5 0 ∷ words 16 0 2 0 0 0 ∷ words 40 0 1 3 4 65535 ∷ words 64 0 0 0 0 0 ∷ words 33 0 0 0 0 0 ∷ [])
    (Accepted 1)
    ∷ gives "two delays with the same label pass"
    (words 1 1 1 2 7 0 ∷ words 16 0 2 0 0 0 ∷ words 40 0 1 3 4 9 ∷ words 64 0 0 0 0 0 ∷ words 40 0 1 5 6 9
    ∷ words 64 0 0 0 0 0 ∷ words 33 0 0 0 0 0 ∷ [])
    (Accepted 1)
    ∷ gives "word b of a whole-type pattern"
    (words 1 1 1 2 7 0 ∷ words 16 0 2 0 0 0 ∷ words 39 0 3 4 5 6 ∷ words 33 0 0 0 0 0 ∷ words 33 0 0 0 0 0
    ∷ words 33 0 0 0 0 0 ∷ words 48 0 1 1 0 0 ∷ [])
    (WrongRecord 6)
    ∷ gives "word c of a constructor pattern"
    (words 1 1 1 2 7 0 ∷ words 16 0 2 0 0 0 ∷ words 39 0 3 4 5 6 ∷ words 33 0 0 0 0 0 ∷ words 33 0 0 0 0 0
    ∷ words 33 0 0 0 0 0 ∷ words 49 0 1 1 1 0 ∷ [])
    (WrongRecord 6)
    ∷ gives "word c of a pair pattern"
    (words 1 1 2 3 10 0 ∷ words 16 2 2 0 0 0 ∷ words 17 0 1 1 0 0 ∷ words 39 0 4 5 6 7 ∷ words 33 0 0 0 0 0
    ∷ words 33 0 0 0 0 0 ∷ words 33 0 0 0 0 0 ∷ words 50 0 8 9 1 0 ∷ words 48 0 1 0 0 0 ∷ words 48 0 1 0 0 0 ∷ [])
    (WrongRecord 7)
    ∷ gives "word b of a leaf"
    (words 1 1 1 2 4 0 ∷ words 16 0 2 0 0 0 ∷ words 32 0 1 3 0 0 ∷ words 64 0 0 1 0 0 ∷ [])
    (WrongRecord 3)
    ∷ gives "a flat type without constructors"
    (words 1 1 1 2 3 0 ∷ words 16 0 0 0 0 0 ∷ words 33 0 0 0 0 0 ∷ [])
    (WrongRecord 1)
    ∷ gives "a flat type of 256 constructors"
    (words 1 1 1 2 3 0 ∷ words 16 0 256 0 0 0 ∷ words 33 0 0 0 0 0 ∷ [])
    (WrongRecord 1)
    ∷ gives "a flat type of 255 constructors passes"
    (words 1 1 1 2 3 0 ∷ words 16 0 255 0 0 0 ∷ words 33 0 0 0 0 0 ∷ [])
    (Accepted 1)
    ∷ gives "a flat type of 1 constructor passes"
    (words 1 1 1 2 3 0 ∷ words 16 0 1 0 0 0 ∷ words 33 0 0 0 0 0 ∷ [])
    (Accepted 1)
    ∷ gives "a leaf of 256"
    (words 1 1 1 2 4 0 ∷ words 16 0 2 0 0 0 ∷ words 32 0 1 3 0 0 ∷ words 64 0 256 0 0 0 ∷ [])
    (WrongRecord 3)
    ∷ gives "a leaf of 255 passes, in a type of 255 constructors"
    (words 1 1 1 2 4 0 ∷ words 16 0 255 0 0 0 ∷ words 32 0 1 3 0 0 ∷ words 64 0 255 0 0 0 ∷ [])
    (Accepted 1)
    ∷ gives "a pattern for constructor 0"
    (words 1 1 1 2 7 0 ∷ words 16 0 2 0 0 0 ∷ words 39 0 3 4 5 6 ∷ words 33 0 0 0 0 0 ∷ words 33 0 0 0 0 0
    ∷ words 33 0 0 0 0 0 ∷ words 49 0 1 0 0 0 ∷ [])
    (WrongRecord 6)
    ∷ gives "a pattern for the third constructor of two"
    (words 1 1 1 2 7 0 ∷ words 16 0 2 0 0 0 ∷ words 39 0 3 4 5 6 ∷ words 33 0 0 0 0 0 ∷ words 33 0 0 0 0 0
    ∷ words 33 0 0 0 0 0 ∷ words 49 0 1 3 0 0 ∷ [])
    (WrongRecord 6)
    ∷ gives "a constructor pattern of a pair type"
    (words 1 1 1 3 8 0 ∷ words 16 2 2 0 0 0 ∷ words 17 0 1 1 0 0 ∷ words 39 0 4 5 6 7 ∷ words 33 0 0 0 0 0
    ∷ words 33 0 0 0 0 0 ∷ words 33 0 0 0 0 0 ∷ words 49 0 2 1 0 0 ∷ [])
    (WrongRecord 7)
    ∷ gives "two records break the table: the lower is the place"
    (words 1 1 1 2 3 0 ∷ words 16 0 0 0 0 0 ∷ words 33 1 0 0 0 0 ∷ [])
    (WrongRecord 1)
    ∷ []
