-- Shared patterns and code 4 (docs/SHEETS.md, "Numbering and naming": "several IFs may name the first record of one pattern, each by
-- its `d`. A pattern record that a `next` or a pair pattern names is named by nothing else."). Each IF judges the pattern by its own
-- tested type.
use Rattle.std.specs.Prelude.{List, [], ◌∷◌}
use Rattle.records.specs.SheetOf.{words}
use Rattle.answers.specs.Answers.{Accepted, WrongNaming, IllTyped}
use Rattle.verdict_table.specs.Rows.{VerdictRow, gives}

abbrev pub sharing_rows : List VerdictRow
sharing_rows =
    gives "two IFs share a pattern"
    (words 1 1 1 2 10 0 ∷ words 16 0 2 0 0 0 ∷ words 39 0 3 4 8 9 ∷ words 33 0 0 0 0 0 ∷ words 39 0 5 6 7 9
    ∷ words 33 0 0 0 0 0 ∷ words 33 0 0 0 0 0 ∷ words 33 0 0 0 0 0 ∷ words 33 0 0 0 0 0 ∷ words 48 0 1 0 0 0 ∷ [])
    (Accepted 1)
    ∷ gives "three IFs share a pattern of two alternatives"
    (words 1 1 1 2 14 0 ∷ words 16 0 2 0 0 0 ∷ words 39 0 3 4 5 12 ∷ words 33 0 0 0 0 0 ∷ words 39 0 6 7 8 12
    ∷ words 39 0 9 10 11 12 ∷ words 33 0 0 0 0 0 ∷ words 33 0 0 0 0 0 ∷ words 33 0 0 0 0 0 ∷ words 33 0 0 0 0 0
    ∷ words 33 0 0 0 0 0 ∷ words 33 0 0 0 0 0 ∷ words 49 13 1 1 0 0 ∷ words 49 0 1 2 0 0 ∷ [])
    (Accepted 1)
    ∷ gives "two IFs share a pair pattern"
    (words 1 1 2 3 13 0 ∷ words 16 2 2 0 0 0 ∷ words 17 0 1 1 0 0 ∷ words 39 0 4 5 6 10 ∷ words 33 0 0 0 0 0
    ∷ words 39 0 7 8 9 10 ∷ words 33 0 0 0 0 0 ∷ words 33 0 0 0 0 0 ∷ words 33 0 0 0 0 0 ∷ words 33 0 0 0 0 0
    ∷ words 50 0 11 12 0 0 ∷ words 49 0 1 1 0 0 ∷ words 48 0 1 0 0 0 ∷ [])
    (Accepted 2)
    ∷ gives "the tail of one IF's pattern is another's: a d word, and then a next"
    (words 1 1 1 2 11 0 ∷ words 16 0 2 0 0 0 ∷ words 39 0 3 4 5 9 ∷ words 33 0 0 0 0 0 ∷ words 39 0 6 7 8 10
    ∷ words 33 0 0 0 0 0 ∷ words 33 0 0 0 0 0 ∷ words 33 0 0 0 0 0 ∷ words 33 0 0 0 0 0 ∷ words 49 10 1 1 0 0
    ∷ words 49 0 1 2 0 0 ∷ [])
    (WrongNaming 10)
    ∷ gives "a next, and then a d word"
    (words 1 1 1 2 11 0 ∷ words 16 0 2 0 0 0 ∷ words 39 0 3 5 9 4 ∷ words 33 0 0 0 0 0 ∷ words 49 10 1 1 0 0
    ∷ words 39 0 6 7 8 10 ∷ words 33 0 0 0 0 0 ∷ words 33 0 0 0 0 0 ∷ words 33 0 0 0 0 0 ∷ words 33 0 0 0 0 0
    ∷ words 49 0 1 2 0 0 ∷ [])
    (WrongNaming 10)
    ∷ gives "two d words, and then a next"
    (words 1 1 1 2 14 0 ∷ words 16 0 2 0 0 0 ∷ words 39 0 3 4 5 12 ∷ words 33 0 0 0 0 0 ∷ words 39 0 6 7 8 13
    ∷ words 39 0 9 10 11 13 ∷ words 33 0 0 0 0 0 ∷ words 33 0 0 0 0 0 ∷ words 33 0 0 0 0 0 ∷ words 33 0 0 0 0 0
    ∷ words 33 0 0 0 0 0 ∷ words 33 0 0 0 0 0 ∷ words 49 13 1 1 0 0 ∷ words 49 0 1 2 0 0 ∷ [])
    (WrongNaming 13)
    ∷ gives "a next, and then two d words"
    (words 1 1 1 2 14 0 ∷ words 16 0 2 0 0 0 ∷ words 39 0 3 5 6 4 ∷ words 33 0 0 0 0 0 ∷ words 49 13 1 1 0 0
    ∷ words 39 0 7 8 9 13 ∷ words 39 0 10 11 12 13 ∷ words 33 0 0 0 0 0 ∷ words 33 0 0 0 0 0 ∷ words 33 0 0 0 0 0
    ∷ words 33 0 0 0 0 0 ∷ words 33 0 0 0 0 0 ∷ words 33 0 0 0 0 0 ∷ words 49 0 1 2 0 0 ∷ [])
    (WrongNaming 13)
    ∷ gives "two patterns have the same tail: two nexts"
    (words 1 1 1 2 12 0 ∷ words 16 0 2 0 0 0 ∷ words 39 0 3 4 5 9 ∷ words 33 0 0 0 0 0 ∷ words 39 0 6 7 8 10
    ∷ words 33 0 0 0 0 0 ∷ words 33 0 0 0 0 0 ∷ words 33 0 0 0 0 0 ∷ words 33 0 0 0 0 0 ∷ words 49 11 1 1 0 0
    ∷ words 49 11 1 2 0 0 ∷ words 48 0 1 0 0 0 ∷ [])
    (WrongNaming 11)
    ∷ gives "an IF's pattern is a part of a pair pattern: a d word, and then the pair pattern's b"
    (words 1 1 2 3 14 0 ∷ words 16 2 2 0 0 0 ∷ words 17 0 1 1 0 0 ∷ words 39 0 4 5 6 10 ∷ words 33 0 0 0 0 0
    ∷ words 39 0 7 8 9 12 ∷ words 33 0 0 0 0 0 ∷ words 35 0 13 0 0 0 ∷ words 33 0 0 0 0 0 ∷ words 33 0 0 0 0 0
    ∷ words 50 0 11 12 0 0 ∷ words 48 0 1 0 0 0 ∷ words 48 0 1 0 0 0 ∷ words 33 0 0 0 0 0 ∷ [])
    (WrongNaming 12)
    ∷ gives "a pair pattern's a, and then a d word"
    (words 1 1 2 3 14 0 ∷ words 16 2 2 0 0 0 ∷ words 17 0 1 1 0 0 ∷ words 39 0 5 6 7 4 ∷ words 50 0 8 9 0 0
    ∷ words 33 0 0 0 0 0 ∷ words 39 0 10 11 12 8 ∷ words 33 0 0 0 0 0 ∷ words 48 0 1 0 0 0 ∷ words 48 0 1 0 0 0
    ∷ words 35 0 13 0 0 0 ∷ words 33 0 0 0 0 0 ∷ words 33 0 0 0 0 0 ∷ words 33 0 0 0 0 0 ∷ [])
    (WrongNaming 8)
    ∷ gives "two pair patterns have the same second part"
    (words 1 1 2 3 12 0 ∷ words 16 2 2 0 0 0 ∷ words 17 0 1 1 0 0 ∷ words 39 0 4 5 6 7 ∷ words 33 0 0 0 0 0
    ∷ words 33 0 0 0 0 0 ∷ words 33 0 0 0 0 0 ∷ words 50 8 9 10 0 0 ∷ words 50 0 11 10 0 0 ∷ words 48 0 1 0 0 0
    ∷ words 48 0 1 0 0 0 ∷ words 48 0 1 0 0 0 ∷ [])
    (WrongNaming 10)
    ∷ gives "two IFs have the same pattern, and the same tested part"
    (words 1 1 1 2 9 0 ∷ words 16 0 2 0 0 0 ∷ words 39 0 5 3 4 8 ∷ words 39 0 5 6 7 8 ∷ words 33 0 0 0 0 0
    ∷ words 33 0 0 0 0 0 ∷ words 33 0 0 0 0 0 ∷ words 33 0 0 0 0 0 ∷ words 48 0 1 0 0 0 ∷ [])
    (WrongNaming 5)
    ∷ gives "two IFs have the same else branch"
    (words 1 1 1 2 10 0 ∷ words 16 0 2 0 0 0 ∷ words 39 0 4 3 5 8 ∷ words 39 0 6 7 5 9 ∷ words 33 0 0 0 0 0
    ∷ words 33 0 0 0 0 0 ∷ words 33 0 0 0 0 0 ∷ words 33 0 0 0 0 0 ∷ words 48 0 1 0 0 0 ∷ words 48 0 1 0 0 0 ∷ [])
    (WrongNaming 5)
    ∷ gives "a constant and a delay have the same chain of leaves"
    (words 1 1 2 3 9 0 ∷ words 16 2 2 0 0 0 ∷ words 17 0 1 1 0 0 ∷ words 37 0 4 5 0 0 ∷ words 32 0 2 7 0 0
    ∷ words 40 0 2 7 6 0 ∷ words 33 0 0 0 0 0 ∷ words 64 8 1 0 0 0 ∷ words 64 0 2 0 0 0 ∷ [])
    (WrongNaming 7)
    ∷ gives "a shared pattern has the tested type of the outer IF, and not of the inner one"
    (words 1 1 1 3 12 0 ∷ words 16 2 2 0 0 0 ∷ words 16 0 2 0 0 0 ∷ words 39 0 4 5 6 11 ∷ words 33 0 0 0 0 0
    ∷ words 39 0 7 9 10 11 ∷ words 33 0 0 0 0 0 ∷ words 32 0 2 8 0 0 ∷ words 64 0 1 0 0 0 ∷ words 33 0 0 0 0 0
    ∷ words 33 0 0 0 0 0 ∷ words 49 0 1 1 0 0 ∷ [])
    (IllTyped 5)
    ∷ gives "a shared pattern has the tested type of the inner IF, and not of the outer one"
    (words 1 1 1 3 12 0 ∷ words 16 2 2 0 0 0 ∷ words 16 0 2 0 0 0 ∷ words 39 0 4 5 6 11 ∷ words 33 0 0 0 0 0
    ∷ words 39 0 7 9 10 11 ∷ words 33 0 0 0 0 0 ∷ words 32 0 2 8 0 0 ∷ words 64 0 1 0 0 0 ∷ words 33 0 0 0 0 0
    ∷ words 33 0 0 0 0 0 ∷ words 49 0 2 1 0 0 ∷ [])
    (IllTyped 3)
    ∷ []
