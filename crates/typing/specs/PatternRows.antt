-- Code 7, patterns (docs/SHEETS.md, "Type rules": "every alternative of the pattern has the tested part's type"; a pair pattern has a
-- pair type "where every alternative of its part `a` has the type of that pair's first part, and every alternative of its part `b` that
-- of its second").
use Rattle.std.specs.Prelude.{List, [], ◌∷◌}
use Rattle.records.specs.SheetOf.{words}
use Rattle.typing.specs.Outcomes.{Sound, Fault}
use Rattle.typing.specs.Rows.{TypingRow, judged_to}

abbrev pub pattern_rows : List TypingRow
pattern_rows =
    judged_to "a whole-type pattern may be of a pair type"
    (words 1 1 2 3 8 0 ∷ words 16 2 2 0 0 0 ∷ words 17 0 1 1 0 0 ∷ words 39 0 4 5 6 7 ∷ words 33 0 0 0 0 0
    ∷ words 33 0 0 0 0 0 ∷ words 33 0 0 0 0 0 ∷ words 48 0 2 0 0 0 ∷ [])
    (Sound 2)
    ∷ judged_to "a whole-type pattern is of another type of the same shape"
    (words 1 1 1 3 8 0 ∷ words 16 2 2 0 0 0 ∷ words 16 0 2 0 0 0 ∷ words 39 0 4 5 6 7 ∷ words 33 0 0 0 0 0
    ∷ words 33 0 0 0 0 0 ∷ words 33 0 0 0 0 0 ∷ words 48 0 2 0 0 0 ∷ [])
    (Fault 3)
    ∷ judged_to "a constructor pattern is of another type of the same shape"
    (words 1 1 1 3 8 0 ∷ words 16 2 2 0 0 0 ∷ words 16 0 2 0 0 0 ∷ words 39 0 4 5 6 7 ∷ words 33 0 0 0 0 0
    ∷ words 33 0 0 0 0 0 ∷ words 33 0 0 0 0 0 ∷ words 49 0 2 1 0 0 ∷ [])
    (Fault 3)
    ∷ judged_to "the second alternative is of another type"
    (words 1 1 1 3 9 0 ∷ words 16 2 2 0 0 0 ∷ words 16 0 2 0 0 0 ∷ words 39 0 4 5 6 7 ∷ words 33 0 0 0 0 0
    ∷ words 33 0 0 0 0 0 ∷ words 33 0 0 0 0 0 ∷ words 49 8 1 1 0 0 ∷ words 49 0 2 1 0 0 ∷ [])
    (Fault 3)
    ∷ judged_to "a pair pattern on a flat type"
    (words 1 1 1 2 9 0 ∷ words 16 0 2 0 0 0 ∷ words 39 0 3 4 5 6 ∷ words 33 0 0 0 0 0 ∷ words 33 0 0 0 0 0
    ∷ words 33 0 0 0 0 0 ∷ words 50 0 7 8 0 0 ∷ words 48 0 1 0 0 0 ∷ words 48 0 1 0 0 0 ∷ [])
    (Fault 2)
    ∷ judged_to "a constructor pattern on a pair type"
    (words 1 1 2 3 8 0 ∷ words 16 2 2 0 0 0 ∷ words 17 0 1 1 0 0 ∷ words 39 0 4 5 6 7 ∷ words 33 0 0 0 0 0
    ∷ words 33 0 0 0 0 0 ∷ words 33 0 0 0 0 0 ∷ words 49 0 1 1 0 0 ∷ [])
    (Fault 3)
    ∷ judged_to "the first part of a pair pattern is of another type"
    (words 1 1 3 4 11 0 ∷ words 16 2 2 0 0 0 ∷ words 16 3 2 0 0 0 ∷ words 17 0 1 2 0 0 ∷ words 39 0 5 6 7 8
    ∷ words 33 0 0 0 0 0 ∷ words 33 0 0 0 0 0 ∷ words 33 0 0 0 0 0 ∷ words 50 0 9 10 0 0 ∷ words 48 0 2 0 0 0
    ∷ words 48 0 2 0 0 0 ∷ [])
    (Fault 4)
    ∷ judged_to "the second part of a pair pattern is of another type"
    (words 1 1 3 4 11 0 ∷ words 16 2 2 0 0 0 ∷ words 16 3 2 0 0 0 ∷ words 17 0 1 2 0 0 ∷ words 39 0 5 6 7 8
    ∷ words 33 0 0 0 0 0 ∷ words 33 0 0 0 0 0 ∷ words 33 0 0 0 0 0 ∷ words 50 0 9 10 0 0 ∷ words 48 0 1 0 0 0
    ∷ words 48 0 1 0 0 0 ∷ [])
    (Fault 4)
    ∷ judged_to "a part of a pair pattern may be a chain"
    (words 1 1 2 3 12 0 ∷ words 16 2 2 0 0 0 ∷ words 17 0 1 1 0 0 ∷ words 39 0 4 5 6 7 ∷ words 33 0 0 0 0 0
    ∷ words 33 0 0 0 0 0 ∷ words 33 0 0 0 0 0 ∷ words 50 8 9 11 0 0 ∷ words 48 0 2 0 0 0 ∷ words 49 10 1 1 0 0
    ∷ words 49 0 1 2 0 0 ∷ words 48 0 1 0 0 0 ∷ [])
    (Sound 2)
    ∷ judged_to "the second alternative of a chain in a pair pattern is of another type"
    (words 1 1 3 4 12 0 ∷ words 16 2 2 0 0 0 ∷ words 16 3 2 0 0 0 ∷ words 17 0 1 1 0 0 ∷ words 39 0 5 6 7 8
    ∷ words 33 0 0 0 0 0 ∷ words 33 0 0 0 0 0 ∷ words 33 0 0 0 0 0 ∷ words 50 0 9 11 0 0 ∷ words 49 10 1 1 0 0
    ∷ words 48 0 2 0 0 0 ∷ words 48 0 1 0 0 0 ∷ [])
    (Fault 4)
    ∷ []
