-- Code 7, the order (docs/SHEETS.md, "Codes": "first such record, parts before the whole"; code 7 "goes through the expressions from
-- the root, parts `a`, `b`, `c` first and then the whole. In an IF the pattern is judged after part `a` and before the branches, and is
-- reported at the IF"): each sheet breaks two rules, the one that is judged later at a lower record where it can be.
use Rattle.std.specs.Prelude.{List, [], ◌∷◌}
use Rattle.records.specs.SheetOf.{words}
use Rattle.typing.specs.Outcomes.{Fault}
use Rattle.typing.specs.Rows.{TypingRow, judged_to}

abbrev pub order_rows : List TypingRow
order_rows =
    judged_to "the inner of two first parts of a flat type"
    (words 1 1 1 2 5 0 ∷ words 16 0 2 0 0 0 ∷ words 35 0 3 0 0 0 ∷ words 35 0 4 0 0 0 ∷ words 33 0 0 0 0 0 ∷ [])
    (Fault 3)
    ∷ judged_to "word a of a pair before word b, though that is the lower record"
    (words 1 1 1 2 5 0 ∷ words 16 0 2 0 0 0 ∷ words 34 0 4 3 0 0 ∷ words 33 0 9 0 0 0 ∷ words 33 0 9 0 0 0 ∷ [])
    (Fault 4)
    ∷ judged_to "word b of a pair before the pair, which has no record"
    (words 1 1 1 2 5 0 ∷ words 16 0 2 0 0 0 ∷ words 34 0 3 4 0 0 ∷ words 33 0 0 0 0 0 ∷ words 33 0 9 0 0 0 ∷ [])
    (Fault 4)
    ∷ judged_to "a LET's defining part before its body"
    (words 1 1 1 2 5 0 ∷ words 16 0 2 0 0 0 ∷ words 37 0 4 3 0 0 ∷ words 33 0 9 0 0 0 ∷ words 33 0 9 0 0 0 ∷ [])
    (Fault 4)
    ∷ judged_to "a feedback's defining part before its body"
    (words 1 1 1 2 5 0 ∷ words 16 0 2 0 0 0 ∷ words 38 0 1 4 3 0 ∷ words 33 0 9 0 0 0 ∷ words 33 0 9 0 0 0 ∷ [])
    (Fault 4)
    ∷ judged_to "a feedback's body before the type of its defining part"
    (words 1 1 1 3 7 0 ∷ words 16 2 2 0 0 0 ∷ words 16 0 3 0 0 0 ∷ words 38 0 1 4 5 0 ∷ words 32 0 2 6 0 0
    ∷ words 33 0 7 0 0 0 ∷ words 64 0 1 0 0 0 ∷ [])
    (Fault 5)
    ∷ judged_to "a delay's part before its leaves"
    (words 1 1 1 2 5 0 ∷ words 16 0 2 0 0 0 ∷ words 40 0 1 3 4 0 ∷ words 64 0 3 0 0 0 ∷ words 33 0 5 0 0 0 ∷ [])
    (Fault 4)
    ∷ judged_to "an IF's tested part before its pattern"
    (words 1 1 1 3 8 0 ∷ words 16 2 2 0 0 0 ∷ words 16 0 3 0 0 0 ∷ words 39 0 4 6 7 5 ∷ words 33 0 9 0 0 0
    ∷ words 49 0 2 1 0 0 ∷ words 33 0 9 0 0 0 ∷ words 33 0 0 0 0 0 ∷ [])
    (Fault 4)
    ∷ judged_to "an IF's pattern before its branches, reported at the IF"
    (words 1 1 1 3 8 0 ∷ words 16 2 2 0 0 0 ∷ words 16 0 3 0 0 0 ∷ words 39 0 4 6 7 5 ∷ words 33 0 0 0 0 0
    ∷ words 49 0 2 1 0 0 ∷ words 33 0 9 0 0 0 ∷ words 33 0 0 0 0 0 ∷ [])
    (Fault 3)
    ∷ judged_to "an IF's then branch before its else branch, though that is the lower record"
    (words 1 1 1 2 7 0 ∷ words 16 0 2 0 0 0 ∷ words 39 0 3 5 4 6 ∷ words 33 0 0 0 0 0 ∷ words 33 0 9 0 0 0
    ∷ words 33 0 9 0 0 0 ∷ words 48 0 1 0 0 0 ∷ [])
    (Fault 5)
    ∷ judged_to "an IF's else branch before the IF, whose branches then have no one type"
    (words 1 1 1 2 7 0 ∷ words 16 0 2 0 0 0 ∷ words 39 0 3 4 5 6 ∷ words 33 0 0 0 0 0 ∷ words 33 0 0 0 0 0
    ∷ words 33 0 9 0 0 0 ∷ words 48 0 1 0 0 0 ∷ [])
    (Fault 5)
    ∷ []
