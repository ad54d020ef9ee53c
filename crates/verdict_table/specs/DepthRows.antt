-- Code 6 (docs/SHEETS.md, "Codes": "an expression that lies deeper than 64, or in four feedbacks or more"; "Limits": "Patterns and
-- leaves have no depth").
use Rattle.std.specs.Prelude.{ℕ, zero, suc, ◌+◌, List, [], ◌∷◌}
use Rattle.records.specs.SheetOf.{Record, words}
use Rattle.answers.specs.Answers.{Accepted, TooDeep}
use Rattle.verdict_table.specs.Rows.{VerdictRow, gives}

-- LETs, each in the body of the one before, the first at record r; the defining part of each is name 0
abbrev pub lets : (n r : ℕ) → List Record → List Record
lets zero r rest = rest
lets (suc n) r rest = words 37 0 (r + 1) (r + 2) 0 0 ∷ words 33 0 0 0 0 0 ∷ lets n (r + 2) rest

-- first parts, each of the one after it, the first at record r
abbrev pub firsts : (n r : ℕ) → List Record → List Record
firsts zero r rest = rest
firsts (suc n) r rest = words 35 0 (r + 1) 0 0 0 ∷ firsts n (r + 1) rest

abbrev pub depth_rows : List VerdictRow
depth_rows =
    gives "depth 64 passes, with 64 names in scope; the leaf of the constant there does not count"
    (words 1 1 1 2 130 0
    ∷ words 16 0 2 0 0 0
    ∷ lets 62 2
    (words 37 0 127 129 0 0 ∷ words 32 0 1 128 0 0 ∷ words 64 0 0 0 0 0 ∷ words 33 0 63 0 0 0 ∷ []))
    (Accepted 1)
    ∷ gives "depth 65"
    (words 1 1 1 2 67 0 ∷ words 16 0 2 0 0 0 ∷ firsts 64 2 (words 33 0 0 0 0 0 ∷ []))
    (TooDeep 66)
    ∷ gives "an expression in the defining parts of three feedbacks passes"
    (words 1 1 1 2 9 0 ∷ words 16 0 2 0 0 0 ∷ words 38 0 1 4 3 0 ∷ words 33 0 0 0 0 0 ∷ words 38 0 1 6 5 0
    ∷ words 33 0 0 0 0 0 ∷ words 38 0 1 8 7 0 ∷ words 33 0 0 0 0 0 ∷ words 33 0 0 0 0 0 ∷ [])
    (Accepted 1)
    ∷ gives "an expression in the defining parts of four feedbacks"
    (words 1 1 1 2 11 0 ∷ words 16 0 2 0 0 0 ∷ words 38 0 1 4 3 0 ∷ words 33 0 0 0 0 0 ∷ words 38 0 1 6 5 0
    ∷ words 33 0 0 0 0 0 ∷ words 38 0 1 8 7 0 ∷ words 33 0 0 0 0 0 ∷ words 38 0 1 10 9 0 ∷ words 33 0 0 0 0 0
    ∷ words 33 0 0 0 0 0 ∷ [])
    (TooDeep 10)
    ∷ gives "a feedback's body does not lie in its defining part"
    (words 1 1 1 2 11 0 ∷ words 16 0 2 0 0 0 ∷ words 38 0 1 3 4 0 ∷ words 33 0 0 0 0 0 ∷ words 38 0 1 5 6 0
    ∷ words 33 0 0 0 0 0 ∷ words 38 0 1 7 8 0 ∷ words 33 0 0 0 0 0 ∷ words 38 0 1 9 10 0 ∷ words 33 0 0 0 0 0
    ∷ words 33 0 0 0 0 0 ∷ [])
    (Accepted 1)
    ∷ gives "a type rule is broken at record 3, but 6 goes before 7"
    (words 1 1 1 2 11 0 ∷ words 16 0 2 0 0 0 ∷ words 38 0 1 4 3 0 ∷ words 33 0 9 0 0 0 ∷ words 38 0 1 6 5 0
    ∷ words 33 0 0 0 0 0 ∷ words 38 0 1 8 7 0 ∷ words 33 0 0 0 0 0 ∷ words 38 0 1 10 9 0 ∷ words 33 0 0 0 0 0
    ∷ words 33 0 0 0 0 0 ∷ [])
    (TooDeep 10)
    ∷ []
