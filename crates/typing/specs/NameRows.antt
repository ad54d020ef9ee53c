-- Code 7, names and leaves (docs/SHEETS.md, "Type rules": "The input is the outermost, with the header's input type. In the body of a
-- LET there is one name more, of the defining part's type. In both parts of a feedback there is one more, of the type in its word `a`."
-- A name's "number is below the number of names in scope". A constant's or a delay's "chain is as long as its type has leaves, and no
-- leaf is above the number of constructors of the flat type at that leaf; 0 stands for undefined").
use Rattle.std.specs.Prelude.{List, [], ◌∷◌}
use Rattle.records.specs.SheetOf.{words}
use Rattle.typing.specs.Outcomes.{Sound, Fault}
use Rattle.typing.specs.Rows.{TypingRow, judged_to}

abbrev pub name_rows : List TypingRow
name_rows =
    judged_to "name 1 where the input is the only name"
    (words 1 1 1 2 3 0 ∷ words 16 0 2 0 0 0 ∷ words 33 0 1 0 0 0 ∷ [])
    (Fault 2)
    ∷ judged_to "in a LET's body the input is name 1"
    (words 1 1 1 2 5 0 ∷ words 16 0 2 0 0 0 ∷ words 37 0 3 4 0 0 ∷ words 33 0 0 0 0 0 ∷ words 33 0 1 0 0 0 ∷ [])
    (Sound 1)
    ∷ judged_to "in a LET's body there is no name 2"
    (words 1 1 1 2 5 0 ∷ words 16 0 2 0 0 0 ∷ words 37 0 3 4 0 0 ∷ words 33 0 0 0 0 0 ∷ words 33 0 2 0 0 0 ∷ [])
    (Fault 4)
    ∷ judged_to "a LET adds no name for its defining part"
    (words 1 1 1 2 5 0 ∷ words 16 0 2 0 0 0 ∷ words 37 0 3 4 0 0 ∷ words 33 0 1 0 0 0 ∷ words 33 0 0 0 0 0 ∷ [])
    (Fault 3)
    ∷ judged_to "a LET adds no name for what stands beside it"
    (words 1 1 1 3 8 0 ∷ words 16 2 2 0 0 0 ∷ words 17 0 1 1 0 0 ∷ words 34 0 4 7 0 0 ∷ words 37 0 5 6 0 0
    ∷ words 33 0 0 0 0 0 ∷ words 33 0 1 0 0 0 ∷ words 33 0 1 0 0 0 ∷ [])
    (Fault 7)
    ∷ judged_to "a LET's name has the type of its defining part"
    (words 1 1 1 3 7 0 ∷ words 16 2 2 0 0 0 ∷ words 16 0 3 0 0 0 ∷ words 37 0 4 6 0 0 ∷ words 32 0 2 5 0 0
    ∷ words 64 0 3 0 0 0 ∷ words 33 0 0 0 0 0 ∷ [])
    (Sound 2)
    ∷ judged_to "in both parts of a feedback its name is 0 and the input 1"
    (words 1 1 1 2 5 0 ∷ words 16 0 2 0 0 0 ∷ words 38 0 1 3 4 0 ∷ words 33 0 1 0 0 0 ∷ words 33 0 0 0 0 0 ∷ [])
    (Sound 1)
    ∷ judged_to "in a feedback's defining part there is no name 2"
    (words 1 1 1 2 5 0 ∷ words 16 0 2 0 0 0 ∷ words 38 0 1 3 4 0 ∷ words 33 0 2 0 0 0 ∷ words 33 0 0 0 0 0 ∷ [])
    (Fault 3)
    ∷ judged_to "in a feedback's body there is no name 2"
    (words 1 1 1 2 5 0 ∷ words 16 0 2 0 0 0 ∷ words 38 0 1 3 4 0 ∷ words 33 0 0 0 0 0 ∷ words 33 0 2 0 0 0 ∷ [])
    (Fault 4)
    ∷ judged_to "a feedback's name has its type, also where the body has another"
    (words 1 1 1 3 6 0 ∷ words 16 2 2 0 0 0 ∷ words 16 0 3 0 0 0 ∷ words 38 0 2 4 5 0 ∷ words 33 0 0 0 0 0
    ∷ words 33 0 1 0 0 0 ∷ [])
    (Sound 1)
    ∷ judged_to "a constant's leaf of 0 is undefined, and passes"
    (words 1 1 1 2 4 0 ∷ words 16 0 2 0 0 0 ∷ words 32 0 1 3 0 0 ∷ words 64 0 0 0 0 0 ∷ [])
    (Sound 1)
    ∷ judged_to "a constant's leaf may be its type's count"
    (words 1 1 1 2 4 0 ∷ words 16 0 2 0 0 0 ∷ words 32 0 1 3 0 0 ∷ words 64 0 2 0 0 0 ∷ [])
    (Sound 1)
    ∷ judged_to "a constant's leaf is past its type's count"
    (words 1 1 1 2 4 0 ∷ words 16 0 2 0 0 0 ∷ words 32 0 1 3 0 0 ∷ words 64 0 3 0 0 0 ∷ [])
    (Fault 2)
    ∷ judged_to "a constant of a pair type has one leaf"
    (words 1 1 1 3 5 0 ∷ words 16 2 2 0 0 0 ∷ words 17 0 1 1 0 0 ∷ words 32 0 2 4 0 0 ∷ words 64 0 0 0 0 0 ∷ [])
    (Fault 3)
    ∷ judged_to "a constant of a flat type has two leaves"
    (words 1 1 1 2 5 0 ∷ words 16 0 2 0 0 0 ∷ words 32 0 1 3 0 0 ∷ words 64 4 1 0 0 0 ∷ words 64 0 0 0 0 0 ∷ [])
    (Fault 2)
    ∷ judged_to "a constant's leaves stand in the order of its type's parts"
    (words 1 1 1 4 7 0 ∷ words 16 2 2 0 0 0 ∷ words 16 3 3 0 0 0 ∷ words 17 0 1 2 0 0 ∷ words 32 0 3 5 0 0
    ∷ words 64 6 2 0 0 0 ∷ words 64 0 3 0 0 0 ∷ [])
    (Sound 3)
    ∷ judged_to "a constant's leaves stand in the other order, one past its count"
    (words 1 1 1 4 7 0 ∷ words 16 2 2 0 0 0 ∷ words 16 3 3 0 0 0 ∷ words 17 0 1 2 0 0 ∷ words 32 0 3 5 0 0
    ∷ words 64 6 3 0 0 0 ∷ words 64 0 2 0 0 0 ∷ [])
    (Fault 4)
    ∷ judged_to "a delay's leaf may be its type's count"
    (words 1 1 1 2 5 0 ∷ words 16 0 2 0 0 0 ∷ words 40 0 1 3 4 0 ∷ words 64 0 2 0 0 0 ∷ words 33 0 0 0 0 0 ∷ [])
    (Sound 1)
    ∷ judged_to "a delay's leaf is past its type's count"
    (words 1 1 1 2 5 0 ∷ words 16 0 2 0 0 0 ∷ words 40 0 1 3 4 0 ∷ words 64 0 3 0 0 0 ∷ words 33 0 0 0 0 0 ∷ [])
    (Fault 2)
    ∷ judged_to "a delay of a pair type has one leaf"
    (words 1 1 2 3 6 0 ∷ words 16 2 2 0 0 0 ∷ words 17 0 1 1 0 0 ∷ words 40 0 2 4 5 0 ∷ words 64 0 0 0 0 0
    ∷ words 33 0 0 0 0 0 ∷ [])
    (Fault 3)
    ∷ judged_to "a delay of a flat type has two leaves"
    (words 1 1 1 2 6 0 ∷ words 16 0 2 0 0 0 ∷ words 40 0 1 3 5 0 ∷ words 64 4 0 0 0 0 ∷ words 64 0 0 0 0 0
    ∷ words 33 0 0 0 0 0 ∷ [])
    (Fault 2)
    ∷ []
