-- Small sheets carried into each other: what each delay takes or keeps, and the answers. A sheet is written by its words, six a
-- record: kind, next, a, b, c, d.
use Rattle.std.specs.Prelude.{ℕ, ◌≡◌, List, [], ◌∷◌, length, replicate}
use Rattle.records.specs.SheetOf.{words, sheet_of}
use Rattle.answers.specs.Answers.{Done, Refused}
use Rattle.carry.specs.Carry.{carry_answer, final_carried}

-- a delay of a flat type of so many constructors, with this label and value
abbrev pub flat_delay : (constructors label value : ℕ) → List ℕ
flat_delay n l v =
    sheet_of
    (words 1 1 1 2 5 0 ∷ words 16 0 n 0 0 0 ∷ words 40 0 1 3 4 l ∷ words 64 0 v 0 0 0 ∷ words 33 0 0 0 0 0 ∷ [])

-- a delay of a pair of such
abbrev pub pair_delay : (label first second : ℕ) → List ℕ
pair_delay l v w =
    sheet_of
    (words 1 1 2 3 7 0 ∷ words 16 2 2 0 0 0 ∷ words 17 0 1 1 0 0 ∷ words 40 0 2 4 6 l ∷ words 64 5 v 0 0 0
    ∷ words 64 0 w 0 0 0 ∷ words 33 0 0 0 0 0 ∷ [])

-- a delay of three leaves, whose pair stands first or second
abbrev pub three_delay : (first second label value : ℕ) → List ℕ
three_delay a b l v =
    sheet_of
    (words 1 1 3 4 9 0 ∷ words 16 2 2 0 0 0 ∷ words 17 3 1 1 0 0 ∷ words 17 0 a b 0 0 ∷ words 40 0 3 5 8 l
    ∷ words 64 6 v 0 0 0 ∷ words 64 7 v 0 0 0 ∷ words 64 0 v 0 0 0 ∷ words 33 0 0 0 0 0 ∷ [])

-- two delays, the one in the other, with these labels and values
abbrev pub two_delays : (label value label' value' : ℕ) → List ℕ
two_delays l v l' v' =
    sheet_of
    (words 1 1 1 2 7 0 ∷ words 16 0 2 0 0 0 ∷ words 40 0 1 3 4 l ∷ words 64 0 v 0 0 0 ∷ words 40 0 1 5 6 l'
    ∷ words 64 0 v' 0 0 0 ∷ words 33 0 0 0 0 0 ∷ [])

-- the sheet T with this label and value in its delay
abbrev pub labelled_toggle : (label value : ℕ) → List ℕ
labelled_toggle l v =
    sheet_of
    (words 1 1 1 2 17 0 ∷ words 16 0 2 0 0 0 ∷ words 38 0 1 3 16 0 ∷ words 40 0 1 4 5 l ∷ words 64 0 v 0 0 0
    ∷ words 39 0 6 8 15 7 ∷ words 33 0 1 0 0 0 ∷ words 49 0 1 1 0 0 ∷ words 39 0 9 11 13 10 ∷ words 33 0 0 0 0 0
    ∷ words 49 0 1 2 0 0 ∷ words 32 0 1 12 0 0 ∷ words 64 0 1 0 0 0 ∷ words 32 0 1 14 0 0 ∷ words 64 0 2 0 0 0
    ∷ words 33 0 0 0 0 0 ∷ words 33 0 0 0 0 0 ∷ [])

pub data CarryCase : Type 0 where
  -- the old sheet carried into the new one gives this sheet
  carries_to : (old new sheet : List ℕ) → CarryCase
  -- the call with so long a next slice is refused like this
  refuses_with : (old new : List ℕ) (next code place : ℕ) → CarryCase

abbrev pub CarryCaseHolds : CarryCase → Type 0
CarryCaseHolds (carries_to old new s) =
    (carry_answer old new (replicate (length new) 0) ≡ Done 0) × (final_carried old new (replicate (length new) 0) ≡ s)
CarryCaseHolds (refuses_with old new n c p) =
    (carry_answer old new (replicate n 0) ≡ Refused c p) × (final_carried old new (replicate n 0) ≡ replicate n 0)

abbrev pub AllCarry : List CarryCase → Type 0
AllCarry [] = Unit {0}
AllCarry (c ∷ cs) = CarryCaseHolds c × AllCarry cs

abbrev pub carry_cases : List CarryCase
carry_cases =
    -- the same label and shape
    carries_to (flat_delay 2 7 1) (flat_delay 2 7 2) (flat_delay 2 7 1)
    ∷ carries_to (pair_delay 65535 1 0) (pair_delay 65535 2 2) (pair_delay 65535 1 0)
    -- unequal counts; a pair and a flat; a pair first and a pair second
    ∷ carries_to (flat_delay 3 7 1) (flat_delay 2 7 2) (flat_delay 2 7 2)
    ∷ carries_to (flat_delay 2 7 1) (pair_delay 7 2 2) (pair_delay 7 2 2)
    ∷ carries_to (three_delay 1 2 7 1) (three_delay 2 1 7 2) (three_delay 2 1 7 2)
    -- no label; no such label
    ∷ carries_to (flat_delay 2 0 1) (flat_delay 2 0 2) (flat_delay 2 0 2)
    ∷ carries_to (flat_delay 2 8 1) (flat_delay 2 7 2) (flat_delay 2 7 2)
    -- by label and not by place
    ∷ carries_to (two_delays 1 1 2 2) (two_delays 2 0 1 0) (two_delays 2 2 1 1)
    ∷ carries_to (two_delays 0 1 2 2) (two_delays 0 0 2 0) (two_delays 0 0 2 2)
    -- the sheet T after a cycle, into T
    ∷ carries_to (labelled_toggle 5 1) (labelled_toggle 5 2) (labelled_toggle 5 1)
    -- the old sheet refused; then the new one; then a label twice, in the old one first; then the slice
    ∷ refuses_with (flat_delay 2 7 3) (flat_delay 0 7 1) 0 7 2
    ∷ refuses_with (two_delays 3 1 3 1) (flat_delay 2 7 3) 0 18 7
    ∷ refuses_with (two_delays 3 1 3 1) (two_delays 4 1 4 1) 0 19 4
    ∷ refuses_with (flat_delay 2 7 1) (two_delays 4 1 4 1) 0 19 4
    ∷ refuses_with (flat_delay 2 7 1) (two_delays 0 1 0 1) 83 11 84
    ∷ []
