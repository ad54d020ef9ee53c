-- The tests on declarations and the check on the sheets of texts, by computation; what each is to
-- be was found by hand.
-- Assumes nothing.
use Prim.Native.Nat.{ℕ, zero, suc}
use mathlib.Core.Path.{◌≡◌, refl}
use mathlib.Core.Bool.{true, false}
use mathlib.Core.List.{List, [], ◌∷◌, ◌++◌, map}
use mathlib.Core.Option.{none, some}
use lib.ListN.{replicate}
use Rattle.records.specs.Words.{word, count}
use Rattle.records.specs.Kinds.{row_of, kind_of, ask_of}
use Rattle.records.specs.Says.{well_said, namings}
use Rattle.records.specs.Trees.{type_within, type_at, pair_of, chain_within, chain, alternatives_within, alternatives, tree_within, tree_at, circuit}
use Rattle.structure.specs.Rules.{ancestry_within, ancestry, depth, nesting, wrong_length, wrong_header, wrong_record, wrong_naming, wrong_type, too_deep}
use Rattle.answers.specs.Answers.{lowest}
use Rattle.answers.specs.Answers.{Accepted, WrongRecord, WrongType, TooDeep, IllTyped}
use Rattle.verdict.specs.Verdict.{by_types, by_records, verdict}
use Rattle.grammar.specs.Source.{Identifier, identifier, Declaration, Constructors, PairOf, Text, text}
use Rattle.grammar.specs.Source.{OfConstructor, Undefined, ConstantPair, Alone, PatternPair, Either}
use Rattle.grammar.specs.Source.{Expression, NameUse, PairExpression, FirstOf, SecondOf, LetExpression, LetRecExpression, IfExpression, DelayExpression}
use Rattle.layout.specs.Layout.{sheet_of_text}
use Rattle.records.specs.SheetOf.{words, sheet_of}
use Rattle.text_passes.specs.RefusedTypes.{over_counted, refused_pair}
use Rattle.text_passes.specs.RecordWalk.{walk_within, record_walk}
use Rattle.text_passes.specs.TextDepths.{text_expressions, first_too_deep}
use Rattle.text_passes.specs.NamedTypes.{
  declared_here,
  declared_later,
  whole_name_typed,
  one_typed,
  parts_typed,
  either_typed,
  bound_typed,
  made_typed,
  couple_typed,
  second_part_typed,
  let_typed,
  if_typed,
  delay_typed,
  NameTypedText,
  name_typed_text,
}

-- names of one letter, and `input`
abbrev letter : ℕ → Identifier
letter c = identifier (c ∷ []) 0

abbrev the_input_name : Identifier
the_input_name = identifier (105 ∷ 110 ∷ 112 ∷ 117 ∷ 116 ∷ []) 0

-- TYPE b = h | l IN
abbrev bit : Declaration
bit = Constructors (letter 98) (letter 104) (letter 108 ∷ [])

-- TYPE c = (b, b) IN, TYPE d = (b, c) IN, TYPE e = (c, b) IN, TYPE f = (b, c) IN: the last has the
-- parts of the second
abbrev repeating : List Declaration
repeating =
    PairOf (letter 99) (letter 98) (letter 98)
    ∷ PairOf (letter 100) (letter 98) (letter 99)
    ∷ PairOf (letter 101) (letter 99) (letter 98)
    ∷ PairOf (letter 102) (letter 98) (letter 99)
    ∷ []

repeating-found : map (refused_pair (bit ∷ repeating)) (0 ∷ 1 ∷ 2 ∷ 3 ∷ 4 ∷ 5 ∷ 6 ∷ []) ≡ false ∷ false ∷ false ∷ false ∷ false ∷ true ∷ false ∷ []
unfolding refused_pair
repeating-found = refl

-- TYPE c = (b, b) IN, TYPE d = (c, c) IN and so on: 2, 4, 8, 16, 32, 64 leaves
abbrev doubling : List Declaration
doubling =
    PairOf (letter 99) (letter 98) (letter 98)
    ∷ PairOf (letter 100) (letter 99) (letter 99)
    ∷ PairOf (letter 101) (letter 100) (letter 100)
    ∷ PairOf (letter 102) (letter 101) (letter 101)
    ∷ PairOf (letter 103) (letter 102) (letter 102)
    ∷ PairOf (letter 105) (letter 103) (letter 103)
    ∷ []

-- TYPE j = (i, b) IN: 65 leaves
abbrev sixty_five : List Declaration
sixty_five = doubling ++ (PairOf (letter 106) (letter 105) (letter 98) ∷ [])

large-found : (lowest (refused_pair (bit ∷ doubling)) 8 ≡ none) × (lowest (refused_pair (bit ∷ sixty_five)) 9 ≡ some 8)
unfolding refused_pair
large-found = (refl, refl)

-- a type of n constructors more than the first
abbrev flat_of : ℕ → Declaration
flat_of n = Constructors (letter 99) (letter 100) (replicate n (letter 101))

many-found : (over_counted (bit ∷ flat_of 254 ∷ []) 2 ≡ false) × (lowest (over_counted (bit ∷ flat_of 255 ∷ flat_of 300 ∷ [])) 4 ≡ some 2)
unfolding over_counted
many-found = (refl, refl)

-- the check on the sheets of texts with these declarations, INPUT b input
abbrev as_text : List Declaration → Text
as_text ds = text bit ds (letter 98) (NameUse the_input_name)

verdicts : (verdict (sheet_of_text (as_text repeating)) ≡ WrongType 5)
    × (verdict (sheet_of_text (as_text doubling)) ≡ Accepted 1)
    × (verdict (sheet_of_text (as_text sixty_five)) ≡ WrongType 8)
    × (verdict (sheet_of_text (as_text (flat_of 254 ∷ []))) ≡ Accepted 1)
    × (verdict (sheet_of_text (as_text (flat_of 255 ∷ []))) ≡ WrongRecord 2)
unfolding sheet_of_text verdict by_records by_types wrong_length wrong_header wrong_record wrong_naming wrong_type too_deep depth nesting ancestry ancestry_within circuit tree_at tree_within alternatives alternatives_within chain chain_within pair_of type_at type_within namings well_said ask_of kind_of row_of word count
verdicts = (refl, refl, refl, refl, refl)

abbrev sheet_t : List ℕ
sheet_t =
    sheet_of
    (words 1 1 1 2 17 0
    ∷ words 16 0 2 0 0 0
    ∷ words 38 0 1 3 16 0
    ∷ words 40 0 1 4 5 0
    ∷ words 64 0 2 0 0 0
    ∷ words 39 0 6 8 15 7
    ∷ words 33 0 1 0 0 0
    ∷ words 49 0 1 1 0 0
    ∷ words 39 0 9 11 13 10
    ∷ words 33 0 0 0 0 0
    ∷ words 49 0 1 2 0 0
    ∷ words 32 0 1 12 0 0
    ∷ words 64 0 1 0 0 0
    ∷ words 32 0 1 14 0 0
    ∷ words 64 0 2 0 0 0
    ∷ words 33 0 0 0 0 0
    ∷ words 33 0 0 0 0 0
    ∷ [])

-- TYPE b = h | l IN TYPE c = (b, b) IN INPUT b
-- (LET x = (DELAY ((h, ?b), (input, input)))
--  IN (IF x MATCHES (h | l, b) | c THEN x[1] ELSE (LET INIT ?b REC y = x[2] IN y)))
abbrev each_form : Text
each_form =
    text bit (PairOf (letter 99) (letter 98) (letter 98) ∷ []) (letter 98)
    (LetExpression (letter 120)
    (DelayExpression (ConstantPair 0 (OfConstructor (letter 104)) (Undefined (letter 98))) (PairExpression (NameUse the_input_name) (NameUse the_input_name)))
    (IfExpression (NameUse (letter 120))
    (Either (PatternPair (Either (Alone (letter 104)) (Alone (letter 108))) (Alone (letter 98))) (Alone (letter 99)))
    (FirstOf (NameUse (letter 120)))
    (LetRecExpression (letter 98) (letter 121) (SecondOf (NameUse (letter 120))) (NameUse (letter 121)))))

-- the types are records 1 and 2; the expression has 20: LET, DELAY, two leaves, the pair and two
-- names, IF, a name, a first part and its name, the feedback, its part of two and its body, and
-- five of the pattern
walked : (record_walk (sheet_of_text each_form) 1 ≡ 1 ∷ 2 ∷ [])
    × (record_walk (sheet_of_text each_form) 3 ≡ 3 ∷ 4 ∷ 5 ∷ 6 ∷ 7 ∷ 8 ∷ 9 ∷ 10 ∷ 11 ∷ 12 ∷ 13 ∷ 14 ∷ 15 ∷ 16 ∷ 17 ∷ 18 ∷ 19 ∷ 20 ∷ 21 ∷ 22 ∷ [])
unfolding sheet_of_text record_walk walk_within ask_of row_of word count
walked = (refl, refl)

-- the sheet T of docs/SHEETS.md has its patterns before the branches: this walk does not visit it
-- in order
walk_of-t : record_walk sheet_t 2 ≡ 2 ∷ 3 ∷ 4 ∷ 5 ∷ 6 ∷ 8 ∷ 9 ∷ 11 ∷ 12 ∷ 13 ∷ 14 ∷ 10 ∷ 15 ∷ 7 ∷ 16 ∷ []
unfolding record_walk walk_within ask_of row_of word count
walk_of-t = refl

-- so many feedbacks in each other's defining parts, (LET INIT ?b REC x = .. IN x), and x in the
-- innermost
abbrev in_feedbacks : ℕ → Expression
in_feedbacks zero = NameUse (letter 120)
in_feedbacks (suc n) = LetRecExpression (letter 98) (letter 120) (in_feedbacks n) (NameUse (letter 120))

-- so many first parts of each other, input[1][1]..
abbrev of_first_parts : ℕ → Expression
of_first_parts zero = NameUse the_input_name
of_first_parts (suc n) = FirstOf (of_first_parts n)

-- INPUT b, with one declared type: the root is record 2, and the n-th below it record n + 2
abbrev of_expression : Expression → Text
of_expression e = text bit [] (letter 98) e

depths-found : (first_too_deep (text_expressions (of_expression (in_feedbacks 3))) ≡ none)
    × (first_too_deep (text_expressions (of_expression (in_feedbacks 4))) ≡ some 6)
    × (first_too_deep (text_expressions (of_expression (of_first_parts 63))) ≡ none)
    × (first_too_deep (text_expressions (of_expression (of_first_parts 64))) ≡ some 66)
depths-found = (refl, refl, refl, refl)

deep-verdicts : (verdict (sheet_of_text (of_expression (in_feedbacks 3))) ≡ Accepted 1)
    × (verdict (sheet_of_text (of_expression (in_feedbacks 4))) ≡ TooDeep 6)
    × (verdict (sheet_of_text (of_expression (of_first_parts 1))) ≡ IllTyped 2)
unfolding sheet_of_text verdict by_records by_types wrong_length wrong_header wrong_record wrong_naming wrong_type too_deep depth nesting ancestry ancestry_within circuit tree_at tree_within alternatives alternatives_within chain chain_within pair_of type_at type_within namings well_said ask_of kind_of row_of word count
deep-verdicts = (refl, refl, refl)

-- TYPE b = h | l IN TYPE c = (b, b) IN INPUT b (LET x = (input, h) IN (IF x MATCHES (h, b) | c THEN
-- x[2] ELSE (DELAY (?b, input))))
abbrev well_typed_expression : Expression
well_typed_expression =
    LetExpression (letter 120) (PairExpression (NameUse the_input_name) (NameUse (letter 104)))
    (IfExpression (NameUse (letter 120)) (Either (PatternPair (Alone (letter 104)) (Alone (letter 98))) (Alone (letter 99)))
    (SecondOf (NameUse (letter 120)))
    (DelayExpression (Undefined (letter 98)) (NameUse the_input_name)))

well_typed : NameTypedText (text bit (PairOf (letter 99) (letter 98) (letter 98) ∷ []) (letter 98) well_typed_expression) 1
well_typed =
    name_typed_text refl
    (let_typed (couple_typed (bound_typed refl) (made_typed refl refl refl) (declared_later declared_here))
    (if_typed (bound_typed refl)
    (either_typed (parts_typed (declared_later declared_here) (one_typed refl refl) (whole_name_typed refl)) (whole_name_typed refl))
    (second_part_typed (bound_typed refl) (declared_later declared_here))
    (delay_typed refl (bound_typed refl))))

well-typed-accepted : verdict (sheet_of_text (text bit (PairOf (letter 99) (letter 98) (letter 98) ∷ []) (letter 98) well_typed_expression)) ≡ Accepted 1
unfolding sheet_of_text verdict by_records by_types wrong_length wrong_header wrong_record wrong_naming wrong_type too_deep depth nesting ancestry ancestry_within circuit tree_at tree_within alternatives alternatives_within chain chain_within pair_of type_at type_within namings well_said ask_of kind_of row_of word count
well-typed-accepted = refl
