-- The layout run on texts: the records are those that the second translator gives for them. The decoding of the records is the expression
-- with distances. Assumes nothing.
use Prim.Native.Nat.{ℕ}
use mathlib.Core.Path.{◌≡◌, refl}
use mathlib.Core.List.{List, [], ◌∷◌, map}
use mathlib.Core.Option.{Option, none, some}
use Rattle.picoella.specs.Language.{Expr}
use Rattle.records.specs.SheetOf.{Record, words, sheet_of}
use Rattle.records.specs.Words.{word, count}
use Rattle.records.specs.Kinds.{row_of, kind_of}
use Rattle.records.specs.Trees.{type_within, type_at, chain_within, chain, alternatives_within, alternatives, tree_within, tree_at, circuit}
use Rattle.records.specs.Decoding.{decode}
use Rattle.grammar.specs.Source.{identifier, Constructors, PairOf, OfConstructor, Undefined, ConstantPair, Alone, PatternPair, Either, Text, text}
use Rattle.grammar.specs.Source.{NameUse, UndefinedOf, PairExpression, FirstOf, SecondOf, LetExpression, LetRecExpression, IfExpression, DelayExpression}
use Rattle.layout.specs.Distances.{expression_meant, unplaced}
use Rattle.layout.specs.Layout.{text_records, sheet_of_text}

abbrev bare : Option Expr → Option Expr
bare none = none
bare (some e) = some (unplaced e)

-- TYPE bit = hi | lo IN TYPE two = (bit, bit) IN INPUT bit (LET INIT ?bit REC out = (IF (input, (DELAY (hi, out))) MATCHES (hi, lo) | (lo, hi) THEN hi ELSE lo) IN out)
abbrev delayed_parity : Text
delayed_parity = (text (Constructors (identifier (98 ∷ 105 ∷ 116 ∷ []) 5) (identifier (104 ∷ 105 ∷ []) 11) ((identifier (108 ∷ 111 ∷ []) 16) ∷ [])) ((PairOf (identifier (116 ∷ 119 ∷ 111 ∷ []) 27) (identifier (98 ∷ 105 ∷ 116 ∷ []) 34) (identifier (98 ∷ 105 ∷ 116 ∷ []) 39)) ∷ []) (identifier (98 ∷ 105 ∷ 116 ∷ []) 53) (LetRecExpression (identifier (98 ∷ 105 ∷ 116 ∷ []) 68) (identifier (111 ∷ 117 ∷ 116 ∷ []) 76) (IfExpression (PairExpression (NameUse (identifier (105 ∷ 110 ∷ 112 ∷ 117 ∷ 116 ∷ []) 87)) (DelayExpression (OfConstructor (identifier (104 ∷ 105 ∷ []) 102)) (NameUse (identifier (111 ∷ 117 ∷ 116 ∷ []) 106)))) (Either (PatternPair (Alone (identifier (104 ∷ 105 ∷ []) 122)) (Alone (identifier (108 ∷ 111 ∷ []) 126))) (PatternPair (Alone (identifier (108 ∷ 111 ∷ []) 133)) (Alone (identifier (104 ∷ 105 ∷ []) 137)))) (NameUse (identifier (104 ∷ 105 ∷ []) 146)) (NameUse (identifier (108 ∷ 111 ∷ []) 154))) (NameUse (identifier (111 ∷ 117 ∷ 116 ∷ []) 161))))

delayed-parity-laid : text_records delayed_parity ≡ words 1 1 1 3 21 0 ∷ words 16 2 2 0 0 0 ∷ words 17 0 1 1 0 0 ∷ words 38 0 1 4 20 0 ∷ words 39 0 5 10 12 14 ∷ words 34 0 6 7 0 0 ∷ words 33 0 1 0 0 0 ∷ words 40 0 1 8 9 0 ∷ words 64 0 1 0 0 0 ∷ words 33 0 0 0 0 0 ∷ words 32 0 1 11 0 0 ∷ words 64 0 1 0 0 0 ∷ words 32 0 1 13 0 0 ∷ words 64 0 2 0 0 0 ∷ words 50 17 15 16 0 0 ∷ words 49 0 1 1 0 0 ∷ words 49 0 1 2 0 0 ∷ words 50 0 18 19 0 0 ∷ words 49 0 1 2 0 0 ∷ words 49 0 1 1 0 0 ∷ words 33 0 0 0 0 0 ∷ []
delayed-parity-laid = refl

delayed-parity-decodes : bare (decode (sheet_of_text delayed_parity)) ≡ some (expression_meant delayed_parity)
unfolding sheet_of_text decode circuit tree_at tree_within alternatives alternatives_within chain chain_within type_at type_within kind_of row_of word count
delayed-parity-decodes = refl

-- TYPE bit = hi | lo IN TYPE two = (bit, bit) IN TYPE four = (two, two) IN INPUT two (LET x = (DELAY (((hi, lo), ?two), (input, input))) IN (x[2], (LET y = x[1] IN y)))
abbrev delay_of_a_pair : Text
delay_of_a_pair = (text (Constructors (identifier (98 ∷ 105 ∷ 116 ∷ []) 5) (identifier (104 ∷ 105 ∷ []) 11) ((identifier (108 ∷ 111 ∷ []) 16) ∷ [])) ((PairOf (identifier (116 ∷ 119 ∷ 111 ∷ []) 27) (identifier (98 ∷ 105 ∷ 116 ∷ []) 34) (identifier (98 ∷ 105 ∷ 116 ∷ []) 39)) ∷ (PairOf (identifier (102 ∷ 111 ∷ 117 ∷ 114 ∷ []) 52) (identifier (116 ∷ 119 ∷ 111 ∷ []) 60) (identifier (116 ∷ 119 ∷ 111 ∷ []) 65)) ∷ []) (identifier (116 ∷ 119 ∷ 111 ∷ []) 79) (LetExpression (identifier (120 ∷ []) 88) (DelayExpression (ConstantPair 100 (ConstantPair 101 (OfConstructor (identifier (104 ∷ 105 ∷ []) 102)) (OfConstructor (identifier (108 ∷ 111 ∷ []) 106))) (Undefined (identifier (116 ∷ 119 ∷ 111 ∷ []) 112))) (PairExpression (NameUse (identifier (105 ∷ 110 ∷ 112 ∷ 117 ∷ 116 ∷ []) 119)) (NameUse (identifier (105 ∷ 110 ∷ 112 ∷ 117 ∷ 116 ∷ []) 126)))) (PairExpression (SecondOf (NameUse (identifier (120 ∷ []) 139))) (LetExpression (identifier (121 ∷ []) 150) (FirstOf (NameUse (identifier (120 ∷ []) 154))) (NameUse (identifier (121 ∷ []) 162))))))

delay-of-a-pair-laid : text_records delay_of_a_pair ≡ words 1 1 2 4 20 0 ∷ words 16 2 2 0 0 0 ∷ words 17 3 1 1 0 0 ∷ words 17 0 2 2 0 0 ∷ words 37 0 5 13 0 0 ∷ words 40 0 3 6 10 0 ∷ words 64 7 1 0 0 0 ∷ words 64 8 2 0 0 0 ∷ words 64 9 0 0 0 0 ∷ words 64 0 0 0 0 0 ∷ words 34 0 11 12 0 0 ∷ words 33 0 0 0 0 0 ∷ words 33 0 0 0 0 0 ∷ words 34 0 14 16 0 0 ∷ words 36 0 15 0 0 0 ∷ words 33 0 0 0 0 0 ∷ words 37 0 17 19 0 0 ∷ words 35 0 18 0 0 0 ∷ words 33 0 0 0 0 0 ∷ words 33 0 0 0 0 0 ∷ []
delay-of-a-pair-laid = refl

delay-of-a-pair-decodes : bare (decode (sheet_of_text delay_of_a_pair)) ≡ some (expression_meant delay_of_a_pair)
unfolding sheet_of_text decode circuit tree_at tree_within alternatives alternatives_within chain chain_within type_at type_within kind_of row_of word count
delay-of-a-pair-decodes = refl

-- TYPE bit = hi | lo IN TYPE two = (bit, bit) IN INPUT two (IF input MATCHES (hi | lo, bit) | two | (lo, hi) THEN ?two ELSE (IF input[1] MATCHES hi THEN (hi, lo) ELSE input))
abbrev patterns : Text
patterns = (text (Constructors (identifier (98 ∷ 105 ∷ 116 ∷ []) 5) (identifier (104 ∷ 105 ∷ []) 11) ((identifier (108 ∷ 111 ∷ []) 16) ∷ [])) ((PairOf (identifier (116 ∷ 119 ∷ 111 ∷ []) 27) (identifier (98 ∷ 105 ∷ 116 ∷ []) 34) (identifier (98 ∷ 105 ∷ 116 ∷ []) 39)) ∷ []) (identifier (116 ∷ 119 ∷ 111 ∷ []) 53) (IfExpression (NameUse (identifier (105 ∷ 110 ∷ 112 ∷ 117 ∷ 116 ∷ []) 61)) (Either (PatternPair (Either (Alone (identifier (104 ∷ 105 ∷ []) 76)) (Alone (identifier (108 ∷ 111 ∷ []) 81))) (Alone (identifier (98 ∷ 105 ∷ 116 ∷ []) 85))) (Either (Alone (identifier (116 ∷ 119 ∷ 111 ∷ []) 92)) (PatternPair (Alone (identifier (108 ∷ 111 ∷ []) 99)) (Alone (identifier (104 ∷ 105 ∷ []) 103))))) (UndefinedOf (identifier (116 ∷ 119 ∷ 111 ∷ []) 113)) (IfExpression (FirstOf (NameUse (identifier (105 ∷ 110 ∷ 112 ∷ 117 ∷ 116 ∷ []) 126))) (Alone (identifier (104 ∷ 105 ∷ []) 143)) (PairExpression (NameUse (identifier (104 ∷ 105 ∷ []) 152)) (NameUse (identifier (108 ∷ 111 ∷ []) 156))) (NameUse (identifier (105 ∷ 110 ∷ 112 ∷ 117 ∷ 116 ∷ []) 165)))))

patterns-laid : text_records patterns ≡ words 1 1 2 3 26 0 ∷ words 16 2 2 0 0 0 ∷ words 17 0 1 1 0 0 ∷ words 39 0 4 5 8 18 ∷ words 33 0 0 0 0 0 ∷ words 32 0 2 6 0 0 ∷ words 64 7 0 0 0 0 ∷ words 64 0 0 0 0 0 ∷ words 39 0 9 11 16 17 ∷ words 35 0 10 0 0 0 ∷ words 33 0 0 0 0 0 ∷ words 34 0 12 14 0 0 ∷ words 32 0 1 13 0 0 ∷ words 64 0 1 0 0 0 ∷ words 32 0 1 15 0 0 ∷ words 64 0 2 0 0 0 ∷ words 33 0 0 0 0 0 ∷ words 49 0 1 1 0 0 ∷ words 50 22 19 21 0 0 ∷ words 49 20 1 1 0 0 ∷ words 49 0 1 2 0 0 ∷ words 48 0 1 0 0 0 ∷ words 48 23 2 0 0 0 ∷ words 50 0 24 25 0 0 ∷ words 49 0 1 2 0 0 ∷ words 49 0 1 1 0 0 ∷ []
patterns-laid = refl

patterns-decodes : bare (decode (sheet_of_text patterns)) ≡ some (expression_meant patterns)
unfolding sheet_of_text decode circuit tree_at tree_within alternatives alternatives_within chain chain_within type_at type_within kind_of row_of word count
patterns-decodes = refl

-- TYPE bit = a | b | c IN INPUT bit (LET x = a IN (LET y = x IN (LET x = input IN (IF x MATCHES c | b THEN y ELSE (LET INIT ?bit REC y = y IN x)))))
abbrev nearer_name : Text
nearer_name = (text (Constructors (identifier (98 ∷ 105 ∷ 116 ∷ []) 5) (identifier (97 ∷ []) 11) ((identifier (98 ∷ []) 15) ∷ (identifier (99 ∷ []) 19) ∷ [])) ([]) (identifier (98 ∷ 105 ∷ 116 ∷ []) 30) (LetExpression (identifier (120 ∷ []) 39) (NameUse (identifier (97 ∷ []) 43)) (LetExpression (identifier (121 ∷ []) 53) (NameUse (identifier (120 ∷ []) 57)) (LetExpression (identifier (120 ∷ []) 67) (NameUse (identifier (105 ∷ 110 ∷ 112 ∷ 117 ∷ 116 ∷ []) 71)) (IfExpression (NameUse (identifier (120 ∷ []) 84)) (Either (Alone (identifier (99 ∷ []) 94)) (Alone (identifier (98 ∷ []) 98))) (NameUse (identifier (121 ∷ []) 105)) (LetRecExpression (identifier (98 ∷ 105 ∷ 116 ∷ []) 123) (identifier (121 ∷ []) 131) (NameUse (identifier (121 ∷ []) 135)) (NameUse (identifier (120 ∷ []) 140))))))))

nearer-name-laid : text_records nearer_name ≡ words 1 1 1 2 17 0 ∷ words 16 0 3 0 0 0 ∷ words 37 0 3 5 0 0 ∷ words 32 0 1 4 0 0 ∷ words 64 0 1 0 0 0 ∷ words 37 0 6 7 0 0 ∷ words 33 0 0 0 0 0 ∷ words 37 0 8 9 0 0 ∷ words 33 0 2 0 0 0 ∷ words 39 0 10 11 12 15 ∷ words 33 0 0 0 0 0 ∷ words 33 0 1 0 0 0 ∷ words 38 0 1 13 14 0 ∷ words 33 0 0 0 0 0 ∷ words 33 0 1 0 0 0 ∷ words 49 16 1 3 0 0 ∷ words 49 0 1 2 0 0 ∷ []
nearer-name-laid = refl

nearer-name-decodes : bare (decode (sheet_of_text nearer_name)) ≡ some (expression_meant nearer_name)
unfolding sheet_of_text decode circuit tree_at tree_within alternatives alternatives_within chain chain_within type_at type_within kind_of row_of word count
nearer-name-decodes = refl
