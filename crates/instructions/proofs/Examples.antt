-- The instructions run on texts: put into the order of the records they are the text's code, as many records are counted as are laid, and what
-- they write is what is laid. Assumes nothing.
use Prim.Native.Nat.{ℕ, suc}
use mathlib.Core.Path.{◌≡◌, refl}
use mathlib.Core.List.{List, [], ◌∷◌}
use mathlib.Core.Option.{none}
use lib.ListN.{length}
use Rattle.records.specs.SheetOf.{Record}
use Rattle.grammar.specs.Source.{identifier, Declaration, Constructors, PairOf, OfConstructor, Undefined, ConstantPair, Alone, PatternPair, Either, Text, text}
use Rattle.grammar.specs.Source.{NameUse, UndefinedOf, PairExpression, FirstOf, SecondOf, LetExpression, LetRecExpression, IfExpression, DelayExpression}
use Rattle.name_rules.specs.RecordsNeeded.{records_needed}
use Rattle.layout.specs.Layout.{laid, text_records}
use Rattle.layout.specs.Resolved.{type_number, type_entries}
use Rattle.name_rules.specs.Constants.{letters}
use Rattle.instructions.specs.TextOrder.{text_instructions}
use Rattle.instructions.specs.Assembly.{Assembly, assembly, nothing_assembled, assemble_all}
use Rattle.instructions.specs.RecordOrder.{declared_types, text_code}
use Rattle.instructions.specs.Emission.{of_number, emission, emit_all, records_written}

abbrev declarations_of : Text → List Declaration
declarations_of (text d ds n e) = d ∷ ds

abbrev laid_of : Text → List Record
laid_of (text d ds n e) = laid (d ∷ ds) [] (suc (length (d ∷ ds))) e

abbrev input_of : Text → ℕ
input_of (text d ds n e) = type_number (type_entries (d ∷ ds)) (letters n)

abbrev place_of : Assembly → ℕ
place_of (assembly T i C W Y p r u) = p

abbrev Assembles : Text → Type 0
Assembles t =
    assemble_all nothing_assembled (text_instructions t)
    ≡ assembly (declared_types (declarations_of t)) (input_of t) (text_code t) [] [] (place_of (assemble_all nothing_assembled (text_instructions t))) (length (laid_of t)) none

abbrev Emits : Text → Type 0
Emits t =
    emit_all (declared_types (declarations_of t)) (emission [] (records_needed t) [] 0) (text_code t)
    ≡ emission (laid_of t) (suc (length (declarations_of t))) (of_number (suc (length (declarations_of t))) ∷ []) 0

abbrev Writes : Text → Type 0
Writes t = records_written (declared_types (declarations_of t)) (input_of t) (laid_of t) ≡ text_records t

-- TYPE bit = hi | lo IN TYPE two = (bit, bit) IN INPUT bit (LET INIT ?bit REC out = (IF (input, (DELAY (hi, out))) MATCHES (hi, lo) | (lo, hi) THEN hi ELSE lo) IN out)
abbrev delayed_parity : Text
delayed_parity = (text (Constructors (identifier (98 ∷ 105 ∷ 116 ∷ []) 5) (identifier (104 ∷ 105 ∷ []) 11) ((identifier (108 ∷ 111 ∷ []) 16) ∷ [])) ((PairOf (identifier (116 ∷ 119 ∷ 111 ∷ []) 27) (identifier (98 ∷ 105 ∷ 116 ∷ []) 34) (identifier (98 ∷ 105 ∷ 116 ∷ []) 39)) ∷ []) (identifier (98 ∷ 105 ∷ 116 ∷ []) 53) (LetRecExpression (identifier (98 ∷ 105 ∷ 116 ∷ []) 68) (identifier (111 ∷ 117 ∷ 116 ∷ []) 76) (IfExpression (PairExpression (NameUse (identifier (105 ∷ 110 ∷ 112 ∷ 117 ∷ 116 ∷ []) 87)) (DelayExpression (OfConstructor (identifier (104 ∷ 105 ∷ []) 102)) (NameUse (identifier (111 ∷ 117 ∷ 116 ∷ []) 106)))) (Either (PatternPair (Alone (identifier (104 ∷ 105 ∷ []) 122)) (Alone (identifier (108 ∷ 111 ∷ []) 126))) (PatternPair (Alone (identifier (108 ∷ 111 ∷ []) 133)) (Alone (identifier (104 ∷ 105 ∷ []) 137)))) (NameUse (identifier (104 ∷ 105 ∷ []) 146)) (NameUse (identifier (108 ∷ 111 ∷ []) 154))) (NameUse (identifier (111 ∷ 117 ∷ 116 ∷ []) 161))))

delayed-parity-assembles : Assembles delayed_parity
delayed-parity-assembles = refl

delayed-parity-emits : Emits delayed_parity
delayed-parity-emits = refl

delayed-parity-writes : Writes delayed_parity
delayed-parity-writes = refl

-- TYPE bit = hi | lo IN TYPE two = (bit, bit) IN TYPE four = (two, two) IN INPUT two (LET x = (DELAY (((hi, lo), ?two), (input, input))) IN (x[2], (LET y = x[1] IN y)))
abbrev delay_of_a_pair : Text
delay_of_a_pair = (text (Constructors (identifier (98 ∷ 105 ∷ 116 ∷ []) 5) (identifier (104 ∷ 105 ∷ []) 11) ((identifier (108 ∷ 111 ∷ []) 16) ∷ [])) ((PairOf (identifier (116 ∷ 119 ∷ 111 ∷ []) 27) (identifier (98 ∷ 105 ∷ 116 ∷ []) 34) (identifier (98 ∷ 105 ∷ 116 ∷ []) 39)) ∷ (PairOf (identifier (102 ∷ 111 ∷ 117 ∷ 114 ∷ []) 52) (identifier (116 ∷ 119 ∷ 111 ∷ []) 60) (identifier (116 ∷ 119 ∷ 111 ∷ []) 65)) ∷ []) (identifier (116 ∷ 119 ∷ 111 ∷ []) 79) (LetExpression (identifier (120 ∷ []) 88) (DelayExpression (ConstantPair 100 (ConstantPair 101 (OfConstructor (identifier (104 ∷ 105 ∷ []) 102)) (OfConstructor (identifier (108 ∷ 111 ∷ []) 106))) (Undefined (identifier (116 ∷ 119 ∷ 111 ∷ []) 112))) (PairExpression (NameUse (identifier (105 ∷ 110 ∷ 112 ∷ 117 ∷ 116 ∷ []) 119)) (NameUse (identifier (105 ∷ 110 ∷ 112 ∷ 117 ∷ 116 ∷ []) 126)))) (PairExpression (SecondOf (NameUse (identifier (120 ∷ []) 139))) (LetExpression (identifier (121 ∷ []) 150) (FirstOf (NameUse (identifier (120 ∷ []) 154))) (NameUse (identifier (121 ∷ []) 162))))))

delay-of-a-pair-assembles : Assembles delay_of_a_pair
delay-of-a-pair-assembles = refl

delay-of-a-pair-emits : Emits delay_of_a_pair
delay-of-a-pair-emits = refl

delay-of-a-pair-writes : Writes delay_of_a_pair
delay-of-a-pair-writes = refl

-- TYPE bit = hi | lo IN TYPE two = (bit, bit) IN INPUT two (IF input MATCHES (hi | lo, bit) | two | (lo, hi) THEN ?two ELSE (IF input[1] MATCHES hi THEN (hi, lo) ELSE input))
abbrev patterns : Text
patterns = (text (Constructors (identifier (98 ∷ 105 ∷ 116 ∷ []) 5) (identifier (104 ∷ 105 ∷ []) 11) ((identifier (108 ∷ 111 ∷ []) 16) ∷ [])) ((PairOf (identifier (116 ∷ 119 ∷ 111 ∷ []) 27) (identifier (98 ∷ 105 ∷ 116 ∷ []) 34) (identifier (98 ∷ 105 ∷ 116 ∷ []) 39)) ∷ []) (identifier (116 ∷ 119 ∷ 111 ∷ []) 53) (IfExpression (NameUse (identifier (105 ∷ 110 ∷ 112 ∷ 117 ∷ 116 ∷ []) 61)) (Either (PatternPair (Either (Alone (identifier (104 ∷ 105 ∷ []) 76)) (Alone (identifier (108 ∷ 111 ∷ []) 81))) (Alone (identifier (98 ∷ 105 ∷ 116 ∷ []) 85))) (Either (Alone (identifier (116 ∷ 119 ∷ 111 ∷ []) 92)) (PatternPair (Alone (identifier (108 ∷ 111 ∷ []) 99)) (Alone (identifier (104 ∷ 105 ∷ []) 103))))) (UndefinedOf (identifier (116 ∷ 119 ∷ 111 ∷ []) 113)) (IfExpression (FirstOf (NameUse (identifier (105 ∷ 110 ∷ 112 ∷ 117 ∷ 116 ∷ []) 126))) (Alone (identifier (104 ∷ 105 ∷ []) 143)) (PairExpression (NameUse (identifier (104 ∷ 105 ∷ []) 152)) (NameUse (identifier (108 ∷ 111 ∷ []) 156))) (NameUse (identifier (105 ∷ 110 ∷ 112 ∷ 117 ∷ 116 ∷ []) 165)))))

patterns-assembles : Assembles patterns
patterns-assembles = refl

patterns-emits : Emits patterns
patterns-emits = refl

patterns-writes : Writes patterns
patterns-writes = refl

-- TYPE bit = a | b | c IN INPUT bit (LET x = a IN (LET y = x IN (LET x = input IN (IF x MATCHES c | b THEN y ELSE (LET INIT ?bit REC y = y IN x)))))
abbrev nearer_name : Text
nearer_name = (text (Constructors (identifier (98 ∷ 105 ∷ 116 ∷ []) 5) (identifier (97 ∷ []) 11) ((identifier (98 ∷ []) 15) ∷ (identifier (99 ∷ []) 19) ∷ [])) ([]) (identifier (98 ∷ 105 ∷ 116 ∷ []) 30) (LetExpression (identifier (120 ∷ []) 39) (NameUse (identifier (97 ∷ []) 43)) (LetExpression (identifier (121 ∷ []) 53) (NameUse (identifier (120 ∷ []) 57)) (LetExpression (identifier (120 ∷ []) 67) (NameUse (identifier (105 ∷ 110 ∷ 112 ∷ 117 ∷ 116 ∷ []) 71)) (IfExpression (NameUse (identifier (120 ∷ []) 84)) (Either (Alone (identifier (99 ∷ []) 94)) (Alone (identifier (98 ∷ []) 98))) (NameUse (identifier (121 ∷ []) 105)) (LetRecExpression (identifier (98 ∷ 105 ∷ 116 ∷ []) 123) (identifier (121 ∷ []) 131) (NameUse (identifier (121 ∷ []) 135)) (NameUse (identifier (120 ∷ []) 140))))))))

nearer-name-assembles : Assembles nearer_name
nearer-name-assembles = refl

nearer-name-emits : Emits nearer_name
nearer-name-emits = refl

nearer-name-writes : Writes nearer_name
nearer-name-writes = refl
