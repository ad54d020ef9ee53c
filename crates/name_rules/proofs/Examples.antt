-- The rules on names and constants run on examples: abstract texts, the first place that breaks a rule, and the records that are needed.
-- Assumes nothing.
use mathlib.Core.Path.{◌≡◌, refl}
use mathlib.Core.List.{[], ◌∷◌}
use mathlib.Core.Option.{none, some}
use Rattle.grammar.specs.Source.{identifier, Constructors, PairOf, OfConstructor, Undefined, ConstantPair, Alone, text}
use Rattle.grammar.specs.Source.{NameUse, UndefinedOf, PairExpression, LetExpression, LetRecExpression, IfExpression, DelayExpression}
use Rattle.name_rules.specs.Checks.{first_bad_place}
use Rattle.name_rules.specs.Names.{text_checks}
use Rattle.name_rules.specs.RecordsNeeded.{records_needed}
use Prim.Native.Nat.{ℕ}

-- TYPE a = a IN INPUT a input: a constructor named like its own type
like-its-own-type : first_bad_place (text_checks (text (Constructors (identifier (97 ∷ []) 5) (identifier (97 ∷ []) 9) ([])) ([]) (identifier (97 ∷ []) 20) (NameUse (identifier (105 ∷ 110 ∷ 112 ∷ 117 ∷ 116 ∷ []) 22)))) ≡ some 9
like-its-own-type = refl

-- TYPE bit = hi | lo IN TYPE c = hi IN INPUT bit hi: a constructor declared again
declared-twice : first_bad_place (text_checks (text (Constructors (identifier (98 ∷ 105 ∷ 116 ∷ []) 5) (identifier (104 ∷ 105 ∷ []) 11) ((identifier (108 ∷ 111 ∷ []) 16) ∷ [])) ((Constructors (identifier (99 ∷ []) 27) (identifier (104 ∷ 105 ∷ []) 31) ([])) ∷ []) (identifier (98 ∷ 105 ∷ 116 ∷ []) 43) (NameUse (identifier (104 ∷ 105 ∷ []) 47)))) ≡ some 31
declared-twice = refl

-- TYPE bit = hi | lo IN TYPE c = (bit, c) IN INPUT bit hi: a type is declared from its IN on
type-before-its-in : first_bad_place (text_checks (text (Constructors (identifier (98 ∷ 105 ∷ 116 ∷ []) 5) (identifier (104 ∷ 105 ∷ []) 11) ((identifier (108 ∷ 111 ∷ []) 16) ∷ [])) ((PairOf (identifier (99 ∷ []) 27) (identifier (98 ∷ 105 ∷ 116 ∷ []) 32) (identifier (99 ∷ []) 37)) ∷ []) (identifier (98 ∷ 105 ∷ 116 ∷ []) 49) (NameUse (identifier (104 ∷ 105 ∷ []) 53)))) ≡ some 37
type-before-its-in = refl

-- TYPE input = a IN INPUT input a: no type is named input
input-declared : first_bad_place (text_checks (text (Constructors (identifier (105 ∷ 110 ∷ 112 ∷ 117 ∷ 116 ∷ []) 5) (identifier (97 ∷ []) 13) ([])) ([]) (identifier (105 ∷ 110 ∷ 112 ∷ 117 ∷ 116 ∷ []) 24) (NameUse (identifier (97 ∷ []) 30)))) ≡ some 5
input-declared = refl

-- TYPE bit = hi | lo IN INPUT hi lo: INPUT wants a type
input-of-no-type : first_bad_place (text_checks (text (Constructors (identifier (98 ∷ 105 ∷ 116 ∷ []) 5) (identifier (104 ∷ 105 ∷ []) 11) ((identifier (108 ∷ 111 ∷ []) 16) ∷ [])) ([]) (identifier (104 ∷ 105 ∷ []) 28) (NameUse (identifier (108 ∷ 111 ∷ []) 31)))) ≡ some 28
input-of-no-type = refl

-- TYPE bit = hi | lo IN INPUT bit (LET bit = hi IN lo): no LET takes a type name
let-takes-type : first_bad_place (text_checks (text (Constructors (identifier (98 ∷ 105 ∷ 116 ∷ []) 5) (identifier (104 ∷ 105 ∷ []) 11) ((identifier (108 ∷ 111 ∷ []) 16) ∷ [])) ([]) (identifier (98 ∷ 105 ∷ 116 ∷ []) 28) (LetExpression (identifier (98 ∷ 105 ∷ 116 ∷ []) 37) (NameUse (identifier (104 ∷ 105 ∷ []) 43)) (NameUse (identifier (108 ∷ 111 ∷ []) 49))))) ≡ some 37
let-takes-type = refl

-- TYPE bit = hi | lo IN INPUT bit (LET input = hi IN lo): nor input
let-takes-input : first_bad_place (text_checks (text (Constructors (identifier (98 ∷ 105 ∷ 116 ∷ []) 5) (identifier (104 ∷ 105 ∷ []) 11) ((identifier (108 ∷ 111 ∷ []) 16) ∷ [])) ([]) (identifier (98 ∷ 105 ∷ 116 ∷ []) 28) (LetExpression (identifier (105 ∷ 110 ∷ 112 ∷ 117 ∷ 116 ∷ []) 37) (NameUse (identifier (104 ∷ 105 ∷ []) 45)) (NameUse (identifier (108 ∷ 111 ∷ []) 51))))) ≡ some 37
let-takes-input = refl

-- TYPE bit = hi | lo IN INPUT bit (LET x = x IN x): a LET name is not known in its first part
let-in-itself : first_bad_place (text_checks (text (Constructors (identifier (98 ∷ 105 ∷ 116 ∷ []) 5) (identifier (104 ∷ 105 ∷ []) 11) ((identifier (108 ∷ 111 ∷ []) 16) ∷ [])) ([]) (identifier (98 ∷ 105 ∷ 116 ∷ []) 28) (LetExpression (identifier (120 ∷ []) 37) (NameUse (identifier (120 ∷ []) 41)) (NameUse (identifier (120 ∷ []) 46))))) ≡ some 41
let-in-itself = refl

-- TYPE bit = hi | lo IN INPUT bit ((LET x = hi IN x), x): nor after its bracket
let-out-of-scope : first_bad_place (text_checks (text (Constructors (identifier (98 ∷ 105 ∷ 116 ∷ []) 5) (identifier (104 ∷ 105 ∷ []) 11) ((identifier (108 ∷ 111 ∷ []) 16) ∷ [])) ([]) (identifier (98 ∷ 105 ∷ 116 ∷ []) 28) (PairExpression (LetExpression (identifier (120 ∷ []) 38) (NameUse (identifier (104 ∷ 105 ∷ []) 42)) (NameUse (identifier (120 ∷ []) 48))) (NameUse (identifier (120 ∷ []) 52))))) ≡ some 52
let-out-of-scope = refl

-- TYPE bit = hi | lo IN INPUT bit bit: a type is no value
type-as-value : first_bad_place (text_checks (text (Constructors (identifier (98 ∷ 105 ∷ 116 ∷ []) 5) (identifier (104 ∷ 105 ∷ []) 11) ((identifier (108 ∷ 111 ∷ []) 16) ∷ [])) ([]) (identifier (98 ∷ 105 ∷ 116 ∷ []) 28) (NameUse (identifier (98 ∷ 105 ∷ 116 ∷ []) 32)))) ≡ some 32
type-as-value = refl

-- TYPE bit = hi | lo IN INPUT bit ?hi: a constructor is no type
value-as-type : first_bad_place (text_checks (text (Constructors (identifier (98 ∷ 105 ∷ 116 ∷ []) 5) (identifier (104 ∷ 105 ∷ []) 11) ((identifier (108 ∷ 111 ∷ []) 16) ∷ [])) ([]) (identifier (98 ∷ 105 ∷ 116 ∷ []) 28) (UndefinedOf (identifier (104 ∷ 105 ∷ []) 33)))) ≡ some 33
value-as-type = refl

-- TYPE bit = hi | lo IN INPUT bit (LET x = hi IN (IF x MATCHES x THEN hi ELSE lo)): a pattern names types and constructors
bound-in-pattern : first_bad_place (text_checks (text (Constructors (identifier (98 ∷ 105 ∷ 116 ∷ []) 5) (identifier (104 ∷ 105 ∷ []) 11) ((identifier (108 ∷ 111 ∷ []) 16) ∷ [])) ([]) (identifier (98 ∷ 105 ∷ 116 ∷ []) 28) (LetExpression (identifier (120 ∷ []) 37) (NameUse (identifier (104 ∷ 105 ∷ []) 41)) (IfExpression (NameUse (identifier (120 ∷ []) 51)) (Alone (identifier (120 ∷ []) 61)) (NameUse (identifier (104 ∷ 105 ∷ []) 68)) (NameUse (identifier (108 ∷ 111 ∷ []) 76)))))) ≡ some 61
bound-in-pattern = refl

-- TYPE bit = hi | lo IN INPUT bit (DELAY (input, x)): a constant names constructors
input-in-constant : first_bad_place (text_checks (text (Constructors (identifier (98 ∷ 105 ∷ 116 ∷ []) 5) (identifier (104 ∷ 105 ∷ []) 11) ((identifier (108 ∷ 111 ∷ []) 16) ∷ [])) ([]) (identifier (98 ∷ 105 ∷ 116 ∷ []) 28) (DelayExpression (OfConstructor (identifier (105 ∷ 110 ∷ 112 ∷ 117 ∷ 116 ∷ []) 40)) (NameUse (identifier (120 ∷ []) 47))))) ≡ some 40
input-in-constant = refl

-- TYPE bit = hi | lo IN INPUT bit (DELAY ((hi, lo), input)): the pair of a constant without a type
pair-without-type : first_bad_place (text_checks (text (Constructors (identifier (98 ∷ 105 ∷ 116 ∷ []) 5) (identifier (104 ∷ 105 ∷ []) 11) ((identifier (108 ∷ 111 ∷ []) 16) ∷ [])) ([]) (identifier (98 ∷ 105 ∷ 116 ∷ []) 28) (DelayExpression (ConstantPair 40 (OfConstructor (identifier (104 ∷ 105 ∷ []) 41)) (OfConstructor (identifier (108 ∷ 111 ∷ []) 45))) (NameUse (identifier (105 ∷ 110 ∷ 112 ∷ 117 ∷ 116 ∷ []) 50))))) ≡ some 40
pair-without-type = refl

-- TYPE bit = hi | lo IN TYPE two = (bit, bit) IN INPUT bit (DELAY (((hi, lo), hi), input)): the outermost bracket is told
outermost-bracket : first_bad_place (text_checks (text (Constructors (identifier (98 ∷ 105 ∷ 116 ∷ []) 5) (identifier (104 ∷ 105 ∷ []) 11) ((identifier (108 ∷ 111 ∷ []) 16) ∷ [])) ((PairOf (identifier (116 ∷ 119 ∷ 111 ∷ []) 27) (identifier (98 ∷ 105 ∷ 116 ∷ []) 34) (identifier (98 ∷ 105 ∷ 116 ∷ []) 39)) ∷ []) (identifier (98 ∷ 105 ∷ 116 ∷ []) 53) (DelayExpression (ConstantPair 65 (ConstantPair 66 (OfConstructor (identifier (104 ∷ 105 ∷ []) 67)) (OfConstructor (identifier (108 ∷ 111 ∷ []) 71))) (OfConstructor (identifier (104 ∷ 105 ∷ []) 76))) (NameUse (identifier (105 ∷ 110 ∷ 112 ∷ 117 ∷ 116 ∷ []) 81))))) ≡ some 65
outermost-bracket = refl

-- TYPE bit = hi | lo IN INPUT bit ((DELAY ((hi, lo), input)), x): names go before constants
names-before-constants : first_bad_place (text_checks (text (Constructors (identifier (98 ∷ 105 ∷ 116 ∷ []) 5) (identifier (104 ∷ 105 ∷ []) 11) ((identifier (108 ∷ 111 ∷ []) 16) ∷ [])) ([]) (identifier (98 ∷ 105 ∷ 116 ∷ []) 28) (PairExpression (DelayExpression (ConstantPair 41 (OfConstructor (identifier (104 ∷ 105 ∷ []) 42)) (OfConstructor (identifier (108 ∷ 111 ∷ []) 46))) (NameUse (identifier (105 ∷ 110 ∷ 112 ∷ 117 ∷ 116 ∷ []) 51))) (NameUse (identifier (120 ∷ []) 60))))) ≡ some 60
names-before-constants = refl

-- TYPE bit = hi | lo IN TYPE two = (bit, bit) IN INPUT bit ((DELAY ((hi, lo), input)), (DELAY ((two, hi), x))): by the place in the text
second-delay : first_bad_place (text_checks (text (Constructors (identifier (98 ∷ 105 ∷ 116 ∷ []) 5) (identifier (104 ∷ 105 ∷ []) 11) ((identifier (108 ∷ 111 ∷ []) 16) ∷ [])) ((PairOf (identifier (116 ∷ 119 ∷ 111 ∷ []) 27) (identifier (98 ∷ 105 ∷ 116 ∷ []) 34) (identifier (98 ∷ 105 ∷ 116 ∷ []) 39)) ∷ []) (identifier (98 ∷ 105 ∷ 116 ∷ []) 53) (PairExpression (DelayExpression (ConstantPair 66 (OfConstructor (identifier (104 ∷ 105 ∷ []) 67)) (OfConstructor (identifier (108 ∷ 111 ∷ []) 71))) (NameUse (identifier (105 ∷ 110 ∷ 112 ∷ 117 ∷ 116 ∷ []) 76))) (DelayExpression (ConstantPair 93 (OfConstructor (identifier (116 ∷ 119 ∷ 111 ∷ []) 94)) (OfConstructor (identifier (104 ∷ 105 ∷ []) 99))) (NameUse (identifier (120 ∷ []) 104)))))) ≡ some 94
second-delay = refl

-- TYPE bit = hi | lo IN INPUT bit (LET x = hi IN (LET x = x IN x)): a nearer name hides a farther one
hides : first_bad_place (text_checks (text (Constructors (identifier (98 ∷ 105 ∷ 116 ∷ []) 5) (identifier (104 ∷ 105 ∷ []) 11) ((identifier (108 ∷ 111 ∷ []) 16) ∷ [])) ([]) (identifier (98 ∷ 105 ∷ 116 ∷ []) 28) (LetExpression (identifier (120 ∷ []) 37) (NameUse (identifier (104 ∷ 105 ∷ []) 41)) (LetExpression (identifier (120 ∷ []) 52) (NameUse (identifier (120 ∷ []) 56)) (NameUse (identifier (120 ∷ []) 61)))))) ≡ none
hides = refl

-- TYPE bit = hi | lo IN INPUT bit (LET INIT ?bit REC q = (DELAY (lo, (IF input MATCHES hi THEN (IF q MATCHES lo THEN hi ELSE lo) ELSE q))) IN q): the sheet T of 17 records
rec-knows-itself : first_bad_place (text_checks (text (Constructors (identifier (98 ∷ 105 ∷ 116 ∷ []) 5) (identifier (104 ∷ 105 ∷ []) 11) ((identifier (108 ∷ 111 ∷ []) 16) ∷ [])) ([]) (identifier (98 ∷ 105 ∷ 116 ∷ []) 28) (LetRecExpression (identifier (98 ∷ 105 ∷ 116 ∷ []) 43) (identifier (113 ∷ []) 51) (DelayExpression (OfConstructor (identifier (108 ∷ 111 ∷ []) 63)) (IfExpression (NameUse (identifier (105 ∷ 110 ∷ 112 ∷ 117 ∷ 116 ∷ []) 71)) (Alone (identifier (104 ∷ 105 ∷ []) 85)) (IfExpression (NameUse (identifier (113 ∷ []) 97)) (Alone (identifier (108 ∷ 111 ∷ []) 107)) (NameUse (identifier (104 ∷ 105 ∷ []) 115)) (NameUse (identifier (108 ∷ 111 ∷ []) 123))) (NameUse (identifier (113 ∷ []) 132)))) (NameUse (identifier (113 ∷ []) 140))))) ≡ none
rec-knows-itself = refl

-- TYPE bit = hi | lo IN TYPE two = (bit, bit) IN TYPE four = (two, two) IN INPUT bit (DELAY ((?two, (hi, lo)), input)): an undefined part keeps its own type
undefined-keeps-its-type : first_bad_place (text_checks (text (Constructors (identifier (98 ∷ 105 ∷ 116 ∷ []) 5) (identifier (104 ∷ 105 ∷ []) 11) ((identifier (108 ∷ 111 ∷ []) 16) ∷ [])) ((PairOf (identifier (116 ∷ 119 ∷ 111 ∷ []) 27) (identifier (98 ∷ 105 ∷ 116 ∷ []) 34) (identifier (98 ∷ 105 ∷ 116 ∷ []) 39)) ∷ (PairOf (identifier (102 ∷ 111 ∷ 117 ∷ 114 ∷ []) 52) (identifier (116 ∷ 119 ∷ 111 ∷ []) 60) (identifier (116 ∷ 119 ∷ 111 ∷ []) 65)) ∷ []) (identifier (98 ∷ 105 ∷ 116 ∷ []) 79) (DelayExpression (ConstantPair 91 (Undefined (identifier (116 ∷ 119 ∷ 111 ∷ []) 93)) (ConstantPair 98 (OfConstructor (identifier (104 ∷ 105 ∷ []) 99)) (OfConstructor (identifier (108 ∷ 111 ∷ []) 103)))) (NameUse (identifier (105 ∷ 110 ∷ 112 ∷ 117 ∷ 116 ∷ []) 109))))) ≡ none
undefined-keeps-its-type = refl

sheet-of-seventeen : ◌≡◌ {A = ℕ} (records_needed (text (Constructors (identifier (98 ∷ 105 ∷ 116 ∷ []) 5) (identifier (104 ∷ 105 ∷ []) 11) ((identifier (108 ∷ 111 ∷ []) 16) ∷ [])) ([]) (identifier (98 ∷ 105 ∷ 116 ∷ []) 28) (LetRecExpression (identifier (98 ∷ 105 ∷ 116 ∷ []) 43) (identifier (113 ∷ []) 51) (DelayExpression (OfConstructor (identifier (108 ∷ 111 ∷ []) 63)) (IfExpression (NameUse (identifier (105 ∷ 110 ∷ 112 ∷ 117 ∷ 116 ∷ []) 71)) (Alone (identifier (104 ∷ 105 ∷ []) 85)) (IfExpression (NameUse (identifier (113 ∷ []) 97)) (Alone (identifier (108 ∷ 111 ∷ []) 107)) (NameUse (identifier (104 ∷ 105 ∷ []) 115)) (NameUse (identifier (108 ∷ 111 ∷ []) 123))) (NameUse (identifier (113 ∷ []) 132)))) (NameUse (identifier (113 ∷ []) 140))))) 17
sheet-of-seventeen = refl

-- the header, three types, the delay with its four leaves, and the input
delay-of-four : ◌≡◌ {A = ℕ} (records_needed (text (Constructors (identifier (98 ∷ 105 ∷ 116 ∷ []) 5) (identifier (104 ∷ 105 ∷ []) 11) ((identifier (108 ∷ 111 ∷ []) 16) ∷ [])) ((PairOf (identifier (116 ∷ 119 ∷ 111 ∷ []) 27) (identifier (98 ∷ 105 ∷ 116 ∷ []) 34) (identifier (98 ∷ 105 ∷ 116 ∷ []) 39)) ∷ (PairOf (identifier (102 ∷ 111 ∷ 117 ∷ 114 ∷ []) 52) (identifier (116 ∷ 119 ∷ 111 ∷ []) 60) (identifier (116 ∷ 119 ∷ 111 ∷ []) 65)) ∷ []) (identifier (98 ∷ 105 ∷ 116 ∷ []) 79) (DelayExpression (ConstantPair 91 (Undefined (identifier (116 ∷ 119 ∷ 111 ∷ []) 93)) (ConstantPair 98 (OfConstructor (identifier (104 ∷ 105 ∷ []) 99)) (OfConstructor (identifier (108 ∷ 111 ∷ []) 103)))) (NameUse (identifier (105 ∷ 110 ∷ 112 ∷ 117 ∷ 116 ∷ []) 109))))) 10
delay-of-four = refl
