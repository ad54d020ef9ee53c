-- The types of constants (docs/SHEETS.md, "Names"): a pair in the constant of a DELAY "is one constant, and its type is the first
-- declared pair type of its parts' types". `?d` keeps its own type d; a pair over a part without a type has none either.
use Rattle.std.specs.Prelude.{ℕ, Bool, true, false, cond, List, [], ◌∷◌, ◌++◌}
use Rattle.std.proofs.Math.Option.{Option, none, some}
use Rattle.grammar.specs.Source.{Identifier, identifier, Declaration, Constructors, PairOf, SourceConstant, OfConstructor, Undefined, ConstantPair}
use Rattle.grammar.specs.Source.{Expression, NameUse, UndefinedOf, PairExpression, FirstOf, SecondOf, LetExpression, LetRecExpression, IfExpression, DelayExpression, Text, text}
use Rattle.name_rules.specs.Declared.{same_name, is_among}
use Rattle.name_rules.specs.Checks.{PlacedCheck, check_at}

abbrev pub letters : Identifier → List ℕ
letters (identifier w p) = w

abbrev pub all_letters : List Identifier → List (List ℕ)
all_letters [] = []
all_letters (n ∷ ns) = letters n ∷ all_letters ns

-- the type that declares a constructor
abbrev pub type_of_constructor : List Declaration → List ℕ → Option (List ℕ)
type_of_constructor [] w = none
type_of_constructor (Constructors t c cs ∷ more) w =
    cond (is_among w (letters c ∷ all_letters cs)) (some (letters t)) (type_of_constructor more w)
type_of_constructor (PairOf t a b ∷ more) w = type_of_constructor more w

-- the first declared pair type of two types
abbrev pub first_pair_type : List Declaration → List ℕ → List ℕ → Option (List ℕ)
first_pair_type [] v w = none
first_pair_type (Constructors t c cs ∷ more) v w = first_pair_type more v w
first_pair_type (PairOf t a b ∷ more) v w =
    cond (cond (same_name v (letters a)) (same_name w (letters b)) false) (some (letters t)) (first_pair_type more v w)

abbrev pub pair_type_of : List Declaration → Option (List ℕ) → Option (List ℕ) → Option (List ℕ)
pair_type_of ds none x = none
pair_type_of ds (some v) none = none
pair_type_of ds (some v) (some w) = first_pair_type ds v w

abbrev pub constant_type : List Declaration → SourceConstant → Option (List ℕ)
constant_type ds (OfConstructor n) = type_of_constructor ds (letters n)
constant_type ds (Undefined t) = some (letters t)
constant_type ds (ConstantPair p c d) = pair_type_of ds (constant_type ds c) (constant_type ds d)

abbrev pub is_typed : Option (List ℕ) → Bool
is_typed none = false
is_typed (some t) = true

-- the first byte of a constant that is a pair; another constant has a type where its name is good
abbrev pub constant_place : SourceConstant → ℕ
constant_place (OfConstructor (identifier w p)) = p
constant_place (Undefined (identifier w p)) = p
constant_place (ConstantPair p c d) = p

-- one check for each DELAY, in text order
abbrev pub constant_checks : List Declaration → Expression → List PlacedCheck
constant_checks ds (NameUse n) = []
constant_checks ds (UndefinedOf t) = []
constant_checks ds (PairExpression e f) = constant_checks ds e ++ constant_checks ds f
constant_checks ds (FirstOf e) = constant_checks ds e
constant_checks ds (SecondOf e) = constant_checks ds e
constant_checks ds (LetExpression n e f) = constant_checks ds e ++ constant_checks ds f
constant_checks ds (LetRecExpression t n e f) = constant_checks ds e ++ constant_checks ds f
constant_checks ds (IfExpression e m f g) = constant_checks ds e ++ constant_checks ds f ++ constant_checks ds g
constant_checks ds (DelayExpression c e) = check_at (constant_place c) (is_typed (constant_type ds c)) ∷ constant_checks ds e

abbrev pub constants_of_text : Text → List PlacedCheck
constants_of_text (text d ds n e) = constant_checks (d ∷ ds) e
