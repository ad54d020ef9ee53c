-- The circuit of a text: its expression as it is written, with each constant as a value. So a DELAY has the value that it holds, which
-- changes from cycle to cycle, and `?t` is undefined in each part of the type t.
use Rattle.std.specs.Prelude.{ℕ, cond, List, [], ◌∷◌}
use Rattle.grammar.specs.Source.{Declaration, Constructors, PairOf, SourceConstant, OfConstructor, Undefined, ConstantPair, SourcePattern}
use Rattle.grammar.specs.Source.{
  Expression,
  NameUse,
  UndefinedOf,
  PairExpression,
  FirstOf,
  SecondOf,
  LetExpression,
  LetRecExpression,
  IfExpression,
  DelayExpression,
  Text,
  text,
}
use Rattle.name_rules.specs.Declared.{same_name}
use Rattle.name_rules.specs.Constants.{letters}
use Rattle.text_meaning.specs.NamedValues.{NamedValue, Unknown, Made, Couple}

pub data NamedCircuit : Type 0 where
  Uses : (letters : List ℕ) → NamedCircuit
  Always : NamedValue → NamedCircuit
  Pairs : NamedCircuit → NamedCircuit → NamedCircuit
  FirstPart : NamedCircuit → NamedCircuit
  SecondPart : NamedCircuit → NamedCircuit
  Binds : (letters : List ℕ) → NamedCircuit → NamedCircuit → NamedCircuit
  FeedsBack : (initial : NamedValue) (letters : List ℕ) → NamedCircuit → NamedCircuit → NamedCircuit
  Chooses : NamedCircuit → SourcePattern → NamedCircuit → NamedCircuit → NamedCircuit
  Delays : (held : NamedValue) → NamedCircuit → NamedCircuit

-- the undefined values of the types declared so far
pub data UnknownOf : Type 0 where
  unknown_of : (type : List ℕ) → NamedValue → UnknownOf

abbrev pub unknown_in : List UnknownOf → List ℕ → NamedValue
unknown_in [] w = Unknown
unknown_in (unknown_of t v ∷ more) w = cond (same_name w t) v (unknown_in more w)

abbrev pub unknowns_from : List UnknownOf → List Declaration → List UnknownOf
unknowns_from U [] = U
unknowns_from U (Constructors t c cs ∷ ds) = unknowns_from (unknown_of (letters t) Unknown ∷ U) ds
unknowns_from U (PairOf t a b ∷ ds) =
    unknowns_from (unknown_of (letters t) (Couple (unknown_in U (letters a)) (unknown_in U (letters b))) ∷ U) ds

module _ (ds : List Declaration) where
  abbrev pub unknown_named : List ℕ → NamedValue
  unknown_named w = unknown_in (unknowns_from [] ds) w

  abbrev pub constant_value : SourceConstant → NamedValue
  constant_value (OfConstructor n) = Made (letters n)
  constant_value (Undefined t) = unknown_named (letters t)
  constant_value (ConstantPair p c d) = Couple (constant_value c) (constant_value d)

  abbrev pub circuit_of : Expression → NamedCircuit
  circuit_of (NameUse n) = Uses (letters n)
  circuit_of (UndefinedOf t) = Always (unknown_named (letters t))
  circuit_of (PairExpression e f) = Pairs (circuit_of e) (circuit_of f)
  circuit_of (FirstOf e) = FirstPart (circuit_of e)
  circuit_of (SecondOf e) = SecondPart (circuit_of e)
  circuit_of (LetExpression n e f) = Binds (letters n) (circuit_of e) (circuit_of f)
  circuit_of (LetRecExpression t n e f) = FeedsBack (unknown_named (letters t)) (letters n) (circuit_of e) (circuit_of f)
  circuit_of (IfExpression e m f g) = Chooses (circuit_of e) m (circuit_of f) (circuit_of g)
  circuit_of (DelayExpression c e) = Delays (constant_value c) (circuit_of e)
