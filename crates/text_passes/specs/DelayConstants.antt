-- The constants of a text's DELAYs, in text order; and a pair among them without a type, whose
-- place is that of its opening bracket (docs/SHEETS.md, "Codes", 14: "the bracket of the first such
-- pair").
use Rattle.std.specs.Prelude.{ℕ, ◌≡◌}
use mathlib.Core.List.{List, [], ◌∷◌, ◌++◌, Memᴰ}
use Rattle.std.proofs.Math.Option.{none}
use Rattle.grammar.specs.Tokens.{Token, symbol, opens}
use Rattle.grammar.specs.Source.{SourceConstant, ConstantPair, Text, text}
use Rattle.grammar.specs.Source.{
  Expression,
  NameUse,
  UndefinedOf,
  PairExpression,
  FirstOf,
  SecondOf,
  LetExpression,
  LetRecExpression,
  IfExpression,
  DelayExpression,
}
use Rattle.name_rules.specs.Constants.{constant_type}
use Rattle.text_meaning.specs.Promises.{declarations}

abbrev pub delay_constants : Expression → List SourceConstant
delay_constants (NameUse n) = []
delay_constants (UndefinedOf t) = []
delay_constants (PairExpression e f) = delay_constants e ++ delay_constants f
delay_constants (FirstOf e) = delay_constants e
delay_constants (SecondOf e) = delay_constants e
delay_constants (LetExpression n e f) = delay_constants e ++ delay_constants f
delay_constants (LetRecExpression t n e f) = delay_constants e ++ delay_constants f
delay_constants (IfExpression e m f g) = delay_constants e ++ delay_constants f ++ delay_constants g
delay_constants (DelayExpression c e) = c ∷ delay_constants e

abbrev pub text_constants : Text → List SourceConstant
text_constants (text d ds n e) = delay_constants e

-- the constant of a DELAY is a pair without a type, and its bracket is the token at place p
pub record UntypedPair (ts : List Token) (t : Text) (p : ℕ) : Type 0 where
  pub first : SourceConstant
  pub second : SourceConstant
  pub there : Memᴰ (ConstantPair p first second) (text_constants t)
  pub untyped : constant_type (declarations t) (ConstantPair p first second) ≡ none
  pub bracket : Memᴰ (symbol opens p) ts
