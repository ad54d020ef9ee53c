-- The expression of a text in the language of the check, with names as distances (docs/SHEETS.md, "Names" and "The sheet of a text"). A
-- pair is a pair of two expressions; in the constant of a DELAY it "is one constant, and its type is the first declared pair type of
-- its parts' types". "`?t` gets as many leaves as `t` has, but never more than 64." A delay is annotated by nothing.
use Rattle.std.specs.Prelude.{ℕ, min, Bool, true, false, cond, List, [], ◌∷◌, ◌++◌, replicate}
use Rattle.std.proofs.Math.Option.{Option, none, some}
use Rattle.picoella.specs.Language.{Ty, Flat, leaves, Expr}
use Rattle.picoella.specs.Language as Language
use Rattle.grammar.specs.Source.{Declaration, SourceConstant, OfConstructor, Undefined, ConstantPair}
use Rattle.grammar.specs.Source.{SourcePattern, Alone, PatternPair, Either, Text, text}
use Rattle.grammar.specs.Source.{Expression, NameUse, UndefinedOf, PairExpression, FirstOf, SecondOf, LetExpression, LetRecExpression, IfExpression, DelayExpression}
use Rattle.name_rules.specs.Declared.{is_among, is_declared, type_role, constructor_role, at_first}
use Rattle.name_rules.specs.Constants.{letters, constant_type}
use Rattle.name_rules.specs.Names.{after_all, bind}
use Rattle.layout.specs.Resolved.{
  TypeEntry,
  type_meant,
  type_entries,
  ConstructorEntry,
  Meant,
  constructor_meant,
  constructor_entries,
  distance,
}

abbrev pub undefined_leaves_of : Ty → List ℕ
undefined_leaves_of τ = replicate (min 64 (leaves τ)) 0

-- the type of a DELAY's constant, by its name; a text whose names and constants are good has one
abbrev pub type_or : List TypeEntry → Option (List ℕ) → Ty
type_or T none = Flat 0 0
type_or T (some w) = type_meant T w

abbrev pub as_constant : Meant → Expr
as_constant m = Language.Const (Flat m.type m.constructors) (m.number ∷ [])

abbrev pub as_pattern : Meant → Language.Pattern
as_pattern m = Language.Constructor m.type m.constructors m.number

module _ (ds : List Declaration) where
  abbrev pub constant_values : SourceConstant → List ℕ
  constant_values (OfConstructor n) = (constructor_meant (constructor_entries ds) (letters n)).number ∷ []
  constant_values (Undefined t) = undefined_leaves_of (type_meant (type_entries ds) (letters t))
  constant_values (ConstantPair p c d) = constant_values c ++ constant_values d

  -- a name in a pattern: a whole type, or a constructor
  abbrev pub pattern_meant : SourcePattern → Language.Pattern
  pattern_meant (Alone n) =
      cond (is_declared type_role (letters n) (after_all at_first ds))
      (Language.Whole (type_meant (type_entries ds) (letters n)))
      (as_pattern (constructor_meant (constructor_entries ds) (letters n)))
  pattern_meant (PatternPair m n) = Language.Parts (pattern_meant m) (pattern_meant n)
  pattern_meant (Either m n) = Language.Bar (pattern_meant m) (pattern_meant n)

  -- a name that a LET around it takes, else a constructor, else `input`
  abbrev pub name_meant : List (List ℕ) → List ℕ → Expr
  name_meant bound w =
      cond (is_among w bound)
      (Language.Var (distance w bound))
      (cond (is_declared constructor_role w (after_all at_first ds))
      (as_constant (constructor_meant (constructor_entries ds) w))
      (Language.Var (distance w bound)))

  abbrev pub by_distances : List (List ℕ) → Expression → Expr
  by_distances bound (NameUse n) = name_meant bound (letters n)
  by_distances bound (UndefinedOf t) =
      Language.Const (type_meant (type_entries ds) (letters t)) (undefined_leaves_of (type_meant (type_entries ds) (letters t)))
  by_distances bound (PairExpression e f) = Language.Tuple (by_distances bound e) (by_distances bound f)
  by_distances bound (FirstOf e) = Language.Index1 (by_distances bound e)
  by_distances bound (SecondOf e) = Language.Index2 (by_distances bound e)
  by_distances bound (LetExpression n e f) = Language.Let (by_distances bound e) (by_distances (bind n bound) f)
  by_distances bound (LetRecExpression t n e f) =
      Language.LetRec (type_meant (type_entries ds) (letters t)) (by_distances (bind n bound) e) (by_distances (bind n bound) f)
  by_distances bound (IfExpression e m f g) =
      Language.If (by_distances bound e) (pattern_meant m) (by_distances bound f) (by_distances bound g)
  by_distances bound (DelayExpression c e) =
      Language.Delay [] (type_or (type_entries ds) (constant_type ds c)) (constant_values c) (by_distances bound e)

abbrev pub expression_meant : Text → Expr
expression_meant (text d ds t e) = by_distances (d ∷ ds) [] e

-- an expression without the annotation of its delays
abbrev pub unplaced : Expr → Expr
unplaced (Language.Const τ v) = Language.Const τ v
unplaced (Language.Var k) = Language.Var k
unplaced (Language.Tuple e f) = Language.Tuple (unplaced e) (unplaced f)
unplaced (Language.Index1 e) = Language.Index1 (unplaced e)
unplaced (Language.Index2 e) = Language.Index2 (unplaced e)
unplaced (Language.Let e f) = Language.Let (unplaced e) (unplaced f)
unplaced (Language.LetRec σ e f) = Language.LetRec σ (unplaced e) (unplaced f)
unplaced (Language.If e p f g) = Language.If (unplaced e) p (unplaced f) (unplaced g)
unplaced (Language.Delay q τ v e) = Language.Delay [] τ v (unplaced e)
