-- The instructions of a text in the order of its records, put onto those before them, the last first; and its declared types by numbers.
use Rattle.std.specs.Prelude.{ℕ, suc, List, [], ◌∷◌, length}
use Rattle.grammar.specs.Source.{Declaration, Constructors, PairOf, SourceConstant, OfConstructor, Undefined, ConstantPair}
use Rattle.grammar.specs.Source.{SourcePattern, Alone, PatternPair, Either, Text, text}
use Rattle.grammar.specs.Source.{Expression, NameUse, UndefinedOf, PairExpression, FirstOf, SecondOf, LetExpression, LetRecExpression, IfExpression, DelayExpression}
use Rattle.name_rules.specs.Constants.{letters, constant_type}
use Rattle.name_rules.specs.Names.{bind}
use Rattle.layout.specs.Resolved.{TypeEntry, after_entry, type_number, type_entries}
use Rattle.layout.specs.Layout.{number_or}
use Rattle.instructions.specs.Instruction.{
  Instruction,
  use_undefined,
  open_pair,
  open_let,
  open_if,
  open_delay,
  take_first,
  take_second,
  close,
  open_rec,
  begin_pattern,
  open_parts,
  next_part,
  close_parts,
  next_alternative,
  use_leaf,
  use_zeros,
  constant_has,
}
use Rattle.instructions.specs.TextOrder.{number_of_type, constructor_in, alternative_of, value_instruction}
use Rattle.instructions.specs.Assembly.{DeclaredType, flat_type, paired_type}

-- the declared types after declarations of which the first is number i, onto those before them
abbrev pub types_onto : ℕ → List TypeEntry → List Declaration → List DeclaredType → List DeclaredType
types_onto i E [] T = T
types_onto i E (Constructors t c cs ∷ ds) T = types_onto (suc i) (after_entry i E (Constructors t c cs)) ds (flat_type (length (c ∷ cs)) ∷ T)
types_onto i E (PairOf t a b ∷ ds) T =
    types_onto (suc i) (after_entry i E (PairOf t a b)) ds (paired_type (type_number E (letters a)) (type_number E (letters b)) ∷ T)

abbrev pub declared_types : List Declaration → List DeclaredType
declared_types ds = types_onto 1 [] ds []

module _ (ds : List Declaration) where
  abbrev pub constant_onto : SourceConstant → List Instruction → List Instruction
  constant_onto (OfConstructor n) C = use_leaf (constructor_in ds (letters n)).type (constructor_in ds (letters n)).number ∷ C
  constant_onto (Undefined t) C = use_zeros (number_of_type ds (letters t)) ∷ C
  constant_onto (ConstantPair p c d) C = constant_onto d (constant_onto c C)

  abbrev pub pattern_in_order : SourcePattern → List Instruction → List Instruction
  pattern_in_order (Alone n) C = alternative_of ds (letters n) ∷ C
  pattern_in_order (PatternPair m n) C = close_parts ∷ pattern_in_order n (next_part ∷ pattern_in_order m (open_parts ∷ C))
  pattern_in_order (Either m n) C = pattern_in_order n (next_alternative ∷ pattern_in_order m C)

  abbrev pub expression_onto : List (List ℕ) → Expression → List Instruction → List Instruction
  expression_onto bound (NameUse n) C = value_instruction ds bound (letters n) ∷ C
  expression_onto bound (UndefinedOf t) C = use_undefined (number_of_type ds (letters t)) ∷ C
  expression_onto bound (PairExpression e f) C = close ∷ expression_onto bound f (expression_onto bound e (open_pair ∷ C))
  expression_onto bound (FirstOf e) C = take_first ∷ expression_onto bound e C
  expression_onto bound (SecondOf e) C = take_second ∷ expression_onto bound e C
  expression_onto bound (LetExpression n e f) C = close ∷ expression_onto (bind n bound) f (expression_onto bound e (open_let ∷ C))
  expression_onto bound (LetRecExpression t n e f) C =
      close ∷ expression_onto (bind n bound) f (expression_onto (bind n bound) e (open_rec (number_of_type ds (letters t)) ∷ C))
  expression_onto bound (IfExpression e m f g) C =
      close ∷ pattern_in_order m (begin_pattern ∷ expression_onto bound g (expression_onto bound f (expression_onto bound e (open_if ∷ C))))
  expression_onto bound (DelayExpression c e) C =
      close ∷ expression_onto bound e (constant_has (number_or (type_entries ds) (constant_type ds c)) ∷ constant_onto c (open_delay ∷ C))

abbrev pub text_code : Text → List Instruction
text_code (text d ds n e) = expression_onto (d ∷ ds) [] e []
