-- The instructions of a text in text order, as its tokens give them.
use Rattle.std.specs.Prelude.{ℕ, suc, cond, List, [], ◌∷◌, ◌++◌}
use Rattle.grammar.specs.Source.{Identifier, Declaration, Constructors, PairOf, SourceConstant, OfConstructor, Undefined, ConstantPair}
use Rattle.grammar.specs.Source.{SourcePattern, Alone, PatternPair, Either, Text, text}
use Rattle.grammar.specs.Source.{Expression, NameUse, UndefinedOf, PairExpression, FirstOf, SecondOf, LetExpression, LetRecExpression, IfExpression, DelayExpression}
use Rattle.name_rules.specs.Declared.{is_among, is_declared, type_role, constructor_role, at_first}
use Rattle.name_rules.specs.Constants.{letters}
use Rattle.name_rules.specs.Names.{after_all, bind}
use Rattle.layout.specs.Resolved.{TypeEntry, after_entry, type_number, type_entries, Meant, constructor_meant, constructor_entries, distance}
use Rattle.instructions.specs.Instruction.{
  Instruction,
  declare_type,
  count_constructor,
  first_type,
  second_type,
  input_has,
  use_name,
  use_constant,
  use_undefined,
  open_pair,
  open_let,
  open_if,
  open_delay,
  take_first,
  take_second,
  close,
  close_if,
  open_rec,
  begin_pattern,
  open_parts,
  next_part,
  close_parts,
  next_alternative,
  match_type,
  match_one,
  use_leaf,
  use_zeros,
  open_constant,
  close_constant,
  end_constant,
}

abbrev pub count_each : List Identifier → List Instruction → List Instruction
count_each [] rest = rest
count_each (c ∷ cs) rest = count_constructor ∷ count_each cs rest

-- declarations of which the first is number i; the names of the types before it are T
abbrev pub declaration_instructions : ℕ → List TypeEntry → List Declaration → List Instruction
declaration_instructions i T [] = []
declaration_instructions i T (Constructors t c cs ∷ ds) =
    declare_type ∷ count_each (c ∷ cs) (declaration_instructions (suc i) (after_entry i T (Constructors t c cs)) ds)
declaration_instructions i T (PairOf t a b ∷ ds) =
    declare_type ∷ first_type (type_number T (letters a)) ∷ second_type (type_number T (letters b))
    ∷ declaration_instructions (suc i) (after_entry i T (PairOf t a b)) ds

module _ (ds : List Declaration) where
  abbrev pub number_of_type : List ℕ → ℕ
  number_of_type w = type_number (type_entries ds) w

  abbrev pub constructor_in : List ℕ → Meant
  constructor_in w = constructor_meant (constructor_entries ds) w

  abbrev pub constant_instructions : SourceConstant → List Instruction
  constant_instructions (OfConstructor n) = use_leaf (constructor_in (letters n)).type (constructor_in (letters n)).number ∷ []
  constant_instructions (Undefined t) = use_zeros (number_of_type (letters t)) ∷ []
  constant_instructions (ConstantPair p c d) = open_constant p ∷ constant_instructions c ++ (constant_instructions d ++ close_constant ∷ [])

  -- a name in a pattern: a whole type, or a constructor
  abbrev pub alternative_of : List ℕ → Instruction
  alternative_of w =
      cond (is_declared type_role w (after_all at_first ds)) (match_type (number_of_type w)) (match_one (constructor_in w).type (constructor_in w).number)

  abbrev pub pattern_instructions : SourcePattern → List Instruction
  pattern_instructions (Alone n) = alternative_of (letters n) ∷ []
  pattern_instructions (PatternPair m n) = open_parts ∷ pattern_instructions m ++ next_part ∷ (pattern_instructions n ++ close_parts ∷ [])
  pattern_instructions (Either m n) = pattern_instructions m ++ next_alternative ∷ pattern_instructions n

  -- a name in an expression: bound by a LET, a constructor, or `input`
  abbrev pub value_instruction : List (List ℕ) → List ℕ → Instruction
  value_instruction bound w =
      cond (is_among w bound)
      (use_name (distance w bound))
      (cond (is_declared constructor_role w (after_all at_first ds))
      (use_constant (constructor_in w).type (constructor_in w).number)
      (use_name (distance w bound)))

  abbrev pub expression_instructions : List (List ℕ) → Expression → List Instruction
  expression_instructions bound (NameUse n) = value_instruction bound (letters n) ∷ []
  expression_instructions bound (UndefinedOf t) = use_undefined (number_of_type (letters t)) ∷ []
  expression_instructions bound (PairExpression e f) =
      open_pair ∷ expression_instructions bound e ++ (expression_instructions bound f ++ close ∷ [])
  expression_instructions bound (FirstOf e) = expression_instructions bound e ++ take_first ∷ []
  expression_instructions bound (SecondOf e) = expression_instructions bound e ++ take_second ∷ []
  expression_instructions bound (LetExpression n e f) =
      open_let ∷ expression_instructions bound e ++ (expression_instructions (bind n bound) f ++ close ∷ [])
  expression_instructions bound (LetRecExpression t n e f) =
      open_rec (number_of_type (letters t))
      ∷ expression_instructions (bind n bound) e ++ (expression_instructions (bind n bound) f ++ close ∷ [])
  expression_instructions bound (IfExpression e m f g) =
      open_if
      ∷ expression_instructions bound e
      ++ begin_pattern ∷ (pattern_instructions m ++ (expression_instructions bound f ++ (expression_instructions bound g ++ close_if ∷ [])))
  expression_instructions bound (DelayExpression c e) =
      open_delay ∷ constant_instructions c ++ end_constant ∷ (expression_instructions bound e ++ close ∷ [])

abbrev pub text_instructions : Text → List Instruction
text_instructions (text d ds n e) =
    declaration_instructions 1 [] (d ∷ ds) ++ input_has (type_number (type_entries (d ∷ ds)) (letters n)) ∷ expression_instructions (d ∷ ds) [] e
