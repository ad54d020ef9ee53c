-- How many records the sheet of a text needs, without limit: the header, one for each declaration, and those of the expression
-- (docs/SHEETS.md, "The sheet of a text": "`?t` gets as many leaves as `t` has, but never more than 64").
use Rattle.std.specs.Prelude.{ℕ, ◌+◌, min, cond, List, [], ◌∷◌, length}
use Rattle.grammar.specs.Source.{Declaration, Constructors, PairOf, SourceConstant, OfConstructor, Undefined, ConstantPair}
use Rattle.grammar.specs.Source.{SourcePattern, Alone, PatternPair, Either, Text, text}
use Rattle.grammar.specs.Source.{Expression, NameUse, UndefinedOf, PairExpression, FirstOf, SecondOf, LetExpression, LetRecExpression, IfExpression, DelayExpression}
use Rattle.name_rules.specs.Declared.{DeclaredName, same_name, is_among, at_first, is_declared, constructor_role}
use Rattle.name_rules.specs.Constants.{letters}
use Rattle.name_rules.specs.Names.{after_all, bind}

-- the leaves of the types declared so far, 64 at most
pub data LeafCount : Type 0 where
  leaf_count : (type : List ℕ) (count : ℕ) → LeafCount

abbrev pub leaf_count_of : List LeafCount → List ℕ → ℕ
leaf_count_of [] w = 0
leaf_count_of (leaf_count t n ∷ more) w = cond (same_name w t) n (leaf_count_of more w)

abbrev pub leaf_counts : List LeafCount → List Declaration → List LeafCount
leaf_counts L [] = L
leaf_counts L (Constructors t c cs ∷ ds) = leaf_counts (leaf_count (letters t) 1 ∷ L) ds
leaf_counts L (PairOf t a b ∷ ds) = leaf_counts (leaf_count (letters t) (min 64 (leaf_count_of L (letters a) + leaf_count_of L (letters b))) ∷ L) ds

-- alternatives are chained by their next words: a bar takes no record
abbrev pub pattern_records : SourcePattern → ℕ
pattern_records (Alone n) = 1
pattern_records (PatternPair m n) = 1 + pattern_records m + pattern_records n
pattern_records (Either m n) = pattern_records m + pattern_records n

-- the leaves of a DELAY's constant; an undefined part has the leaves of its own type
abbrev pub constant_leaves : List LeafCount → SourceConstant → ℕ
constant_leaves L (OfConstructor n) = 1
constant_leaves L (Undefined t) = leaf_count_of L (letters t)
constant_leaves L (ConstantPair p c d) = constant_leaves L c + constant_leaves L d

-- a name that no LET binds and that is a constructor is a constant of one leaf; any other is a name's record
abbrev pub name_records : List DeclaredName → List (List ℕ) → List ℕ → ℕ
name_records D bound w = cond (is_among w bound) 1 (cond (is_declared constructor_role w D) 2 1)

abbrev pub records_of_expression : List LeafCount → List DeclaredName → List (List ℕ) → Expression → ℕ
records_of_expression L D bound (NameUse n) = name_records D bound (letters n)
records_of_expression L D bound (UndefinedOf t) = 1 + leaf_count_of L (letters t)
records_of_expression L D bound (PairExpression e f) = 1 + records_of_expression L D bound e + records_of_expression L D bound f
records_of_expression L D bound (FirstOf e) = 1 + records_of_expression L D bound e
records_of_expression L D bound (SecondOf e) = 1 + records_of_expression L D bound e
records_of_expression L D bound (LetExpression n e f) = 1 + records_of_expression L D bound e + records_of_expression L D (bind n bound) f
records_of_expression L D bound (LetRecExpression t n e f) = 1 + records_of_expression L D (bind n bound) e + records_of_expression L D (bind n bound) f
records_of_expression L D bound (IfExpression e m f g) =
    1 + records_of_expression L D bound e + pattern_records m + records_of_expression L D bound f + records_of_expression L D bound g
records_of_expression L D bound (DelayExpression c e) = 1 + constant_leaves L c + records_of_expression L D bound e

abbrev pub records_needed : Text → ℕ
records_needed (text d ds t e) =
    1 + length (d ∷ ds) + records_of_expression (leaf_counts [] (d ∷ ds)) (after_all at_first (d ∷ ds)) [] e
