-- Decoding: the expression of picoELLA that the records say. It infers no type: it reads types off type records, leaves off
-- chains, and keeps first and second part bare. It succeeds exactly where each part of the tree is there.
use Rattle.std.specs.Prelude.{ℕ, Bool, true, false, ◌&&◌, List, map}
use Rattle.std.proofs.Math.Option.{Option, none, some}
use Rattle.picoella.specs.Language.{Flat, Pattern, Whole, Constructor, Parts, Bar, Expr, Const, Var, Tuple, Index1, Index2, Let, LetRec, If, Delay}
use Rattle.records.specs.Words.{word_a}
use Rattle.records.specs.Trees.{type_at, Alternatives, end, no_pattern, whole_type, one_constructor, pair_of_patterns, Tree, no_expression, constant_of, name_of, tuple_of, first_of, second_of, let_of, feedback_of, if_of, delay_of, circuit}

-- the number in each leaf record
abbrev pub leaf_values : List ℕ → List ℕ → List ℕ
leaf_values s rs = map (word_a s) rs

-- one pattern, or another where alternatives follow
abbrev pub or_else : Pattern → Alternatives → Pattern → Pattern
or_else p end q = p
or_else p no_pattern q = p
or_else p (whole_type r t m) q = Bar p q
or_else p (one_constructor r t k m) q = Bar p q
or_else p (pair_of_patterns r a b m) q = Bar p q

abbrev pub pattern_of : List ℕ → Alternatives → Pattern
pattern_of s end = Whole (Flat 0 0)
pattern_of s no_pattern = Whole (Flat 0 0)
pattern_of s (whole_type r t m) = or_else (Whole (type_at s t)) m (pattern_of s m)
pattern_of s (one_constructor r t k m) = or_else (Constructor t (word_a s t) k) m (pattern_of s m)
pattern_of s (pair_of_patterns r a b m) = or_else (Parts (pattern_of s a) (pattern_of s b)) m (pattern_of s m)

abbrev pub expression_of : List ℕ → Tree → Expr
expression_of s no_expression = Var 0
expression_of s (constant_of r t ls) = Const (type_at s t) (leaf_values s ls)
expression_of s (name_of r k) = Var k
expression_of s (tuple_of r a b) = Tuple (expression_of s a) (expression_of s b)
expression_of s (first_of r a) = Index1 (expression_of s a)
expression_of s (second_of r a) = Index2 (expression_of s a)
expression_of s (let_of r a b) = Let (expression_of s a) (expression_of s b)
expression_of s (feedback_of r t a b) = LetRec (type_at s t) (expression_of s a) (expression_of s b)
expression_of s (if_of r a p b c) = If (expression_of s a) (pattern_of s p) (expression_of s b) (expression_of s c)
expression_of s (delay_of r t ls a) = Delay ls (type_at s t) (leaf_values s ls) (expression_of s a)

-- each part is there
abbrev pub all_patterns : Alternatives → Bool
all_patterns end = true
all_patterns no_pattern = false
all_patterns (whole_type r t m) = all_patterns m
all_patterns (one_constructor r t k m) = all_patterns m
all_patterns (pair_of_patterns r a b m) = all_patterns a && (all_patterns b && all_patterns m)

abbrev pub is_all_there : Tree → Bool
is_all_there no_expression = false
is_all_there (constant_of r t ls) = true
is_all_there (name_of r k) = true
is_all_there (tuple_of r a b) = is_all_there a && is_all_there b
is_all_there (first_of r a) = is_all_there a
is_all_there (second_of r a) = is_all_there a
is_all_there (let_of r a b) = is_all_there a && is_all_there b
is_all_there (feedback_of r t a b) = is_all_there a && is_all_there b
is_all_there (if_of r a p b c) = is_all_there a && (all_patterns p && (is_all_there b && is_all_there c))
is_all_there (delay_of r t ls a) = is_all_there a

abbrev pub when_there : Bool → Expr → Option Expr
when_there true e = some e
when_there false e = none

unfoldable pub decode : List ℕ → Option Expr
decode s = when_there (is_all_there (circuit s)) (expression_of s (circuit s))
