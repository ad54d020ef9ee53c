-- In a written sheet decoding succeeds, with the expression of the circuit: each part of a grown tree is there, by the cases of
-- the tree.
-- Assumes nothing.
use mathlib.Core.Bool.{true, ◌&&◌}
use mathlib.Core.List.{List}
use mathlib.Core.Option.{some}
use mathlib.Core.Path.{◌≡◌, refl}
use Prim.Native.Nat.{ℕ, ◌<◌}
use Rattle.records.specs.Words.{count}
use Rattle.records.specs.Kinds.{expressions, patterns}
use Rattle.records.specs.Says.{sort_at}
use Rattle.records.specs.Trees.{
  Alternatives,
  end,
  no_pattern,
  whole_type,
  one_constructor,
  pair_of_patterns,
  Tree,
  no_expression,
  constant_of,
  name_of,
  tuple_of,
  first_of,
  second_of,
  let_of,
  feedback_of,
  if_of,
  delay_of,
  alternatives,
  tree_at,
  circuit,
}
use Rattle.records.specs.Decoding.{expression_of, all_patterns, is_all_there, decode}
use Rattle.records.specs.Written.{Written}
use Rattle.records.proofs.Tests.{both}
use Rattle.records.proofs.Grown.{Alternative, Grown, grown-pattern, grown-tree, grown-circuit}

all-patterns : (s : List ℕ) (E : Type 0) (m : Alternatives) → Alternative s E m → all_patterns m ≡ true
all-patterns s E end g = refl
all-patterns s E no_pattern g = absurd g
all-patterns s E (whole_type r t m) g = all-patterns s (Unit {0}) m g.1
all-patterns s E (one_constructor r t k m) g = all-patterns s (Unit {0}) m g.1
all-patterns s E (pair_of_patterns r a b m) g =
    both (all_patterns a) (all_patterns b && all_patterns m) (all-patterns s ⊥ a g.0)
    (both (all_patterns b) (all_patterns m) (all-patterns s ⊥ b g.1) (all-patterns s (Unit {0}) m g.2))

all_there : (s : List ℕ) (e : Tree) → Grown s e → is_all_there e ≡ true
all_there s no_expression g = absurd g
all_there s (constant_of r t ls) g = refl
all_there s (name_of r k) g = refl
all_there s (tuple_of r a b) g = both (is_all_there a) (is_all_there b) (all_there s a g.0) (all_there s b g.1)
all_there s (first_of r a) g = all_there s a g
all_there s (second_of r a) g = all_there s a g
all_there s (let_of r a b) g = both (is_all_there a) (is_all_there b) (all_there s a g.0) (all_there s b g.1)
all_there s (feedback_of r t a b) g = both (is_all_there a) (is_all_there b) (all_there s a g.1) (all_there s b g.2)
all_there s (if_of r a p b c) g =
    both (is_all_there a) (all_patterns p && (is_all_there b && is_all_there c)) (all_there s a g.0)
    (both (all_patterns p) (is_all_there b && is_all_there c) (all-patterns s ⊥ p g.1)
    (both (is_all_there b) (is_all_there c) (all_there s b g.2) (all_there s c g.3)))
all_there s (delay_of r t ls a) g = all_there s a g.1

pub patterns-there : {s : List ℕ} → Written s → (r : ℕ) → r < count s → sort_at s r ≡ patterns
    → all_patterns (alternatives s r) ≡ true
patterns-there {s} w r h e = all-patterns s ⊥ (alternatives s r) (grown-pattern w r h e)

pub expressions-there : {s : List ℕ} → Written s → (r : ℕ) → r < count s → sort_at s r ≡ expressions → is_all_there (tree_at s r) ≡ true
expressions-there {s} w r h e = all_there s (tree_at s r) (grown-tree w r h e)

pub circuit-there : {s : List ℕ} → Written s → is_all_there (circuit s) ≡ true
circuit-there {s} w = all_there s (circuit s) (grown-circuit w)

pub decodes : {s : List ℕ} → Written s → decode s ≡ some (expression_of s (circuit s))
unfolding decode
decodes {s} w = rw (circuit-there w)
