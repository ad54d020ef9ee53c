-- Types, and the circuit as a tree of records, with the type record of an expression and the records that a tree holds.
use Rattle.std.specs.Prelude.{ℕ, zero, suc, ◌<◌, ◌≡◌, Bool, true, false, cond, ◌&&◌, List, [], ◌∷◌, ◌++◌, get_or, eqb}
use Rattle.picoella.specs.Language.{Ty, Flat, TyTuple}
use Rattle.records.specs.Words.{count, word_a, word_b, next_word, word_c, word_d}
use Rattle.records.specs.Kinds.{
  Kind,
  header,
  type_of,
  expression,
  pattern,
  leaf,
  unknown,
  flat,
  pair,
  types,
  is_pair,
  constant,
  name,
  tuple,
  first,
  second,
  let_in,
  feedback,
  if_matches,
  delay,
  whole,
  constructor,
  parts,
}
use Rattle.records.specs.Says.{kind_at, sort_at}

-- The type that a type record stands for, and the pair records. A type's parts are lower records, so the type of record r is
-- found within r + 1 steps down; a record that is no type stands for a flat type without constructors.

abbrev pub type_step : (ℕ → Ty) → Kind → (r a b : ℕ) → Ty
type_step go header r a b = Flat r 0
type_step go (type_of flat) r a b = Flat r a
type_step go (type_of pair) r a b = TyTuple (go a) (go b)
type_step go (expression k) r a b = Flat r 0
type_step go (pattern k) r a b = Flat r 0
type_step go leaf r a b = Flat r 0
type_step go unknown r a b = Flat r 0

unfoldable pub type_within : List ℕ → ℕ → ℕ → Ty
type_within s zero r = Flat r 0
type_within s (suc fuel) r = type_step (type_within s fuel) (kind_at s r) r (word_a s r) (word_b s r)

unfoldable pub type_at : List ℕ → ℕ → Ty
type_at s r = type_within s (suc r) r

-- record r is the pair type of the type records a and b
abbrev pub is_pair_of : List ℕ → ℕ → ℕ → ℕ → Bool
is_pair_of s a b r = is_pair (kind_at s r) && (eqb (word_a s r) a && eqb (word_b s r) b)

-- the lowest such record below n, 0 where there is none
abbrev pub pair_below : List ℕ → ℕ → ℕ → ℕ → ℕ
pair_below s a b zero = 0
pair_below s a b (suc n) = pick (pair_below s a b n)
  where
    pick : ℕ → ℕ
    pick zero = cond (is_pair_of s a b n) n 0
    pick (suc r) = suc r

unfoldable pub pair_of : List ℕ → ℕ → ℕ → ℕ
pair_of s a b = pair_below s a b (count s)

-- t is a type record of the sheet
pub record TypeRecord (s : List ℕ) (t : ℕ) : Type 0 where
  pub past : 0 < t
  pub there : t < count s
  pub sort : sort_at s t ≡ types

-- the types that the sheet declares: those of its type records
abbrev pub Declared : List ℕ → Ty → Type 0
Declared s τ = (t : ℕ) × TypeRecord s t × (type_at s t ≡ τ)

-- The circuit as a tree of records: each expression with its record's number, its types as type records, the chains of leaves
-- and of alternatives as lists. A leaf's byte is not in the tree, so a sheet whose leaves alone changed has the same tree.
-- Named records have higher numbers, so a tree is found within as many steps as there are records; where a record is not of
-- the sort that is looked for, or the steps run out, the tree has `no_expression` or `no_pattern` there, which no sheet has that passes codes 1 to 6.

-- a chain of alternatives: each pattern record with its parts and the alternatives after it
pub data Alternatives : Type 0 where
  end : Alternatives
  no_pattern : Alternatives
  whole_type : (r type : ℕ) → Alternatives → Alternatives
  one_constructor : (r type constructor : ℕ) → Alternatives → Alternatives
  pair_of_patterns : (r : ℕ) → Alternatives → Alternatives → Alternatives → Alternatives

pub data Tree : Type 0 where
  no_expression : Tree
  constant_of : (r type : ℕ) (leaves : List ℕ) → Tree
  name_of : (r distance : ℕ) → Tree
  tuple_of : (r : ℕ) → Tree → Tree → Tree
  first_of : (r : ℕ) → Tree → Tree
  second_of : (r : ℕ) → Tree → Tree
  let_of : (r : ℕ) → Tree → Tree → Tree
  feedback_of : (r type : ℕ) → Tree → Tree → Tree
  if_of : (r : ℕ) → Tree → Alternatives → Tree → Tree → Tree
  delay_of : (r type : ℕ) (leaves : List ℕ) → Tree → Tree

-- what a next leads to: nothing at 0
abbrev pub follow {ℓ} : {A : Type ℓ} → A → (ℕ → A) → ℕ → A
follow a go zero = a
follow a go (suc r) = go (suc r)

-- the records of a chain, from its first
unfoldable pub chain_within : List ℕ → ℕ → ℕ → List ℕ
chain_within s zero r = []
chain_within s (suc fuel) r = r ∷ follow [] (chain_within s fuel) (next_word s r)

unfoldable pub chain : List ℕ → ℕ → List ℕ
chain s r = chain_within s (count s) r

abbrev pub alternative_step : (ℕ → Alternatives) → Kind → (r next_word a b : ℕ) → Alternatives
alternative_step go header r n a b = no_pattern
alternative_step go (type_of k) r n a b = no_pattern
alternative_step go (expression k) r n a b = no_pattern
alternative_step go (pattern whole) r n a b = whole_type r a (follow end go n)
alternative_step go (pattern constructor) r n a b = one_constructor r a b (follow end go n)
alternative_step go (pattern parts) r n a b = pair_of_patterns r (go a) (go b) (follow end go n)
alternative_step go leaf r n a b = no_pattern
alternative_step go unknown r n a b = no_pattern

unfoldable pub alternatives_within : List ℕ → ℕ → ℕ → Alternatives
alternatives_within s zero r = no_pattern
alternatives_within s (suc fuel) r =
    alternative_step (alternatives_within s fuel) (kind_at s r) r (next_word s r) (word_a s r) (word_b s r)

unfoldable pub alternatives : List ℕ → ℕ → Alternatives
alternatives s r = alternatives_within s (count s) r

abbrev pub tree_step : List ℕ → (ℕ → Tree) → Kind → (r a b c d : ℕ) → Tree
tree_step s go header r a b c d = no_expression
tree_step s go (type_of k) r a b c d = no_expression
tree_step s go (expression constant) r a b c d = constant_of r a (chain s b)
tree_step s go (expression name) r a b c d = name_of r a
tree_step s go (expression tuple) r a b c d = tuple_of r (go a) (go b)
tree_step s go (expression first) r a b c d = first_of r (go a)
tree_step s go (expression second) r a b c d = second_of r (go a)
tree_step s go (expression let_in) r a b c d = let_of r (go a) (go b)
tree_step s go (expression feedback) r a b c d = feedback_of r a (go b) (go c)
tree_step s go (expression if_matches) r a b c d = if_of r (go a) (alternatives s d) (go b) (go c)
tree_step s go (expression delay) r a b c d = delay_of r a (chain s b) (go c)
tree_step s go (pattern k) r a b c d = no_expression
tree_step s go leaf r a b c d = no_expression
tree_step s go unknown r a b c d = no_expression

unfoldable pub tree_within : List ℕ → ℕ → ℕ → Tree
tree_within s zero r = no_expression
tree_within s (suc fuel) r =
    tree_step s (tree_within s fuel) (kind_at s r) r (word_a s r) (word_b s r) (word_c s r) (word_d s r)

-- the tree of the expression at record r
unfoldable pub tree_at : List ℕ → ℕ → Tree
tree_at s r = tree_within s (count s) r

-- the circuit: the tree of the root expression
unfoldable pub circuit : List ℕ → Tree
circuit s = tree_at s (word_b s 0)

-- the type record of an expression, where the names in scope have these types, the innermost first
abbrev pub type_record_of : List ℕ → List ℕ → Tree → ℕ
type_record_of s Γ no_expression = 0
type_record_of s Γ (constant_of r t ls) = t
type_record_of s Γ (name_of r k) = get_or Γ k 0
type_record_of s Γ (tuple_of r a b) = pair_of s (type_record_of s Γ a) (type_record_of s Γ b)
type_record_of s Γ (first_of r a) = word_a s (type_record_of s Γ a)
type_record_of s Γ (second_of r a) = word_b s (type_record_of s Γ a)
type_record_of s Γ (let_of r a b) = type_record_of s (type_record_of s Γ a ∷ Γ) b
type_record_of s Γ (feedback_of r t a b) = type_record_of s (t ∷ Γ) b
type_record_of s Γ (if_of r a p b c) = type_record_of s Γ b
type_record_of s Γ (delay_of r t ls a) = t

-- The records that a tree holds: its expressions' own, and the leaves of its constants and of its delays, in the order of the
-- tree. Which of the three kinds are listed is a parameter, so that what is said of one list is said of each.

abbrev pub listed : Bool → List ℕ → List ℕ
listed true rs = rs
listed false rs = []

-- with the expressions' records, the constants' leaves, the delays' leaves
abbrev pub held : (own constants delays : Bool) → Tree → List ℕ
held x c d no_expression = []
held x c d (constant_of r t ls) = listed x (r ∷ []) ++ listed c ls
held x c d (name_of r k) = listed x (r ∷ [])
held x c d (tuple_of r a b) = listed x (r ∷ []) ++ (held x c d a ++ held x c d b)
held x c d (first_of r a) = listed x (r ∷ []) ++ held x c d a
held x c d (second_of r a) = listed x (r ∷ []) ++ held x c d a
held x c d (let_of r a b) = listed x (r ∷ []) ++ (held x c d a ++ held x c d b)
held x c d (feedback_of r t a b) = listed x (r ∷ []) ++ (held x c d a ++ held x c d b)
held x c d (if_of r a p b e) = listed x (r ∷ []) ++ (held x c d a ++ (held x c d b ++ held x c d e))
held x c d (delay_of r t ls a) = listed x (r ∷ []) ++ (listed d ls ++ held x c d a)

abbrev pub delay_leaves : Tree → List ℕ
delay_leaves e = held false false true e
