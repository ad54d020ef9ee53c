-- The circuit of a sheet as an elaborated term: the tree of records with its types read off type records, its leaves off leaf
-- records, and the type of the first part in each first and second part. Γ lists the type records of the names in scope, the
-- innermost first. A delay carries the record numbers of its leaves, so that what comes after a cycle can be written there.
-- Where an expression is missing, which no accepted sheet has, the term is that of the expression decoded there.
use Rattle.std.specs.Prelude.{ℕ, List, ◌∷◌}
use Rattle.records.specs.Words.{word_a}
use Rattle.records.specs.Trees.{
  type_at,
  Tree,
  no_expression,
  constant_of,
  name_of,
  tuple_of,
  first_of,
  second_of,
  let_of,
  feedback_of,
  if_of,
  delay_of,
  circuit,
  type_record_of,
}
use Rattle.records.specs.Decoding.{leaf_values, pattern_of}
use Rattle.verdict.specs.Scopes.{inputs}
use Rattle.meaning.specs.Elaboration.{
  Term,
  Constant,
  Name,
  Pair,
  First,
  Second,
  LetIn,
  Feedback,
  IfThenElse,
  Delayed,
}

abbrev pub term : List ℕ → List ℕ → Tree → Term
term s Γ no_expression = Name 0
term s Γ (constant_of r t ls) = Constant (type_at s t) (leaf_values s ls)
term s Γ (name_of r k) = Name k
term s Γ (tuple_of r a b) = Pair (term s Γ a) (term s Γ b)
term s Γ (first_of r a) = First (type_at s (word_a s (type_record_of s Γ a))) (term s Γ a)
term s Γ (second_of r a) = Second (type_at s (word_a s (type_record_of s Γ a))) (term s Γ a)
term s Γ (let_of r a b) = LetIn (term s Γ a) (term s (type_record_of s Γ a ∷ Γ) b)
term s Γ (feedback_of r t a b) = Feedback (type_at s t) (term s (t ∷ Γ) a) (term s (t ∷ Γ) b)
term s Γ (if_of r a p b c) = IfThenElse (term s Γ a) (pattern_of s p) (term s Γ b) (term s Γ c)
term s Γ (delay_of r t ls a) = Delayed ls (type_at s t) (leaf_values s ls) (term s Γ a)

-- the term of the whole circuit, in which the input alone is in scope
unfoldable pub circuit_term : List ℕ → Term
circuit_term s = term s (inputs s) (circuit s)
