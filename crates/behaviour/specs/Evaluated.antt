-- The value of the expression at a record. Γ lists the type records of the names in scope and ρ their values, the innermost first.
use Rattle.std.specs.Prelude.{ℕ, List}
use Rattle.records.specs.Trees.{tree_at}
use Rattle.meaning.specs.Evaluation.{eval}
use Rattle.behaviour.specs.Terms.{term}

module _ (undecided : List ℕ → List ℕ → List ℕ) where
  unfoldable pub value_at : (sheet Γ : List ℕ) (ρ : List (List ℕ)) → ℕ → List ℕ
  value_at s Γ ρ r = eval undecided ρ (term s Γ (tree_at s r))
