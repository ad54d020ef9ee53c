-- Tables and sheets midway, of which only contracts of inner functions and proofs speak: the tables after the expression at a record, and
-- the sheet between two cycles. Γ lists the type records of the names in scope and ρ their values, the innermost first.
use Rattle.std.specs.Prelude.{ℕ, zero, suc, List, [], ◌∷◌}
use Rattle.records.specs.Trees.{tree_at}
use Rattle.meaning.specs.Evaluation.{next}
use Rattle.behaviour.specs.Terms.{term}
use Rattle.behaviour.specs.Delays.{store}
use Rattle.behaviour.specs.Entries.{put_all, enter}
use Rattle.behaviour.specs.Cycle.{after_by}
use Rattle.behaviour.specs.Firing.{firings}

module _ (undecided : List ℕ → List ℕ → List ℕ) where
  -- a table of one byte a record, in which the next values of the delays of the expression at record r are entered
  unfoldable pub stored_at : (sheet Γ : List ℕ) (ρ : List (List ℕ)) → ℕ → (table : List ℕ) → List ℕ
  stored_at s Γ ρ r h = store (next undecided ρ (term s Γ (tree_at s r))) h

  -- a table of one number a record, in which the numbers of the expression at record r are entered
  unfoldable pub fired_at : (sheet Γ : List ℕ) (ρ : List (List ℕ)) → ℕ → (table : List ℕ) → List ℕ
  fired_at s Γ ρ r f = put_all enter (firings undecided s Γ ρ (tree_at s r)) f

  -- the sheet that cycle k begins from; after the last cycle, the sheet after it
  abbrev pub sheet_before : (sheet : List ℕ) (inputs : List (List ℕ)) → ℕ → List ℕ
  sheet_before s [] k = s
  sheet_before s (i ∷ is) zero = s
  sheet_before s (i ∷ is) (suc k) = sheet_before (after_by undecided s i) is k
