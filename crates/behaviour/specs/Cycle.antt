-- One cycle on bytes (docs/SHEETS.md, "One cycle", "After a run"): the value of a sheet's root for an input, and the sheet after the
-- cycle, "the sheet with one change: each delay holds its next value". What an undecided IF gives is a parameter; the rule in force is
-- the instance.
use Rattle.std.specs.Prelude.{ℕ, List, [], ◌∷◌}
use Rattle.meaning.specs.Undecided.{undecided_rule}
use Rattle.meaning.specs.Evaluation.{eval, next}
use Rattle.behaviour.specs.Terms.{circuit_term}
use Rattle.behaviour.specs.Sheets.{write}

module _ (undecided : List ℕ → List ℕ → List ℕ) where
  unfoldable pub output_by : (sheet input : List ℕ) → List ℕ
  output_by s i = eval undecided (i ∷ []) (circuit_term s)

  unfoldable pub after_by : (sheet input : List ℕ) → List ℕ
  after_by s i = write s (next undecided (i ∷ []) (circuit_term s))

-- the cycle by the rule in force
abbrev pub output : (sheet input : List ℕ) → List ℕ
output s i = output_by undecided_rule s i

abbrev pub sheet_after_cycle : (sheet input : List ℕ) → List ℕ
sheet_after_cycle s i = after_by undecided_rule s i
