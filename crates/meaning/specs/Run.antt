-- A run over a list of inputs (docs/SHEETS.md, "After a run"; 000, §4.2.3: `reduceSeq`): each cycle puts one input
-- in front of the environment around the circuit and begins from the circuit after the cycle before. Of a sheet that
-- environment is empty: its input is the outermost name. The outputs stand in order; a run over no inputs gives none and
-- leaves the circuit as it is.
use Rattle.std.specs.Prelude.{ℕ, List, [], ◌∷◌}
use Rattle.meaning.specs.Elaboration.{Term}
use Rattle.meaning.specs.Evaluation.{eval, next}

module _ (undecided : List ℕ → List ℕ → List ℕ) where
  unfoldable pub outputs : List (List ℕ) → Term → List (List ℕ) → List (List ℕ)
  outputs ρ t [] = []
  outputs ρ t (v ∷ vs) = eval undecided (v ∷ ρ) t ∷ outputs ρ (next undecided (v ∷ ρ) t) vs

  -- the circuit after the last cycle
  unfoldable pub after : List (List ℕ) → Term → List (List ℕ) → Term
  after ρ t [] = t
  after ρ t (v ∷ vs) = after ρ (next undecided (v ∷ ρ) t) vs
