-- The terms that can be written to a sheet.
use Rattle.std.specs.Prelude.{ℕ, ◌≡◌, List, [], ◌∷◌}
use Rattle.records.specs.Words.{word_a}
use Rattle.records.specs.Trees.{type_at, Declared}
use Rattle.meaning.specs.Elaboration.{Term, Elaborated, frame}
use Rattle.behaviour.specs.Terms.{circuit_term}

-- a term that can be written to an accepted sheet with output type t: of the circuit's frame, and of its type
pub record Writable (s : List ℕ) (t : ℕ) (e : Term) : Type 0 where
  pub frame : frame e ≡ frame (circuit_term s)
  pub typed : Elaborated (Declared s) (type_at s (word_a s 0) ∷ []) e (type_at s t)
