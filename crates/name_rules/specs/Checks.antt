-- A list of checks, each with the place that it tells: the first that fails, and all before it hold.
use Rattle.std.specs.Prelude.{ℕ, Bool, true, false, List, [], ◌∷◌}
use Rattle.std.proofs.Math.Option.{Option, none, some}

pub data PlacedCheck : Type 0 where
  check_at : (place : ℕ) (holds : Bool) → PlacedCheck

pub data AllPass : List PlacedCheck → Type 0 where
  no_check_left : AllPass []
  one_holds : {p : ℕ} {cs : List PlacedCheck} → AllPass cs → AllPass (check_at p true ∷ cs)

pub data FirstFails : List PlacedCheck → ℕ → Type 0 where
  fails_here : {p : ℕ} {cs : List PlacedCheck} → FirstFails (check_at p false ∷ cs) p
  fails_later : {p q : ℕ} {cs : List PlacedCheck} → FirstFails cs p → FirstFails (check_at q true ∷ cs) p

-- the place of the first that fails
abbrev pub unless_fails : Bool → ℕ → Option ℕ → Option ℕ
unless_fails true p rest = rest
unless_fails false p rest = some p

abbrev pub first_bad_place : List PlacedCheck → Option ℕ
first_bad_place [] = none
first_bad_place (check_at p h ∷ cs) = unless_fails h p (first_bad_place cs)

abbrev pub check_places : List PlacedCheck → List ℕ
check_places [] = []
check_places (check_at p h ∷ cs) = p ∷ check_places cs
