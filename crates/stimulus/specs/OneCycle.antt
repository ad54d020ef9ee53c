-- One cycle of input (docs/SHEETS.md, "Codes"): the calls that look at one cycle refuse by code 8 also a stimulus that "is not exactly
-- one cycle", so an empty one and more than one cycle too, and then by code 9.
use Rattle.std.specs.Prelude.{ℕ, Bool, not, ◌||◌, List, [], ◌∷◌, eqb, length}
use Rattle.answers.specs.Answers.{lowest, Check, check, when}
use Rattle.stimulus.specs.Stimulus.{input_leaves, wrong_stimulus, wrong_byte}

-- 8: what a run refuses by it, and what "is not exactly one cycle"
unfoldable pub not_one_cycle : (sheet stimulus : List ℕ) → Bool
not_one_cycle s stim = wrong_stimulus s stim || not (eqb (length stim) (input_leaves s))

-- the two checks of one cycle, in their order
abbrev pub one_cycle_checks : (sheet stimulus : List ℕ) → List Check
one_cycle_checks s stim =
    check 8 (when (not_one_cycle s stim) 0) ∷ check 9 (lowest (wrong_byte s stim) (length stim)) ∷ []
