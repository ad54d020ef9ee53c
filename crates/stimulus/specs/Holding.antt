-- What the check of a stimulus gives: the answer of its two checks, and else the number of cycles.
use Rattle.std.specs.Prelude.{ℕ, ◌≤◌, ◌<◌, ◌≡◌, List}
use Rattle.stimulus.specs.Tests.{stimulus_bytes}
use Rattle.answers.specs.Answers.{code, place, first_applying}
use Rattle.answers.specs.Answers.{Answer}
use Rattle.answers.specs.Answers.{Done}
use Rattle.stimulus.specs.Stimulus.{cycle_count, stimulus_checks}
use Rattle.stimulus.specs.OneCycle.{one_cycle_checks}

pub record Held (s stim : List ℕ) (answer : Answer) : Type 0 where
  pub answered : answer ≡ first_applying (stimulus_checks s stim) (Done (cycle_count s stim))
  pub numbered : code answer < 256
  pub small : place answer ≤ stimulus_bytes

-- what the check of one cycle gives: the answer of its two checks, and else the one cycle
pub record HeldToOne (s stim : List ℕ) (answer : Answer) : Type 0 where
  pub answered : answer ≡ first_applying (one_cycle_checks s stim) (Done 1)
  pub numbered : code answer < 256
  pub small : place answer ≤ stimulus_bytes
