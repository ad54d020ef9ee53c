-- How long outputs and files are.
use Rattle.std.specs.Prelude.{ℕ, ◌/◌, ◌*◌, ◌≤◌, ◌<◌, ◌≡◌}
use Rattle.stimulus.specs.Tests.{stimulus_bytes}
use Rattle.rooms.specs.Rooms.{most_output}

-- the length of outputs, from the leaves of input and output and the length of a stimulus
pub record OutputsMeasured (input output all many : ℕ) : Type 0 where
  pub needed : 0 < input → all ≤ stimulus_bytes → many ≡ all / input * output
  pub small : many ≤ most_output
