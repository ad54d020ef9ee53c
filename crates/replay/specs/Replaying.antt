-- What the functions of a replay ask and give: all cycles, and those of a copy of the sheet.
use Rattle.std.specs.Prelude.{ℕ, ◌*◌, ◌≡◌, List, length}
use Rattle.meaning.specs.Undecided.{undecided_rule}
use Rattle.stimulus.specs.Stimulus.{cycles}
use Rattle.behaviour.specs.Run.{sheet_after}
use Rattle.stepper.specs.CycleByCycle.{WholeCycles}
use Rattle.replay.specs.Replay.{Finding}
use Rattle.replay.specs.Replay.{Agrees}
use Rattle.replay.specs.Replay.{finding, when_agreed}

-- all cycles are replayed; `current` begins as the sheet
pub record ReplayingCycles (s : List ℕ) (n : ℕ) (widths stim recorded : List ℕ) (wi wo count : ℕ) (current : List ℕ) : Type 0 where
  pub over : WholeCycles s n widths stim wi wo count
  pub recorded_long : length recorded ≡ count * wo
  pub start : current ≡ s

pub record ReplayedCycles (s stim recorded current' : List ℕ) (told : Finding) : Type 0 where
  pub compared : told ≡ finding s stim recorded
  pub next : (n : ℕ) → told ≡ Agrees n → current' ≡ sheet_after undecided_rule s (cycles s stim)

-- on a copy of the sheet, and where the record agrees `next` receives the sheet after the run
pub record ReplayingInto (s : List ℕ) (n : ℕ) (widths stim recorded : List ℕ) (wi wo count : ℕ) (next : List ℕ) : Type 0 where
  pub over : WholeCycles s n widths stim wi wo count
  pub recorded_long : length recorded ≡ count * wo
  pub long : length next ≡ length s

pub record ReplayedInto (s stim recorded next next' : List ℕ) (told : Finding) : Type 0 where
  pub compared : told ≡ finding s stim recorded
  pub next_is : next' ≡ when_agreed (finding s stim recorded) (sheet_after undecided_rule s (cycles s stim)) next
