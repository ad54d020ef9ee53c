-- The run of an accepted sheet, inside the call: all cycles, and the run before its answer is put in one number. What the call itself
-- gives stands in `Calls`. And the leaves that the program asks for.
use Rattle.std.specs.Prelude.{ℕ, ◌*◌, ◌≤◌, ◌≡◌, List, length}
use Rattle.records.specs.Limits.{most_leaves}
use Rattle.picoella.specs.Language.{leaves}
use Rattle.records.specs.Trees.{type_at}
use Rattle.verdict.specs.Verdict.{verdict}
use Rattle.answers.specs.Answers.{Answer, Accepted}
use Rattle.meaning.specs.Undecided.{undecided_rule}
use Rattle.stimulus.specs.Stimulus.{input_leaves, end_to_end, cycles}
use Rattle.behaviour.specs.Run.{outputs_by, sheet_after, answer, final_out, final_next}
use Rattle.stepper.specs.CycleByCycle.{WholeCycles}

-- all cycles are run, into slices of the right lengths; `current` begins as the sheet
pub record RunningCycles (s : List ℕ) (n : ℕ) (widths stim : List ℕ) (wi wo count : ℕ) (current out : List ℕ) : Type 0 where
  pub over : WholeCycles s n widths stim wi wo count
  pub room : length out ≡ count * wo
  pub start : current ≡ s

pub record RanCycles (s stim current' out' : List ℕ) : Type 0 where
  pub outputs : out' ≡ end_to_end (outputs_by undecided_rule s (cycles s stim))
  pub next : current' ≡ sheet_after undecided_rule s (cycles s stim)

-- the answer of a run, and the final bytes of the two slices
pub record RunAnswered (sheet stimulus out next : List ℕ) (answered : Answer) (out' next' : List ℕ) : Type 0 where
  pub answer_is : answered ≡ answer sheet stimulus out next
  pub out_is : out' ≡ final_out sheet stimulus out next
  pub next_is : next' ≡ final_next sheet stimulus out next

-- the leaves of a cycle's input and output and the record of the output type, for an accepted sheet
pub record Measured (s : List ℕ) (input output type : ℕ) : Type 0 where
  pub leaves_of : (t : ℕ) → verdict s ≡ Accepted t → (input ≡ input_leaves s) × (output ≡ leaves (type_at s t))
  pub typed : (t : ℕ) → verdict s ≡ Accepted t → type ≡ t
  pub few_input : input ≤ most_leaves
  pub few_output : output ≤ most_leaves
