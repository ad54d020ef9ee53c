-- What the program prints and writes (docs/SHEETS.md, "Listing"), for the answer of the run with slices of the right lengths: the
-- listing of its outputs, or the one line of a refusal.
use Rattle.std.specs.Prelude.{ℕ, ◌≤◌, ◌<◌, ◌≡◌, List, length, take, replicate}
use Rattle.picoella.specs.Language.{leaves}
use Rattle.records.specs.Trees.{type_at}
use Rattle.answers.specs.Answers.{code, place, verdict_answer}
use Rattle.answers.specs.Answers.{Answer}
use Rattle.verdict.specs.Verdict.{verdict}
use Rattle.meaning.specs.Undecided.{undecided_rule}
use Rattle.stimulus.specs.Stimulus.{end_to_end, cycles}
use Rattle.behaviour.specs.Run.{outputs_by, sheet_after, output_needed, answer}
use Rattle.printing.specs.Pieces.{told_text}

-- "the record of the output type": the place of the check's answer
abbrev pub output_record : (sheet : List ℕ) → ℕ
output_record s = place (verdict_answer (verdict s))

-- the run's answer, with slices of the right lengths
unfoldable pub run_answer : (sheet stimulus : List ℕ) → Answer
run_answer s stim =
    answer s stim (replicate (output_needed s (output_record s) stim) 0) (replicate (length s) 0)

-- the outputs of all cycles, and the sheet after the last
unfoldable pub run_outputs : (sheet stimulus : List ℕ) → List ℕ
run_outputs s stim = end_to_end (outputs_by undecided_rule s (cycles s stim))

unfoldable pub run_sheet : (sheet stimulus : List ℕ) → List ℕ
run_sheet s stim = sheet_after undecided_rule s (cycles s stim)

-- the listing of these outputs, or where the answer's code is not 0 the line of a refusal
unfoldable pub printed : (sheet stimulus : List ℕ) → List ℕ
printed s stim =
    told_text (code (run_answer s stim)) (place (run_answer s stim)) (output_record s) (leaves (type_at s (output_record s)))
    (run_outputs s stim)

-- what is told of a sheet and a stimulus: the code and the place of the run's answer, and where
-- nothing is refused the output type's record, its leaves, the outputs in the first so many bytes
-- of their room, and the sheet for next.bin
pub record RunTold (s stim : List ℕ) (c p t w many : ℕ) (out' next' : List ℕ) : Type 0 where
  pub coded : c ≡ code (run_answer s stim)
  pub placed : p ≡ place (run_answer s stim)
  pub typed : c ≡ 0 → t ≡ output_record s
  pub wide : c ≡ 0 → w ≡ leaves (type_at s (output_record s))
  pub outputs : c ≡ 0 → take many out' ≡ run_outputs s stim
  pub inside : many ≤ length out'
  pub some : 0 < w
  pub few : w ≤ 64
  pub next : c ≡ 0 → take (length s) next' ≡ run_sheet s stim
