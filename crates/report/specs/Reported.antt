-- What `sheetreport` prints (docs/SHEETS.md, "Shift report"), for the answer of the run with slices of the right lengths: the report of
-- its outputs, or the one line of a refusal, as `sheetrun` does.
use Rattle.std.specs.Prelude.{ℕ, zero, suc, ◌≤◌, ◌≡◌, List, length, take}
use Rattle.picoella.specs.Language.{leaves}
use Rattle.records.specs.Trees.{type_at}
use Rattle.answers.specs.Answers.{code, place}
use Rattle.listing.specs.Lines.{refused_line}
use Rattle.changes.specs.ReportLines.{report}
use Rattle.run_listing.specs.Printout.{output_record, run_answer, run_outputs}

abbrev pub report_text : (code place w : ℕ) (outputs : List ℕ) → List ℕ
report_text zero p w outputs = report w outputs
report_text (suc c) p w outputs = refused_line (suc c) p

unfoldable pub reported : (sheet stimulus : List ℕ) → List ℕ
reported s stim =
    report_text (code (run_answer s stim)) (place (run_answer s stim)) (leaves (type_at s (output_record s))) (run_outputs s stim)

-- the buffer holds what is printed, up to `end`
pub record ReportTold (s stim buffer' : List ℕ) (end : ℕ) : Type 0 where
  pub text : take end buffer' ≡ reported s stim
  pub inside : end ≤ length buffer'

-- room for a line for each of 64 leaves, and one more
abbrev pub report_bytes : ℕ
report_bytes = 18200
