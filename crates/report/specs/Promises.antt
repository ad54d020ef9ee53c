-- What is promised of what `sheetreport` prints; one term of each stands in `proofs/Kept.antt`.
use Rattle.std.specs.Prelude.{ℕ, ◌≡◌, ◌≢◌, List, [], ◌∷◌}
use Rattle.picoella.specs.Language.{leaves}
use Rattle.records.specs.Trees.{type_at}
use Rattle.answers.specs.Answers.{code}
use Rattle.behaviour.specs.Bench.{toggle}
use Rattle.listing.specs.Lines.{ascii, listing}
use Rattle.run_listing.specs.Printout.{output_record, run_answer, run_outputs, printed}
use Rattle.changes.specs.ReportLines.{report}
use Rattle.report.specs.Reported.{reported}

-- It refuses as `sheetrun` does: where the run is refused both print the same line.
abbrev pub RefusesAsRun : Type 0
RefusesAsRun = (s stim : List ℕ) → code (run_answer s stim) ≢ 0 → reported s stim ≡ printed s stim

-- Else it is the report of the very outputs that `sheetrun` lists, of which `ListedByParts` says which stand in the line of a cycle.
abbrev pub ReportOfListing : Type 0
ReportOfListing =
    (s stim : List ℕ) → code (run_answer s stim) ≡ 0
    → (reported s stim ≡ report (leaves (type_at s (output_record s))) (run_outputs s stim))
    × (printed s stim ≡ listing (output_record s) (leaves (type_at s (output_record s))) (run_outputs s stim))

-- The sheet T, by computation.
abbrev pub ToggleReported : Type 0
ToggleReported =
    (reported toggle (1 ∷ 2 ∷ 1 ∷ []) ≡ ascii "leaf 0: 1\ntotal 1\n")
    × (reported toggle (1 ∷ []) ≡ ascii "leaf 0: 0\ntotal 0\n")
    × (reported toggle [] ≡ ascii "leaf 0: 0\ntotal 0\n")
    × (reported toggle (1 ∷ 3 ∷ []) ≡ ascii "refused 9 at 1\n")

-- all of them
pub record ReportPromises : Type 0 where
  pub refuses_as_run : RefusesAsRun
  pub report_of_listing : ReportOfListing
  pub toggle_reported : ToggleReported
