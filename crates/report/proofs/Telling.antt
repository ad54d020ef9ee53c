-- What is written for what was told is the report of the run's outputs, or the line of a refusal.
-- Assumes nothing.
use Prim.Native.Nat.{ℕ, zero, suc}
use mathlib.Core.List.{List}
use mathlib.Core.Path.{◌≡◌, refl, ◌∙◌}
use mathlib.Core.Logic.{◌≢◌}
use lib.ListN.{length, take}
use Rattle.picoella.specs.Language.{leaves}
use Rattle.records.specs.Trees.{type_at}
use Rattle.answers.specs.Answers.{code, place}
use Rattle.printing.specs.Pieces.{told_text}
use Rattle.run_listing.specs.Printout.{output_record, run_answer, run_outputs, printed, RunTold}
use Rattle.std.specs.Prelude.{Err}
use Rattle.answers.specs.declared.Refusal.{Refusal}
use Rattle.answers.specs.Results.{code_number}
use Rattle.listing.specs.Lines.{refused_line}
use Rattle.listing.specs.Seen.{written}
use Rattle.listing.specs.declared.Text.{Text}
use Rattle.listing.proofs.Front.{front-taken, front-inside}
use Rattle.run_listing.proofs.Telling.{AsTold, some-code}
use Rattle.report.specs.Reported.{report_text, reported, ReportTold}
use Rattle.report.specs.Promises.{RefusesAsRun, ReportOfListing}

module _ {s stim : List ℕ} {c p t w many : ℕ} {out' next' : List ℕ} (told : RunTold s stim c p t w many out' next') where
  pub told-reported : report_text c p w (take many out') ≡ reported s stim
  unfolding reported
  told-reported = rw (← told.coded, ← told.placed) (go c refl)
    where
      go : (k : ℕ) → c ≡ k → report_text k p w (take many out') ≡ report_text k p (leaves (type_at s (output_record s))) (run_outputs s stim)
      go zero e = rw (told.wide e, told.outputs e) refl
      go (suc k) e = refl

-- of a refusal
pub refused-reported : {s stim : List ℕ} (e : Refusal) {out' next' : List ℕ} → AsTold s stim (Err e) out' next'
    → refused_line (code_number e.code) e.place ≡ reported s stim
refused-reported e told = rw c.1 (rw c.1 at (told-reported told))
  where
    c : (k : ℕ) × (code_number e.code ≡ suc k)
    c = some-code e.code

-- a text that is what is reported, in the buffer that was lent to it
pub report-told : {s stim : List ℕ} (t : Text) {after : List ℕ} → after ≡ t.buffer.now → {end : ℕ} → end ≡ length (written t).bytes
    → (written t).bytes ≡ reported s stim → ReportTold s stim after end
report-told t loan ends e = record { text = front-taken t loan ends ∙ e; inside = front-inside t loan ends }

pub refuses_as_run : RefusesAsRun
unfolding reported printed
refuses_as_run s stim f = go (code (run_answer s stim)) f
  where
    go : (k : ℕ) → k ≢ 0
        → report_text k (place (run_answer s stim)) (leaves (type_at s (output_record s))) (run_outputs s stim)
        ≡ told_text k (place (run_answer s stim)) (output_record s) (leaves (type_at s (output_record s))) (run_outputs s stim)
    go zero f = absurd (f refl)
    go (suc k) f = refl

pub report_of_listing : ReportOfListing
unfolding reported printed
report_of_listing s stim e = (rw e refl, rw e refl)
