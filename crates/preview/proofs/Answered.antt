-- The promises of the preview: what every call promises; on one cycle's bytes it is answered as the run
-- is, whose checks are then the same ones; and its outputs are the cycle's, of the output type.
-- Assumes nothing.
use Prim.Native.Nat.{ℕ, ◌≤◌}
use mathlib.Core.Bool.{not}
use mathlib.Core.List.{List, [], ◌∷◌, ◌++◌, append-nil}
use mathlib.Core.Path.{◌≡◌, refl, sym, ap, ◌∙◌}
use native.Mathlib.Omega.{arith}
use lib.ListN.{length}
use lib.Dec.{eqb}
use borrow.Author.Tests.{eq-eqb}
use Rattle.answers.specs.Answers.{on_done, Check, check, when, first_applying, NoneApplies}
use Rattle.answers.specs.Answers.{Answer}
use Rattle.answers.specs.Answers.{Done, Refused}
use Rattle.answers.specs.GivenSlices.{no_slice, one_slice}
use Rattle.answers.proofs.First.{first-both, first_then}
use Rattle.verdict.specs.Verdict.{sheet_checks, output_type, verdict}
use Rattle.answers.specs.Answers.{Accepted}
use Rattle.accepted.proofs.Calls.{accepted-output}
use Rattle.accepted.proofs.Small.{accepted-few}
use Rattle.meaning.proofs.UndecidedRule.{rule-lawful}
use Rattle.stimulus.specs.Stimulus.{input_leaves, cycle_count, stimulus_checks}
use Rattle.stimulus.specs.OneCycle.{one_cycle_checks}
use Rattle.stimulus.proofs.OneCycle.{one-cycle-run, one-cycle-counted, one-cycle-alone, one-cycle-typed}
use Rattle.stimulus.proofs.OneCycleCalls.{one-cycle-laws}
use Rattle.behaviour.specs.Cycle.{output}
use Rattle.behaviour.specs.Run.{output_leaves, output_needed, length_checks, run_checks, answer, final_out}
use Rattle.behaviour.proofs.Answers.{answer-first}
use Rattle.behaviour.proofs.Cycle.{output-of-type}
use Rattle.preview.specs.Preview.{shown_checks, preview_answer, final_preview}
use Rattle.preview.specs.Promises.{
  PreviewLaws,
  AsRun,
  PreviewAsRun,
  PreviewTyped,
}

-- an accepted sheet's output type has at most 64 leaves
leaves-few : (s : List ℕ) (t : ℕ) → verdict s ≡ Accepted t → output_leaves s ≤ 64
leaves-few s t v = rw (accepted-output s t v) at (accepted-few s v)

pub preview_laws : PreviewLaws
unfolding preview_answer final_preview
preview_laws s stim out =
    one-cycle-laws 10 (output_leaves s) s stim out refl (omega arith) (λ t v. let few = leaves-few s t v in omega arith) (one_slice (output s stim) no_slice)

-- 10 alone
abbrev room_checks : (s out : List ℕ) → List Check
room_checks s out = check 10 (when (not (eqb (length out) (output_leaves s))) (output_leaves s)) ∷ []

-- one cycle's bytes, with slices of the right lengths
module _
    (s stim shown out next : List ℕ)
    (l : length stim ≡ input_leaves s)
    (es : length shown ≡ output_leaves s)
    (eo : length out ≡ output_leaves s)
    (en : length next ≡ length s)
  where
    -- the checks that are left are those of the sheet and of the stimulus
    abbrev left : Answer → Answer
    left done = first_applying (sheet_checks s) (first_applying (stimulus_checks s stim) done)

    preview-left : preview_answer s stim shown ≡ left (Done 0)
    unfolding preview_answer
    preview-left =
        first-both (sheet_checks s) (shown_checks s stim shown) (Done 0)
        ∙ ap (first_applying (sheet_checks s))
        (first-both (one_cycle_checks s stim) (room_checks s shown) (Done 0)
        ∙ rw (eq-eqb (length shown) (output_leaves s) es, one-cycle-run s stim l) refl)

    needed-one : output_needed s (output_type s) stim ≡ output_leaves s
    needed-one = rw (one-cycle-counted s stim l) (omega arith)

    run-left : answer s stim out next ≡ left (Done 1)
    run-left =
        let t = output_type s in
        answer-first s stim out next
        ∙ first-both (sheet_checks s) (run_checks s t stim out next) (Done (cycle_count s stim))
        ∙ ap (first_applying (sheet_checks s))
        (first-both (stimulus_checks s stim) (length_checks s t stim out next) (Done (cycle_count s stim))
        ∙ rw (eq-eqb (length out) (output_needed s t stim) (eo ∙ sym needed-one), eq-eqb (length next) (length s) en, one-cycle-counted s stim l) refl)

    left-then : left (Done 1) ≡ on_done (left (Done 0)) (λ p. Done 1)
    left-then =
        sym (first-both (sheet_checks s) (stimulus_checks s stim) (Done 1))
        ∙ first_then (sheet_checks s ++ stimulus_checks s stim) 0 (λ p. Done 1)
        ∙ ap (λ (a : Answer). on_done a (λ p. Done 1)) (first-both (sheet_checks s) (stimulus_checks s stim) (Done 0))

    answered-alike : answer s stim out next ≡ on_done (preview_answer s stim shown) (λ p. Done 1)
    answered-alike = run-left ∙ left-then ∙ ap (λ (a : Answer). on_done a (λ p. Done 1)) (sym preview-left)

    zero-from : (a : Answer) → preview_answer s stim shown ≡ a → on_done a (λ p. Done 1) ≡ Done 1 → a ≡ Done 0
    zero-from (Done p) e q = ap Done (((preview_laws s stim shown).lowest_first (Done p)).0 e).1
    zero-from (Refused c p) e q = let z : ◌≡◌ {A = ℕ} 0 1 = cc in absurd (omega arith)

    outputs-alike : preview_answer s stim shown ≡ Done 0 → final_preview s stim shown ≡ final_out s stim out next
    unfolding final_preview final_out
    outputs-alike e =
        let r : answer s stim out next ≡ Done 1 = answered-alike ∙ ap (λ (a : Answer). on_done a (λ p. Done 1)) e in
        rw (e, r, one-cycle-alone s stim l) (sym (append-nil (output s stim)))

    as-run-where : AsRun s stim shown out next
    as-run-where =
        record {
          answered = answered-alike;
          zero_where = (
            λ e. answered-alike ∙ ap (λ (a : Answer). on_done a (λ p. Done 1)) e,
            λ q. zero-from (preview_answer s stim shown) refl (sym answered-alike ∙ q),
          );
          outputs = outputs-alike;
        }

pub as_run : PreviewAsRun
as_run s stim shown out next l es eo en = as-run-where s stim shown out next l es eo en

pub typed : PreviewTyped
unfolding final_preview
typed s stim out e =
    let h = (((preview_laws s stim out).lowest_first (Done 0)).0 e).0 in
    let passes : NoneApplies (one_cycle_checks s stim) = (rw h.one_cycle refl, (h.fitting, tt)) in
    rw e (output-of-type rule-lawful s h.accepted (one-cycle-typed s stim passes))
