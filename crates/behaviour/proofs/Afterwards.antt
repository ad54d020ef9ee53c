-- Demand 3: after a run of an accepted sheet on a well-formed stimulus with slices of the right lengths. No code applies, so the
-- answer is that all cycles are done; the sheets are those that the cycles begin from, each accepted as the first is; cycle
-- k's leaves stand at k times the output's leaves; and each record of kind 38 settles in every sheet.
-- Assumes nothing.
use Prim.Native.Nat.{ℕ, zero, suc, ◌*◌, ◌<◌}
use mathlib.Core.List.{List, []}
use mathlib.Core.Path.{◌≡◌, sym, ap, ◌∙◌}
use native.Mathlib.Omega.{arith}
use lib.ListN.{length, get_or}
use borrow.Author.Tests.{eq-eqb}
use Rattle.picoella.specs.Language.{Ty, leaves, OfType}
use Rattle.records.specs.Trees.{type_at}
use Rattle.verdict.specs.Verdict.{verdict}
use Rattle.meaning.specs.Values.{AllOf, all_none, all_more}
use Rattle.meaning.specs.Undecided.{undecided_rule}
use Rattle.meaning.proofs.UndecidedRule.{rule-lawful}
use Rattle.behaviour.specs.Afterwards.{OnlyDelays, WellFormed, input_of, output_in, Afterwards}
use Rattle.behaviour.specs.Cycle.{output, sheet_after_cycle}
use Rattle.behaviour.proofs.Cycle.{after-only-delays}
use Rattle.stimulus.specs.Stimulus.{input_type, cycle_count, end_to_end, cycles}
use Rattle.answers.specs.Answers.{packed}
use Rattle.answers.specs.Answers.{Done}
use Rattle.behaviour.specs.Run.{outputs_by, sheet_after, output_needed, by_slices, answer, final_out, final_next}
use Rattle.behaviour.specs.Midway.{sheet_before}
use Rattle.stimulus.proofs.Pieces.{joined_length, joined_at, typed-wide}
use Rattle.stimulus.proofs.Stimulus.{cycles-typed, cycles-counted, cycle-at}
use Rattle.behaviour.proofs.Run.{
  sheet-last,
  sheet-first,
  sheet-next,
  output-at,
  outputs-counted,
  outputs_typed,
  accepted-before,
  sheet-only-delays,
  input-at,
  sheet-bytes,
}
use Rattle.behaviour.proofs.Feedbacks.{feedback-kind, feedback-at}

pub all-at : {τ : Ty} {vs : List (List ℕ)} → AllOf τ vs → (k : ℕ) → k < length vs → OfType τ (get_or vs k [])
all-at all_none k h = absurd (omega arith)
all-at (all_more h r) zero b = h
all-at (all_more h r) (suc k) b = all-at r k (omega arith)

module _ {s stim out next : List ℕ} {t : ℕ} (h : WellFormed s stim out next t) where
  pub answer-done : answer s stim out next ≡ Done (cycle_count s stim)
  unfolding answer by_slices
  answer-done =
      rw (
        h.accepted,
        h.whole,
        eq-eqb (length out) (output_needed s t stim) h.room,
        h.fitting,
        eq-eqb (length next) (length s) h.long,
      )

  inputs_typed : AllOf (input_type s) (cycles s stim)
  inputs_typed = cycles-typed s stim h.whole h.fitting

  abbrev pub outs : List (List ℕ)
  outs = outputs_by undecided_rule s (cycles s stim)

  outs-typed : AllOf (type_at s t) outs
  outs-typed = outputs_typed rule-lawful s h.accepted inputs_typed

  pub out_is : final_out s stim out next ≡ end_to_end outs
  unfolding final_out
  out_is = rw answer-done

  pub next_is : final_next s stim out next ≡ sheet_after undecided_rule s (cycles s stim)
  unfolding final_next
  next_is = rw answer-done

  abbrev sheet : ℕ → List ℕ
  sheet k = sheet_before undecided_rule s (cycles s stim) k

  in_list : (k : ℕ) → k < cycle_count s stim → k < length (cycles s stim)
  in_list k b = rw (cycles-counted s stim) b

  accepted : (k : ℕ) → verdict (sheet k) ≡ verdict s
  accepted k = accepted-before rule-lawful s h.accepted inputs_typed k

  each_after : (k : ℕ) → k < cycle_count s stim → sheet (suc k) ≡ sheet_after_cycle (sheet k) (input_of s stim k)
  each_after k b = rw (← cycle-at s stim k b) (sheet-next s (cycles s stim) k (in_list k b))

  only_delays : (k : ℕ) → k < cycle_count s stim → OnlyDelays (sheet k) (sheet (suc k))
  only_delays k b =
      rw (sheet-next s (cycles s stim) k (in_list k b))
      (after-only-delays rule-lawful (accepted k ∙ h.accepted)
      (input-at rule-lawful s h.accepted inputs_typed k (in_list k b)))

  among-outputs : (k : ℕ) → k < cycle_count s stim → k < length outs
  among-outputs k b = rw (outputs-counted s (cycles s stim)) (in_list k b)

  -- the part of the output slice that is cycle k's is its output
  output-part : (k : ℕ) → k < cycle_count s stim
      → output_in s t (final_out s stim out next) k ≡ get_or outs k []
  output-part k b =
      rw out_is
      (joined_at (leaves (type_at s t)) outs (typed-wide outs-typed) k (among-outputs k b))

  pub afterwards
      : Afterwards s stim t (packed (answer s stim out next)) (final_out s stim out next) (final_next s stim out next)
  afterwards = record {
    all_done = rw answer-done;
    sheets = sheet;
    first = sheet-first s (cycles s stim);
    each_after = each_after;
    only_delays = only_delays;
    bytes = λ b k c.
        sheet-bytes rule-lawful s h.accepted inputs_typed b k;
    last = next_is ∙ sym (sheet-last s (cycles s stim)) ∙ ap sheet (cycles-counted s stim);
    equals_first = rw (next_is, ← sheet-last s (cycles s stim))
        (sheet-only-delays rule-lawful s h.accepted inputs_typed (length (cycles s stim)));
    outputs = λ k b. output-part k b
        ∙ output-at s (cycles s stim) k (in_list k b)
        ∙ ap (output (sheet k)) (cycle-at s stim k b);
    out_length = ap length out_is
        ∙ joined_length (leaves (type_at s t)) outs (typed-wide outs-typed)
        ∙ ap (λ n. n * leaves (type_at s t)) (outputs-counted s (cycles s stim) ∙ cycles-counted s stim);
    again = ap verdict (next_is ∙ sym (sheet-last s (cycles s stim))) ∙ accepted (length (cycles s stim)) ∙ h.accepted;
    typed = λ k b. rw (output-part k b) (all-at outs-typed k (among-outputs k b));
    feedbacks = λ q b e. feedback-at s h.accepted b (feedback-kind s q e) sheet (cycle_count s stim)
        (λ k c. accepted k ∙ h.accepted)
        (λ k c. sheet-only-delays rule-lawful s h.accepted inputs_typed k);
  }
