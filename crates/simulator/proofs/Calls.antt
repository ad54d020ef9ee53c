-- The call: what the check's answer and the stimulus' say of it, and what each way out gives.
-- Assumes nothing.
use Prim.Native.Nat.{ℕ, ◌*◌}
use mathlib.Core.List.{List, ◌++◌}
use mathlib.Core.Path.{◌≡◌, refl, sym, ap, ◌∙◌}
use native.Mathlib.Omega.{arith}
use mir.Syntax.{w8}
use mir.Val.{Fits}
use lib.ListN.{length, get_or, drop}
use Rattle.records.specs.Words.{word}
use Rattle.answers.specs.Answers.{packed, first_applying}
use Rattle.answers.specs.Answers.{Answer, Accepted}
use Rattle.answers.specs.Answers.{Done, Refused}
use Rattle.std.specs.Prelude.{Result, Ok, Err, IsErrAnd}
use Rattle.answers.specs.Results.{refusal_of, answer_of, verdict_of}
use Rattle.answers.specs.declared.Refusal.{Refusal}
use Rattle.answers.specs.declared.Fault.{Fault}
use Rattle.verdict.specs.Verdict.{verdict}
use Rattle.accepted.specs.Accepting.{Accepting}
use Rattle.accepted.proofs.Calls.{sheet-fault}
use Rattle.accepted.proofs.Small.{output-typed}
use Rattle.stimulus.specs.Stimulus.{cycle_count, stimulus_checks}
use Rattle.stimulus.specs.Holding.{Held}
use Rattle.stimulus.proofs.Holding as Holding
use Rattle.stepper.proofs.CallCycles as Cycles
use Rattle.behaviour.specs.Run.{output_needed, run_checks, answer, final_out, final_next, RunGiven}
use Rattle.verdict.specs.Verdict.{output_type}
use Rattle.behaviour.specs.Afterwards.{WellFormed}
use Rattle.behaviour.proofs.Afterwards.{answer-done}
use Rattle.behaviour.proofs.Answers.{
  answer-first,
  gives-afterwards,
  stimulus-refused,
  output-refused,
  next-refused,
}
use Rattle.behaviour.proofs.ByRules.{call_by_rules}
use Rattle.evaluator.proofs.Frames.{put_whole}
use Rattle.simulator.specs.Running.{RunningCycles, RanCycles, RunAnswered, Measured}
use Rattle.simulator.specs.Calls.{Ran}

-- where it refuses both slices stay
answered-refusal : {s stim out next : List ℕ} {a : Answer} {c p : ℕ} → a ≡ Refused c p → answer s stim out next ≡ Refused c p → RunAnswered s stim out next a out next
unfolding final_out final_next
answered-refusal q e = record { answer_is = q ∙ sym e; out_is = rw e refl; next_is = rw e refl }

-- 1 to 7
pub refused-sheet : (s stim out next : List ℕ) (r : Result ℕ Refusal) (f : Fault) → IsErrAnd r (λ e. e ≡ refusal_of f)
    → verdict_of (Err f) ≡ verdict s → RunAnswered s stim out next (answer_of r) out next
refused-sheet s stim out next (Ok x) f p q = absurd p
refused-sheet s stim out next (Err x) f p q =
    answered-refusal refl
    (answer-first s stim out next
    ∙ sym (sheet-fault s (run_checks s (output_type s) stim out next) (Done (cycle_count s stim)) (Err x) f p q))

-- the leaves of a checked sheet
pub measured : {s : List ℕ} {n : ℕ} {W : List ℕ} {t : ℕ} (g : Accepting s n W) (v : verdict s ≡ Accepted t) {a : ℕ} → a ≡ word s 0 2
    → Measured s (get_or W a 0) (get_or W t 0) t
measured {s} {n} {W} {t} g v {a} ea =
    record {
      leaves_of = λ u w.
          let same : Accepted t ≡ Accepted u = sym v ∙ w in
          let eu : t ≡ u = cc in
          (Holding.takes g ea, g.table.types t (output-typed v) ∙ rw eu refl);
      typed = λ u w. let same : Accepted t ≡ Accepted u = sym v ∙ w in cc;
      few_input = Holding.input-few g ea;
      few_output = Cycles.output-few g v;
    }

module _ {s : List ℕ} {n : ℕ} {W : List ℕ} {t : ℕ} (g : Accepting s n W) (v : verdict s ≡ Accepted t) {stim : List ℕ} {a : Answer} (h : Held s stim a) where
  -- 8 and 9
  pub refused-stimulus : (out next : List ℕ) (c p : ℕ) → a ≡ Refused c p → RunAnswered s stim out next a out next
  refused-stimulus out next c p e = answered-refusal e (stimulus-refused s stim out next v (sym h.answered ∙ e))

  module _ {count : ℕ} (e : a ≡ Done count) {wi wo type : ℕ} (m : Measured s wi wo type) where
    needs : count * wo ≡ output_needed s t stim
    needs = rw (Cycles.cycles-done g v h e, (m.leaves_of t v).1) refl

    done : first_applying (stimulus_checks s stim) (Done (cycle_count s stim)) ≡ Done (cycle_count s stim)
    done = Cycles.stimulus-done g v h e

    -- 10 and 11
    pub refused-output : (out next : List ℕ) → (length out ≡ count * wo → ⊥) → RunAnswered s stim out next (Refused 10 (count * wo)) out next
    refused-output out next d =
        rw needs
        (answered-refusal refl (output-refused s stim out next v done (λ y. d (y ∙ sym needs))))

    module _ {out : List ℕ} (y : length out ≡ count * wo) where
      pub refused-next : (next : List ℕ) → (length next ≡ length s → ⊥) → RunAnswered s stim out next (Refused 11 (length s)) out next
      refused-next next d = answered-refusal refl (next-refused s stim out next v done (y ∙ needs) d)

      module _ (next : List ℕ) (x : length next ≡ length s) where
        well-formed : WellFormed s stim out next t
        well-formed =
            record {
              accepted = v;
              whole = Cycles.held-stimulus g v h e;
              fitting = Cycles.held_bytes g v h e;
              room = y ∙ needs;
              long = x;
            }

        pub call-running : {next₁ : List ℕ} → next₁ ≡ s ++ drop (length s) next → RunningCycles s n W stim wi wo count next₁ out
        call-running {next₁} c =
            record {
              over = record {
                sized = g.sized;
                type = t;
                accepted = v;
                table = g.table;
                whole = Cycles.held-stimulus g v h e;
                fitting = Cycles.held_bytes g v h e;
                takes = (m.leaves_of t v).0;
                gives = (m.leaves_of t v).1;
                counted = Cycles.cycles-done g v h e;
              };
              room = y;
              start = put_whole s next next₁ (sym x) c;
            }

        pub call-done : {next₂ out₂ : List ℕ} → RanCycles s stim next₂ out₂ → RunAnswered s stim out next (Done count) out₂ next₂
        unfolding final_out final_next
        call-done r =
            let d = answer-done well-formed in
            record {
              answer_is = ap Done (Cycles.cycles-done g v h e) ∙ sym d;
              out_is = r.outputs ∙ rw d refl;
              next_is = r.next ∙ rw d refl;
            }

-- in one number
pub call-runs : {s stim out next : List ℕ} {a : Answer} {result : ℕ} {out' next' : List ℕ} → ((i : ℕ) → Fits w8 (get_or s i 0))
    → RunAnswered s stim out next a out' next' → result ≡ packed a → Ran s stim out next result out' next'
call-runs {s} {stim} {out} {next} {a} {result} {out'} {next'} b r q =
    let g : RunGiven s stim out next result out' next' =
    record { result_is = q ∙ ap packed r.answer_is; out_is = r.out_is; next_is = r.next_is } in
    record {
      gives = g;
      bytes = λ i. let f = b i in omega arith;
      afterwards = λ t h. gives-afterwards g h;
      by_rules = λ t h. call_by_rules s stim out next t result out' next' g h;
    }
