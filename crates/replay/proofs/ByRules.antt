-- An agreeing record is a run of 000's rules, and what is a run of those rules agrees.
-- Assumes nothing.
use Prim.Native.Nat.{ℕ}
use mathlib.Core.List.{List, map}
use mathlib.Core.Path.{◌≡◌, refl, sym, ap, ◌∙◌}
use native.Mathlib.Omega.{arith}
use lib.ListN.{length}
use Rattle.picoella.specs.Language.{leaves}
use Rattle.answers.specs.Answers.{packed}
use Rattle.answers.specs.Answers.{Done}
use Rattle.verdict.specs.Verdict.{output_type}
use Rattle.meaning.specs.Constants.{flatten}
use Rattle.meaning.specs.Undecided.{undecided_rule}
use Rattle.stimulus.specs.Stimulus.{input_type, cycle_count, pieces, end_to_end, cycles}
use Rattle.behaviour.specs.Run.{outputs_by, answer, RunGiven, RunsByRules}
use Rattle.behaviour.proofs.Reduces.{run_reduces}
use Rattle.behaviour.proofs.ByRules.{pieces-back, call_by_rules}
use Rattle.replay.specs.Replay.{Finding}
use Rattle.replay.specs.Replay.{Agrees, Differs}
use Rattle.replay.specs.Replay.{finding, differs_given, final_replay}
use Rattle.replay.specs.Promises.{FormedReplay, AgreesByRules}
use Rattle.replay.proofs.Answered.{formed-run, formed-answer, replay_laws, replay-done}
use Rattle.replay.proofs.Found.{says-agrees}
use Rattle.replay.proofs.OfRuns.{next_as_run}

module _ (s stim recorded next : List ℕ) (h : FormedReplay s stim recorded next) where
  rules-hold : (n : ℕ) → finding s stim recorded ≡ Agrees n → RunsByRules s stim (output_type s) recorded (final_replay s stim recorded next)
  rules-hold n e =
      let same = next_as_run s stim recorded recorded next n refl (formed-answer s stim recorded next h) e in
      let given : RunGiven s stim recorded next (packed (answer s stim recorded next)) recorded (final_replay s stim recorded next) =
      record { result_is = refl; out_is = same.1; next_is = same.0 } in
      call_by_rules s stim recorded next (output_type s) _ recorded (final_replay s stim recorded next) given (formed-run h)

  agrees-so : {next' : List ℕ} → RunsByRules s stim (output_type s) recorded next' → finding s stim recorded ≡ Agrees (cycle_count s stim)
  unfolding cycles
  agrees-so r =
      let cut : cycles s stim ≡ map flatten r.inputs =
      rw (← r.one_each) (ap (pieces (leaves (input_type s)) (length r.inputs)) r.stimulus_is ∙ pieces-back r.inputs_typed) in
      let outs = ((run_reduces s (output_type s) h.accepted r.expression r.expression_after r.decoded r.inputs r.outputs r.inputs_typed).0 r.reduces).1 in
      says-agrees h (r.out_is ∙ ap end_to_end (outs ∙ ap (outputs_by undecided_rule s) (sym cut)))

-- a finding by whose number nothing differs
none-differs : (f : Finding) → 0 ≡ differs_given (Done 0) f → (n : ℕ) × (f ≡ Agrees n)
none-differs (Agrees n) e = (n, refl)
none-differs (Differs k l) e = absurd (omega arith)

pub agrees_by_rules : AgreesByRules
agrees_by_rules s stim recorded next result differs cycle leaf next' r z =
    let a = replay-done r z in
    let h = (((replay_laws s stim recorded next).lowest_first (Done 0)).0 a).0 in
    let e : differs ≡ differs_given (Done 0) (finding s stim recorded) = r.differs_is ∙ rw a refl in (
      λ d. let f = none-differs (finding s stim recorded) (sym d ∙ e) in
          rw r.next_is (rules-hold s stim recorded next h f.0 f.1),
      λ after q. e ∙ rw (agrees-so s stim recorded next h q) refl,
    )
