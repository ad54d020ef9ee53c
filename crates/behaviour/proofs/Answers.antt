-- What every call promises, of the run. And what a call gives in each case, from what is found there.
-- Assumes nothing.
use Prim.Native.Nat.{ℕ, ◌*◌, ◌≤◌}
use mathlib.Core.Bool.{false, not}
use mathlib.Core.List.{List}
use mathlib.Core.Option.{some}
use mathlib.Core.Path.{◌≡◌, refl, sym, ap, subst, ◌∙◌}
use mathlib.Core.Logic.{◌≢◌}
use native.Mathlib.Omega.{arith}
use native.Mathlib.Nat.{mul-le-mul_left}
use lib.ListN.{length}
use lib.Dec.{eqb}
use borrow.Author.Tests.{eq-eqb, ne_eqb}
use Rattle.answers.specs.Answers.{in_one, on_done, first_applying, NoneApplies, SaysOf, verdict_answer}
use Rattle.answers.specs.GivenSlices.{SmallPlaces, no_slice, one_slice}
use Rattle.answers.specs.Answers.{Answer}
use Rattle.answers.specs.Answers.{Done, Refused}
use Rattle.answers.proofs.Lowest.{lowest-some-passes}
use Rattle.answers.proofs.First.{
  when-none,
  first_says,
  first-both,
  first_then,
  none-split,
  when-some,
  same-length-by,
}
use Rattle.verdict.specs.Verdict.{sheet_checks, output_type, verdict}
use Rattle.answers.specs.Answers.{Verdict}
use Rattle.answers.specs.Answers.{Accepted}
use Rattle.answers.specs.Answers as Verdicts
use Rattle.picoella.specs.Language.{leaves}
use Rattle.records.specs.Trees.{type_at}
use Rattle.records.proofs.Types.{some-leaves}
use Rattle.accepted.proofs.Calls.{accepted-output, call-laws}
use Rattle.accepted.proofs.Laws.{verdict-first, first-accepted}
use Rattle.accepted.proofs.Small.{accepted-length, accepted-few}
use Rattle.meaning.specs.Undecided.{undecided_rule}
use Rattle.stimulus.specs.Stimulus.{input_type, input_leaves, cycle_count, end_to_end, cycles, wrong_stimulus, wrong_byte, stimulus_checks}
use Rattle.stimulus.proofs.Stimulus.{stimulus-whole}
use Rattle.behaviour.specs.Run.{
  outputs_by,
  sheet_after,
  output_needed,
  length_checks,
  run_checks,
  by_slices,
  call_checks,
  answer,
  final_out,
  final_next,
  RunGiven,
}
use Rattle.behaviour.specs.Afterwards.{WellFormed, Afterwards}
use Rattle.behaviour.specs.Promises.{RunLaws}
use Rattle.behaviour.proofs.Afterwards.{answer-done, afterwards}

-- the answer of a call is that of the first of all its checks
pub answer-first : (s stim out next : List ℕ) → answer s stim out next ≡ first_applying (call_checks s stim out next) (Done (cycle_count s stim))
unfolding answer by_slices
answer-first s stim out next =
    let rest : ℕ → Answer = λ t. first_applying (run_checks s t stim out next) (Done (cycle_count s stim)) in
    ap (λ (a : Answer). on_done a rest) (verdict-first s)
    ∙ sym (first_then (sheet_checks s) (output_type s) rest)
    ∙ sym (first-both (sheet_checks s) (run_checks s (output_type s) stim out next) (Done (cycle_count s stim)))

-- and depends on the slices' lengths alone
pub answer-by-lengths : (s stim out out₂ next next₂ : List ℕ) → length out ≡ length out₂ → length next ≡ length next₂
    → answer s stim out next ≡ answer s stim out₂ next₂
unfolding answer by_slices
answer-by-lengths s stim out out₂ next next₂ e f = rw (e, f) refl

-- where none applies the call is well formed
well-formed-where : (s stim out next : List ℕ) → NoneApplies (call_checks s stim out next) → WellFormed s stim out next (output_type s)
well-formed-where s stim out next h =
    let p = none-split (sheet_checks s) (run_checks s (output_type s) stim out next) h in
    record {
      accepted = first-accepted s p.0;
      whole = when-none (wrong_stimulus s stim) 0 p.1.0;
      fitting = p.1.1.0;
      room = same-length-by (length out) (output_needed s (output_type s) stim) (output_needed s (output_type s) stim) p.1.1.1.0;
      long = same-length-by (length next) (length s) (length s) p.1.1.1.1.0;
    }

-- and where it is well formed none applies
formed-none : (s stim out next : List ℕ) (t : ℕ) → WellFormed s stim out next t → NoneApplies (call_checks s stim out next)
formed-none s stim out next t h =
    (subst (λ (a : Answer). SaysOf (call_checks s stim out next) (cycle_count s stim) a) (sym (answer-first s stim out next) ∙ answer-done h)
    (first_says (call_checks s stim out next) (cycle_count s stim))).0

-- the place of each check is small
slices-small : (s : List ℕ) (t : ℕ) (stim out next : List ℕ) → verdict s ≡ Accepted t → SmallPlaces (run_checks s t stim out next) (cycle_count s stim)
slices-small s t stim out next v = (
  λ p e. let z = when-some (wrong_stimulus s stim) 0 p e in omega arith,
  λ e. let whole = stimulus-whole s stim (when-none (wrong_stimulus s stim) 0 e) in
      let few = cycles-few s t stim v (when-none (wrong_stimulus s stim) 0 e) in
      let needed = output_needed s t stim in (
        λ i f. let l = (lowest-some-passes (wrong_byte s stim) (length stim) i f).0 in let w = whole.0 in omega arith,
        λ f. (
          λ p h. let z = when-some (not (eqb (length out) needed)) needed p h in omega arith,
          λ h. (
            λ p k. let z = when-some (not (eqb (length next) (length s))) (length s) p k in let l = accepted-length s v in omega arith,
            λ k. omega arith,
          ),
        ),
      ),
)
  where
    cycles-few : (s : List ℕ) (t : ℕ) (stim : List ℕ) → verdict s ≡ Accepted t → wrong_stimulus s stim ≡ false
        → (cycle_count s stim ≤ 65535) × (output_needed s t stim ≤ 4194240)
    cycles-few s t stim v whole =
        let h = stimulus-whole s stim whole in
        let some = some-leaves (input_type s) in
        let m : cycle_count s stim * 1 ≤ cycle_count s stim * input_leaves s = mul-le-mul_left (cycle_count s stim) (omega arith) in
        let few = accepted-few s v in
        let n : cycle_count s stim * leaves (type_at s t) ≤ cycle_count s stim * 64 = mul-le-mul_left (cycle_count s stim) few in
        let e = h.1 in
        let f = h.0 in
        (omega arith, omega arith)

pub run_laws : RunLaws
unfolding final_out final_next
run_laws s stim out next =
    call-laws s (run_checks s (output_type s) stim out next)
    (λ h. (output_type s, well-formed-where s stim out next h), λ h. formed-none s stim out next h.0 h.1) refl
    (answer-first s stim out next)
    (λ t v. rw (accepted-output s t v) at (slices-small s t stim out next v))
    (one_slice (end_to_end (outputs_by undecided_rule s (cycles s stim)))
    (one_slice (sheet_after undecided_rule s (cycles s stim)) no_slice))

-- what a call gives where it refuses
pub gives-refusal : {s stim out next : List ℕ} {c p : ℕ} → answer s stim out next ≡ Refused c p → RunGiven s stim out next (in_one c p) out next
unfolding final_out final_next
gives-refusal e = record { result_is = rw e refl; out_is = rw e refl; next_is = rw e refl }

-- and where it does not
pub gives-done : {s stim out next : List ℕ} {t : ℕ} → WellFormed s stim out next t
    → RunGiven s stim out next (cycle_count s stim) (end_to_end (outputs_by undecided_rule s (cycles s stim)))
    (sheet_after undecided_rule s (cycles s stim))
unfolding final_out final_next
gives-done h =
    let e = answer-done h in record { result_is = rw e (omega arith); out_is = rw e; next_is = rw e }

-- so that what a call gives is what demand 3 speaks of
pub gives-afterwards : {s stim out next : List ℕ} {t result : ℕ} {out' next' : List ℕ} → RunGiven s stim out next result out' next'
    → WellFormed s stim out next t → Afterwards s stim t result out' next'
gives-afterwards g h =
    rw (g.result_is, g.out_is, g.next_is) (afterwards h)

-- the answers that refuse, in their order
pub refused-by-verdict : (s stim out next : List ℕ) (c p : ℕ) → verdict_answer (verdict s) ≡ Refused c p → answer s stim out next ≡ Refused c p
unfolding answer
refused-by-verdict s stim out next c p e = rw e refl

module _ (s stim out next : List ℕ) {t : ℕ} (v : verdict s ≡ Accepted t) where
  -- by the stimulus
  pub stimulus-refused : {c p : ℕ} → first_applying (stimulus_checks s stim) (Done (cycle_count s stim)) ≡ Refused c p
      → answer s stim out next ≡ Refused c p
  unfolding answer by_slices
  stimulus-refused e =
      rw v
      (first-both (stimulus_checks s stim) (length_checks s t stim out next) (Done (cycle_count s stim))
      ∙ first_then (stimulus_checks s stim) (cycle_count s stim) (λ n. first_applying (length_checks s t stim out next) (Done n))
      ∙ ap (λ (a : Answer). on_done a (λ n. first_applying (length_checks s t stim out next) (Done n))) e)

  -- and by the slices' lengths
  module _ (e : first_applying (stimulus_checks s stim) (Done (cycle_count s stim)) ≡ Done (cycle_count s stim)) where
    by_lengths : answer s stim out next ≡ first_applying (length_checks s t stim out next) (Done (cycle_count s stim))
    unfolding answer by_slices
    by_lengths =
        rw v
        (first-both (stimulus_checks s stim) (length_checks s t stim out next) (Done (cycle_count s stim))
        ∙ first_then (stimulus_checks s stim) (cycle_count s stim) (λ n. first_applying (length_checks s t stim out next) (Done n))
        ∙ ap (λ (a : Answer). on_done a (λ n. first_applying (length_checks s t stim out next) (Done n))) e)

    pub output-refused : length out ≢ output_needed s t stim → answer s stim out next ≡ Refused 10 (output_needed s t stim)
    output-refused f = by_lengths ∙ rw (ne_eqb (length out) (output_needed s t stim) f) refl

    pub next-refused : length out ≡ output_needed s t stim → length next ≢ length s → answer s stim out next ≡ Refused 11 (length s)
    next-refused room f =
        by_lengths ∙ rw (eq-eqb (length out) (output_needed s t stim) room, ne_eqb (length next) (length s) f) refl
