-- The answer of a replay: that of a run whose output slice is as long as the record, with 17 where
-- the run says 10. And what each way out of the call gives.
-- Assumes nothing.
use Prim.Native.Nat.{ℕ, ◌*◌, ◌<◌, ◌^◌}
use mathlib.Core.List.{List, [], ◌∷◌, map}
use mathlib.Core.Option.{Option, none, some}
use mathlib.Core.Path.{◌≡◌, refl, sym, ap, subst, ◌∙◌}
use native.Mathlib.Omega.{arith}
use lib.ListN.{length, get_or}
use lib.Dec.{eqb}
use Rattle.records.specs.Words.{word}
use Rattle.answers.specs.Answers.{place, packed, Check, check, first_applying, NoneApplies, or_refused, SaysOf, when, when_done, lowest}
use Rattle.answers.specs.Answers.{Answer}
use Rattle.answers.specs.Answers.{Done, Refused}
use Rattle.answers.specs.GivenSlices.{no_slice, one_slice}
use Rattle.answers.proofs.First.{first_says, none-split, when-none, same-length-by}
use Rattle.answers.proofs.StandardLaws.{standard-laws}
use Rattle.verdict.specs.Verdict.{sheet_checks, output_type, verdict}
use Rattle.std.specs.Prelude.{Result, Ok, Err, IsErrAnd}
use Rattle.answers.specs.Results.{code_number, refusal_of, answer_of, verdict_of}
use Rattle.answers.specs.declared.Code.TheVariants.{WrongRecordedLength, WrongNextLength}
use Rattle.answers.specs.declared.Refusal.{Refusal}
use Rattle.answers.specs.declared.Fault.{Fault}
use Rattle.replay.specs.declared.Difference.{Difference}
use Rattle.replay.specs.Findings.{found_of, answer_replayed, finding_told, ReplayAnswered}
use Rattle.accepted.proofs.Calls.{sheet-fault}
use Rattle.answers.specs.Answers.{Accepted}
use Rattle.accepted.specs.Accepting.{Accepting}
use Rattle.accepted.proofs.Laws.{first-accepted}
use Rattle.meaning.specs.Undecided.{undecided_rule}
use Rattle.stimulus.specs.Stimulus.{cycle_count, cycles, wrong_stimulus, wrong_byte, stimulus_checks}
use Rattle.stimulus.specs.Holding.{Held}
use Rattle.behaviour.specs.Run.{output_needed, call_checks, sheet_after, answer}
use Rattle.behaviour.specs.Afterwards.{WellFormed}
use Rattle.behaviour.proofs.Afterwards.{answer-done}
use Rattle.behaviour.proofs.Answers.{answer-first, answer-by-lengths, run_laws, stimulus-refused, output-refused, next-refused}
use Rattle.stepper.proofs.CallCycles as Cycles
use Rattle.replay.specs.Replay.{
  finding,
  record_checks,
  replay_checks,
  replay_answer,
  differs_given,
  cycle_given,
  leaf_given,
  when_agreed,
  final_replay,
  ReplayGiven,
  Finding,
}
use Rattle.replay.specs.Replaying.{ReplayingInto, ReplayedInto}
use Rattle.replay.specs.Promises.{
  FormedReplay,
  ReplayLaws,
  code_for10,
  as_replay,
  ReplayAsRun,
  DifferingUnaltered,
}

-- the same checks under other codes
recoded : Check → Check
recoded k = check (code_for10 (eqb k.number 10) k.number) k.found

first-recoded : (ks : List Check) (n : ℕ) → first_applying (map recoded ks) (Done 0) ≡ as_replay (first_applying ks (Done n))
unfolding recoded
first-recoded [] n = refl
first-recoded (k ∷ ks) n = go k.found (first-recoded ks n)
  where
    go : (o : Option ℕ) → first_applying (map recoded ks) (Done 0) ≡ as_replay (first_applying ks (Done n))
        → or_refused (code_for10 (eqb k.number 10) k.number) o (first_applying (map recoded ks) (Done 0))
        ≡ as_replay (or_refused k.number o (first_applying ks (Done n)))
    go none e = e
    go (some p) e = refl

checks-recoded : (s stim recorded next : List ℕ) → replay_checks s stim recorded next ≡ map recoded (call_checks s stim recorded next)
unfolding recoded
checks-recoded s stim recorded next = refl

answer-as-run : (s stim recorded next : List ℕ) → replay_answer s stim recorded next ≡ as_replay (answer s stim recorded next)
unfolding replay_answer
answer-as-run s stim recorded next =
    ap (λ (ks : List Check). first_applying ks (Done 0)) (checks-recoded s stim recorded next)
    ∙ first-recoded (call_checks s stim recorded next) (cycle_count s stim)
    ∙ ap as_replay (sym (answer-first s stim recorded next))

pub replay-as-run : ReplayAsRun
replay-as-run s stim recorded out next e = answer-as-run s stim recorded next ∙ ap as_replay (answer-by-lengths s stim recorded out next next (sym e) refl)

-- a refusal and what is given with it
module _ (s stim recorded next : List ℕ) where
  refusal-gives : (e : Refusal) → as_replay (answer s stim recorded next) ≡ Refused (code_number e.code) e.place → ReplayAnswered s stim recorded next (Err e) next
  unfolding final_replay
  refusal-gives e q =
      let a : replay_answer s stim recorded next ≡ Refused (code_number e.code) e.place = answer-as-run s stim recorded next ∙ q in
      record { answer_is = sym a; finding_is = tt; next_is = rw a refl }

-- the numbers of a call from its answer
pub replay-numbers : (s stim recorded next : List ℕ) (r : Result (Result ℕ Difference) Refusal) (next' : List ℕ) → ReplayAnswered s stim recorded next r next'
    → {result differs cycle leaf : ℕ} → (f : Finding) → finding_told r f → result ≡ packed (answer_replayed r) → differs ≡ differs_given (answer_replayed r) f
    → cycle ≡ cycle_given (answer_replayed r) f → leaf ≡ leaf_given (answer_replayed r) f
    → ReplayGiven s stim recorded next result differs cycle leaf next'
replay-numbers s stim recorded next (Ok told) next' a f h q x y z =
    let same : f ≡ finding s stim recorded = sym h ∙ a.finding_is in
    record {
      result_is = q ∙ ap packed a.answer_is;
      differs_is = x ∙ ap (differs_given (Done 0)) same ∙ ap (λ (b : Answer). differs_given b (finding s stim recorded)) a.answer_is;
      cycle_is = y ∙ ap (cycle_given (Done 0)) same ∙ ap (λ (b : Answer). cycle_given b (finding s stim recorded)) a.answer_is;
      leaf_is = z ∙ ap (leaf_given (Done 0)) same ∙ ap (λ (b : Answer). leaf_given b (finding s stim recorded)) a.answer_is;
      next_is = a.next_is;
    }
replay-numbers s stim recorded next (Err e) next' a f h q x y z =
    record {
      result_is = q ∙ ap packed a.answer_is;
      differs_is = rw (← a.answer_is) x;
      cycle_is = rw (← a.answer_is) y;
      leaf_is = rw (← a.answer_is) z;
      next_is = a.next_is;
    }

-- the stimulus is refused by 8 or 9
stimulus-code : (s stim : List ℕ) (c p : ℕ) → first_applying (stimulus_checks s stim) (Done (cycle_count s stim)) ≡ Refused c p
    → code_for10 (eqb c 10) c ≡ c
stimulus-code s stim c p = go (when (wrong_stimulus s stim) 0) (lowest (wrong_byte s stim) (length stim))
  where
    go : (o q : Option ℕ) → or_refused 8 o (or_refused 9 q (Done (cycle_count s stim))) ≡ Refused c p → code_for10 (eqb c 10) c ≡ c
    go (some i) q e = let z : 8 ≡ c = cc in rw (← z) refl
    go none (some i) e = let z : 9 ≡ c = cc in rw (← z) refl
    go none none e = let z : ◌≡◌ {A = ℕ} 0 1 = cc in absurd (omega arith)

-- 1 to 7
pub replay-refused-sheet : (s stim recorded next : List ℕ) (r : Result (Result ℕ Difference) Refusal) (f : Fault) → IsErrAnd r (λ e. e ≡ refusal_of f)
    → verdict_of (Err f) ≡ verdict s → ReplayAnswered s stim recorded next r next
unfolding replay_answer final_replay
replay-refused-sheet s stim recorded next (Ok x) f p q = absurd p
replay-refused-sheet s stim recorded next (Err x) f p q =
    let a : Refused (code_number x.code) x.place ≡ replay_answer s stim recorded next = sheet-fault s (record_checks s stim recorded next) (Done 0) (Err x) f p q in
    record { answer_is = a; finding_is = tt; next_is = rw (← a) refl }

module _ {s : List ℕ} {n : ℕ} {W : List ℕ} {t : ℕ} (g : Accepting s n W) (v : verdict s ≡ Accepted t) (stim recorded next : List ℕ) {a : Answer}
    (h : Held s stim a)
  where
    -- 8 and 9
    pub replay-refused-stimulus : (r : Result (Result ℕ Difference) Refusal) (e : Refusal) → IsErrAnd r (λ x. x ≡ e) → a ≡ answer_of (Err e)
        → ReplayAnswered s stim recorded next r next
    replay-refused-stimulus (Ok x) e p q = absurd p
    replay-refused-stimulus (Err x) e p q =
        let f = sym h.answered ∙ q in
        rw p (refusal-gives s stim recorded next e (rw (stimulus-refused s stim recorded next v f) (rw (stimulus-code s stim _ _ f) refl)))

    module _ {count : ℕ} (e : a ≡ Done count) where
      needs : count * get_or W t 0 ≡ output_needed s t stim
      needs = Cycles.needed g v h e

      done : first_applying (stimulus_checks s stim) (Done (cycle_count s stim)) ≡ Done (cycle_count s stim)
      done = Cycles.stimulus-done g v h e

      -- 17 and 11
      pub replay-refused-record : (length recorded ≡ count * get_or W t 0 → ⊥)
          → ReplayAnswered s stim recorded next (Err (record { code = WrongRecordedLength; place = count * get_or W t 0 })) next
      replay-refused-record d =
          refusal-gives s stim recorded next _
          (rw (output-refused s stim recorded next v done (λ y. d (y ∙ sym needs))) (ap (Refused 17) (sym needs)))

      module _ (y : length recorded ≡ count * get_or W t 0) where
        pub replay-refused-next : (length next ≡ length s → ⊥)
            → ReplayAnswered s stim recorded next (Err (record { code = WrongNextLength; place = length s })) next
        replay-refused-next d =
            refusal-gives s stim recorded next _ (rw (next-refused s stim recorded next v done (y ∙ needs) d) refl)

        module _ (x : length next ≡ length s) where
          pub replaying-into : {b : ℕ} → b ≡ word s 0 2 → ReplayingInto s n W stim recorded (get_or W b 0) (get_or W t 0) count next
          replaying-into eb = record { over = Cycles.whole-cycles g v h e eb; recorded_long = y; long = x }

          answered : replay_answer s stim recorded next ≡ Done 0
          answered =
              answer-as-run s stim recorded next
              ∙ ap as_replay
              (answer-done
              (record {
                accepted = v;
                whole = Cycles.held-stimulus g v h e;
                fitting = Cycles.held_bytes g v h e;
                room = y ∙ needs;
                long = x;
              }))

          pub replay-found : {next' : List ℕ} (told : Result ℕ Difference) → ReplayedInto s stim recorded next next' (found_of told)
              → ReplayAnswered s stim recorded next (Ok told) next'
          unfolding final_replay
          replay-found told r = record { answer_is = sym answered; finding_is = r.compared; next_is = r.next_is ∙ rw answered refl }

-- where no check applies the call is formed
formed_where : (s stim recorded next : List ℕ) → NoneApplies (replay_checks s stim recorded next) → FormedReplay s stim recorded next
formed_where s stim recorded next h =
    let p = none-split (sheet_checks s) (record_checks s stim recorded next) h in
    record {
      accepted = first-accepted s p.0;
      whole = when-none (wrong_stimulus s stim) 0 p.1.0;
      fitting = p.1.1.0;
      recorded_long =
          same-length-by (length recorded) (output_needed s (output_type s) stim) (output_needed s (output_type s) stim) p.1.1.1.0;
      next_long = same-length-by (length next) (length s) (length s) p.1.1.1.1.0;
    }

pub formed-run : {s stim recorded next : List ℕ} → FormedReplay s stim recorded next → WellFormed s stim recorded next (output_type s)
formed-run h =
    record { accepted = h.accepted; whole = h.whole; fitting = h.fitting; room = h.recorded_long; long = h.next_long }

pub formed-answer : (s stim recorded next : List ℕ) → FormedReplay s stim recorded next → replay_answer s stim recorded next ≡ Done 0
formed-answer s stim recorded next h = answer-as-run s stim recorded next ∙ ap as_replay (answer-done (formed-run h))

-- and where it is formed none applies
formed-none : (s stim recorded next : List ℕ) → FormedReplay s stim recorded next → NoneApplies (replay_checks s stim recorded next)
unfolding replay_answer
formed-none s stim recorded next h =
    (subst (λ (a : Answer). SaysOf (replay_checks s stim recorded next) 0 a) (formed-answer s stim recorded next h)
    (first_says (replay_checks s stim recorded next) 0)).0

pub replay_laws : ReplayLaws
unfolding replay_answer final_replay
replay_laws s stim recorded next =
    standard-laws (formed_where s stim recorded next, formed-none s stim recorded next) refl refl
    (rw (answer-as-run s stim recorded next) (go (answer s stim recorded next) (run_laws s stim recorded next).place_small))
    (one_slice (when_agreed (finding s stim recorded) (sheet_after undecided_rule s (cycles s stim)) next) no_slice)
  where
    go : (a : Answer) → place a < 2 ^ 32 → place (as_replay a) < 2 ^ 32
    go (Done n) h = omega arith
    go (Refused c p) h = h

-- a result of 0 is that of a call that is done
pub replay-done : {s stim recorded next : List ℕ} {result differs cycle leaf : ℕ} {next' : List ℕ}
    → ReplayGiven s stim recorded next result differs cycle leaf next' → result ≡ 0 → replay_answer s stim recorded next ≡ Done 0
replay-done {s} {stim} {recorded} {next} {result} r z = go (replay_answer s stim recorded next) refl
  where
    go : (a : Answer) → replay_answer s stim recorded next ≡ a → a ≡ Done 0
    go (Done q) e = ap Done (((replay_laws s stim recorded next).lowest_first (Done q)).0 e).1
    go (Refused k q) e =
        let some = (replay_laws s stim recorded next).refusal_coded k q e in
        let x : result ≡ packed (Refused k q) = r.result_is ∙ ap packed e in
        absurd (omega arith)

pub differing_unaltered : DifferingUnaltered
unfolding final_replay
differing_unaltered s stim recorded next k l e = rw e (go (replay_answer s stim recorded next))
  where
    go : (a : Answer) → when_done a next next ≡ next
    go (Done p) = refl
    go (Refused c p) = refl
