-- The promises of the call: what every call promises; each expression
-- record is reached once, and at each IF the word is what its chain tells there. And the call's ways out: what the check's answer and
-- that of the stimulus say of it, and that the words told are the first of the evaluation's table.
-- Assumes nothing.
use Prim.Native.Nat.{ℕ, ◌-◌, ◌≤◌}
use mathlib.Core.List.{List, [], ◌∷◌, ◌++◌}
use mathlib.Core.Logic.{◌≢◌}
use mathlib.Core.Path.{◌≡◌, refl, sym, ◌∙◌}
use native.Mathlib.Omega.{arith}
use lib.ListN.{length, get_or, take, replicate}
use lib.Seq.{length-take-le}
use Rattle.records.specs.Words.{count, word_b}
use Rattle.records.proofs.Asked.{past-header}
use Rattle.answers.specs.Answers.{check, when}
use Rattle.answers.specs.Answers.{Answer}
use Rattle.answers.specs.Answers.{Done, Refused}
use Rattle.answers.specs.GivenSlices.{no_slice, one_slice}
use Rattle.verdict.specs.Verdict.{verdict}
use Rattle.verdict.specs.Scopes.{inputs}
use Rattle.std.specs.Prelude.{Result, Ok, Err, IsErrAnd}
use Rattle.answers.specs.Results.{refusal_of, answer_of, verdict_of}
use Rattle.answers.specs.declared.Refusal.{Refusal}
use Rattle.answers.specs.declared.Fault.{Fault}
use mathlib.Core.Bool.{not}
use lib.Dec.{eqb}
use Rattle.stimulus.specs.OneCycle.{one_cycle_checks}
use Rattle.accepted.proofs.Calls.{sheet-fault}
use Rattle.answers.specs.Answers.{Accepted}
use Rattle.accepted.specs.Accepting.{Accepting}
use Rattle.accepted.proofs.Laws.{written}
use Rattle.accepted.proofs.Scopes.{scope-checked}
use Rattle.accepted.proofs.Small.{accepted-passes, accepted-length, accepted-records}
use Rattle.meaning.specs.Undecided.{undecided_rule}
use Rattle.stimulus.specs.Holding.{HeldToOne}
use Rattle.stimulus.proofs.OneCycle.{one-cycle-passes, one-cycle-typed}
use Rattle.stimulus.proofs.OneCycleCalls.{
  one-cycle-laws,
  one-cycle-done,
  one-cycle-input,
  one-cycle-length,
  one-cycle-good,
}
use Rattle.behaviour.specs.Firing.{fired}
use Rattle.behaviour.specs.Midway.{fired_at}
use Rattle.behaviour.proofs.Reaching.{evaluates-scope, evaluated-once}
use Rattle.behaviour.proofs.FiredWords.{fired-words, fired-first}
use Rattle.behaviour.proofs.FirstYes.{tells_first}
use Rattle.stepper.specs.Cycling.{Cycling}
use Rattle.stepper.proofs.CallCycles.{output-width, output-few}
use Rattle.fired.specs.Telling.{fired_answer, final_fired}
use Rattle.fired.specs.TellingCycle.{TellingFired, FiredAnswered}
use Rattle.fired.specs.Promises.{
  FiredLaws,
  ReachedOnce,
  ReachedExpressions,
  FiredIn,
  FirstYesTells,
}

-- an accepted sheet has at most 4,096 records
records-few : (s : List ℕ) (t : ℕ) → verdict s ≡ Accepted t → count s ≤ 4096
records-few s t v = let l = accepted-length s v in let w = accepted-records s v in omega arith

pub fired_laws : FiredLaws
unfolding fired_answer final_fired
fired_laws s stim words =
    one-cycle-laws 16 (count s) s stim words refl (omega arith) (λ t v. let f = records-few s t v in omega arith) (one_slice (fired s stim) no_slice)

pub reached_once : ReachedOnce
reached_once s t v input r h e = evaluated-once input (accepted-passes v) r h e

pub reached_expressions : ReachedExpressions
reached_expressions s t v input r Γ ρ c =
    let o = scope-checked t (accepted-passes v) v (evaluates-scope c) in (o.there, o.sort)

pub fired_in : FiredIn
unfolding final_fired
fired_in s stim words e =
    let f = (((fired_laws s stim words).lowest_first (Done 0)).0 e).0 in
    (rw e (fired-words s _ f.accepted stim).one_a_record, rw e refl)

pub first_yes_tells : FirstYesTells
first_yes_tells s t v d h e x =
    let w = written (accepted-passes v) in tells_first w d (past-header w d (rw e)) h e x

-- a call that is refused
told-refusal : (s stim words : List ℕ) (c p : ℕ) → Refused c p ≡ fired_answer s stim words → FiredAnswered s stim words (Refused c p) words
unfolding final_fired
told-refusal s stim words c p e = record { answer_is = e; words_is = rw (← e) refl }

-- 1 to 7
pub told-sheet : (s stim words : List ℕ) (r : Result ℕ Refusal) (f : Fault) → IsErrAnd r (λ e. e ≡ refusal_of f)
    → verdict_of (Err f) ≡ verdict s → FiredAnswered s stim words (answer_of r) words
unfolding fired_answer
told-sheet s stim words (Ok x) f p q = absurd p
told-sheet s stim words (Err x) f p q =
    told-refusal s stim words _ _
    (sheet-fault s (one_cycle_checks s stim ++ (check 16 (when (not (eqb (length words) (count s))) (count s)) ∷ [])) (Done 0) (Err x) f p q)

module _ {s : List ℕ} {n : ℕ} {W : List ℕ} {t : ℕ} (g : Accepting s n W) (v : verdict s ≡ Accepted t) where
  module _ (stim words : List ℕ) (a : Answer) (h : HeldToOne s stim a) where
    -- 8 and 9
    pub told-input : (c p : ℕ) → a ≡ Refused c p → FiredAnswered s stim words a words
    unfolding fired_answer
    told-input c p e = rw e (told-refusal s stim words c p (sym (one-cycle-input 16 (count s) words v h c p e)))

    module _ (k : ℕ) (e : a ≡ Done k) where
      -- 16
      pub told-length : (m : ℕ) → m ≡ count s → length words ≢ m → FiredAnswered s stim words (Refused 16 m) words
      unfolding fired_answer
      told-length m same d =
          rw same
          (told-refusal s stim words 16 (count s)
          (sym (one-cycle-length 16 (count s) words v h k e (λ y. d (y ∙ sym same)))))

      module _ (y : length words ≡ count s) where
        pub telling : TellingFired s n W t stim words
        telling =
            record {
              accepting = g;
              accepted = v;
              typed = one-cycle-typed s stim (one-cycle-passes s stim h e);
              room = y;
            }

        pub told-done : (words' : List ℕ) → words' ≡ fired s stim → FiredAnswered s stim words (Done 0) words'
        unfolding final_fired fired_answer
        told-done words' o =
            let f = one-cycle-good {lent = words} v h k e y in
            let d : fired_answer s stim words ≡ Done 0 = one-cycle-done 16 f in
            record { answer_is = sym d; words_is = rw (o, d) refl }

-- the cycle whose words are told begins from the sheet that was checked
module _ {s : List ℕ} {n : ℕ} {W : List ℕ} {t : ℕ} {input words : List ℕ} (g : TellingFired s n W t input words) where
  pub words-few : length words ≤ 4096
  words-few = let f = records-few s t g.accepted in let r = g.room in omega arith

  pub told-cycling : (env held out : List ℕ) → length env ≡ 4096 → length held ≡ 4096 → length out ≡ get_or W t 0
      → Cycling s n W env held input s out
  told-cycling env held out wide long room =
      record {
        sized = g.accepting.sized;
        type = t;
        accepted = g.accepted;
        table = g.accepting.table;
        leaves_alone = record { length = refl; others = λ r f k h. refl; leaves = λ r k h f. refl; unlabelled = λ r f. refl };
        again = g.accepted;
        wide = wide;
        long = long;
        typed = g.typed;
        room = room ∙ output-width g.accepting g.accepted;
      }

  -- the words are the first of the table that the evaluation leaves
  pub told-words : (before table words' : List ℕ) → before ≡ replicate 4096 0
      → table ≡ fired_at undecided_rule s (inputs s) (input ∷ []) (word_b s 0) before → words' ≡ take (length words) table
      → words' ≡ fired s input
  told-words before table words' z f e =
      e ∙ rw (f, z, g.room) (fired-first s input 4096 (records-few s t g.accepted))

  -- the room lent for the cycle
  pub told-looking : (names held output : List ℕ) → length names ≡ 4096 → length held ≡ 4096 → length output ≡ 64
      → Cycling s n W names held input s (take (get_or W t 0 - 0) output)
  told-looking names held output wide long room =
      let f = output-few g.accepting g.accepted in
      told-cycling names held (take (get_or W t 0 - 0) output) wide long
      (length-take-le (get_or W t 0 - 0) output (omega arith) ∙ omega arith)
