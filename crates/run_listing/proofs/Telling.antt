-- What is told: the run's answer with the slices that the code lends is the one with slices of the right lengths, and what is told
-- gives the text of the answer.
-- Assumes nothing.
use Prim.Native.Nat.{ℕ, zero, suc, ◌≤◌, ◌<◌}
use mathlib.Core.Path.{◌≡◌, refl, sym, ap, subst, ◌∙◌}
use mathlib.Core.Bool.{true}
use mathlib.Core.List.{List, ◌++◌}
use native.Mathlib.Omega.{arith}
use native.Mathlib.Decide.{dec_lt}
use lib.ListN.{length, take, drop, replicate, length-append, length-replicate}
use lib.Seq.{take_at, length-take-le}
use borrow.Author.Tests.{lt-ltb}
use Rattle.picoella.specs.Language.{leaves}
use Rattle.records.specs.Trees.{type_at}
use Rattle.records.proofs.Types.{some-leaves}
use Rattle.answers.specs.Answers.{code, place, verdict_answer, first_applying, SaysOf}
use Rattle.answers.specs.Answers.{Answer}
use Rattle.answers.specs.Answers.{Done, Refused}
use Rattle.answers.proofs.First.{first_says}
use Rattle.verdict.specs.Verdict.{sheet_checks, output_type, verdict}
use Rattle.answers.specs.Answers.{Accepted}
use Rattle.accepted.proofs.Laws.{verdict-first, first-accepted}
use Rattle.accepted.proofs.Small.{accepted-few}
use Rattle.stimulus.specs.Stimulus.{input_type, wrong_stimulus, stimulus_checks, cycle_count}
use Rattle.behaviour.specs.Run.{output_needed, answer, final_out, final_next}
use Rattle.behaviour.specs.Afterwards.{WellFormed}
use Rattle.behaviour.proofs.Answers.{run_laws, answer-by-lengths, refused-by-verdict, stimulus-refused}
use Rattle.std.specs.Prelude.{Result, Ok, Err, IsErrAnd}
use Rattle.answers.specs.declared.Code.{Code}
use Rattle.answers.specs.declared.Code.TheVariants as Coded
use Rattle.listing.specs.Lines.{refused_line}
use Rattle.answers.specs.Results.{code_number, refusal_of, answer_of, verdict_of}
use Rattle.answers.specs.declared.Refusal.{Refusal}
use Rattle.answers.specs.declared.Fault.{Fault}
use Rattle.simulator.specs.Running.{RunAnswered, Measured}
use Rattle.simulator.proofs.Calls.{refused-sheet}
use Rattle.printing.specs.Pieces.{told_text}
use Rattle.run_listing.specs.Printout.{output_record, run_answer, run_outputs, run_sheet, printed, RunTold}
use Rattle.run_listing.specs.declared.Listed.{Listed}
use Rattle.run_listing.specs.Telling.{told_code, told_place, told_type, told_width, told_length}
use Rattle.run_listing.specs.Lengths.{OutputsMeasured}

over-long : (s stim : List ℕ) → 65535 < length stim → wrong_stimulus s stim ≡ true
unfolding wrong_stimulus
over-long s stim h = rw (lt-ltb 65535 (length stim) h) refl

over-refused : (s stim : List ℕ) → 65535 < length stim → first_applying (stimulus_checks s stim) (Done (cycle_count s stim)) ≡ Refused 8 0
over-refused s stim h = rw (over-long s stim h) refl

refused-code : (s stim out next : List ℕ) (c p : ℕ) → answer s stim out next ≡ Refused c p → 0 < c
refused-code s stim out next c p e = (run_laws s stim out next).refusal_coded c p e

-- of a run that is refused, the code and the place, and no outputs
refusal-told : (s stim : List ℕ) {c p : ℕ} → run_answer s stim ≡ Refused c p → 0 < c → (out next : List ℕ) → RunTold s stim c p 0 1 0 out next
refusal-told s stim {c} {p} e h out next =
    let never : c ≡ 0 → ⊥ = λ z. omega arith in
    record {
      coded = sym (ap code e);
      placed = sym (ap place e);
      typed = λ z. absurd (never z);
      wide = λ z. absurd (never z);
      outputs = λ z. absurd (never z);
      inside = omega arith;
      some = omega arith;
      few = omega arith;
      next = λ z. absurd (never z);
    }

module _ (s stim : List ℕ) (i o t many : ℕ) (m : Measured s i o t) (q : OutputsMeasured i o (length stim) many) (lo ln : List ℕ) (eo : length lo ≡ many) (en : length ln ≡ length s) where
  -- by the verdict and the stimulus' length
  same-refused : (c p : ℕ) → verdict_answer (verdict s) ≡ Refused c p → answer s stim lo ln ≡ run_answer s stim
  unfolding run_answer
  same-refused c p e =
      refused-by-verdict s stim lo ln c p e
      ∙ sym (refused-by-verdict s stim (replicate (output_needed s (output_record s) stim) 0) (replicate (length s) 0) c p e)

  module _ (u : ℕ) (v : verdict s ≡ Accepted u) where
    over-same : 65535 < length stim → answer s stim lo ln ≡ run_answer s stim
    unfolding run_answer
    over-same h =
        stimulus-refused s stim lo ln v (over-refused s stim h)
        ∙ sym (stimulus-refused s stim (replicate (output_needed s (output_record s) stim) 0) (replicate (length s) 0) v (over-refused s stim h))

    needed : length stim ≤ 65535 → many ≡ output_needed s (output_record s) stim
    needed h =
        let l = m.leaves_of u v in
        let some = some-leaves (input_type s) in
        q.needed (let e = l.0 in omega arith) h ∙ rw (l.0, l.1, v) refl

    within_same : length stim ≤ 65535 → answer s stim lo ln ≡ run_answer s stim
    unfolding run_answer
    within_same h =
        answer-by-lengths s stim lo (replicate (output_needed s (output_record s) stim) 0) ln (replicate (length s) 0)
        (eo ∙ needed h ∙ sym (length-replicate (output_needed s (output_record s) stim) 0)) (en ∙ sym (length-replicate (length s) 0))

    accepted-same : Dec (65535 < length stim) → answer s stim lo ln ≡ run_answer s stim
    accepted-same (yes h) = over-same h
    accepted-same (no h) = within_same (omega arith)

  same_answer : answer s stim lo ln ≡ run_answer s stim
  same_answer = go (verdict_answer (verdict s)) refl
    where
      go : (a : Answer) → verdict_answer (verdict s) ≡ a → answer s stim lo ln ≡ run_answer s stim
      go (Done u) e =
          let says : SaysOf (sheet_checks s) (output_type s) (Done u) =
          subst (λ (a : Answer). SaysOf (sheet_checks s) (output_type s) a) (sym (verdict-first s) ∙ e) (first_says (sheet_checks s) (output_type s))
          in
          accepted-same (output_type s) (first-accepted s says.0) (dec_lt 65535 (length stim))
      go (Refused c p) e = same-refused c p e

  module _ {a : Answer} {ro rn : List ℕ} (ran : RunAnswered s stim lo ln a ro rn) where
    as-run : a ≡ run_answer s stim
    as-run = ran.answer_is ∙ same_answer

    pub told-refusal : {c p : ℕ} → a ≡ Refused c p → (out' next' : List ℕ) → RunTold s stim c p 0 1 0 out' next'
    told-refusal {c} {p} e out' next' = refusal-told s stim (sym as-run ∙ e) (refused-code s stim lo ln c p (sym ran.answer_is ∙ e)) out' next'

    -- done: the outputs and the sheet after them
    module _ {n : ℕ} (e : a ≡ Done n) where
      is-done : answer s stim lo ln ≡ Done n
      is-done = sym ran.answer_is ∙ e

      formed : (t : ℕ) × WellFormed s stim lo ln t
      formed = (((run_laws s stim lo ln).lowest_first (Done n)).0 is-done).0

      done-outputs : ro ≡ run_outputs s stim
      unfolding final_out run_outputs
      done-outputs = ran.out_is ∙ rw is-done refl

      done-sheet : rn ≡ run_sheet s stim
      unfolding final_next run_sheet
      done-sheet = ran.next_is ∙ rw is-done refl

      done-record : t ≡ output_record s
      done-record = let v : verdict s ≡ Accepted formed.0 = formed.1.accepted in m.typed formed.0 v ∙ rw v refl

      done-width : (o ≡ leaves (type_at s (output_record s))) × (0 < o) × (o ≤ 64)
      done-width =
          let u = formed.0 in
          let v : verdict s ≡ Accepted u = formed.1.accepted in
          let l : o ≡ leaves (type_at s u) = (m.leaves_of u v).1 in
          let some = some-leaves (type_at s u) in
          let few = accepted-few s v in
          (l ∙ rw v refl, omega arith, omega arith)

      pub told-done : (out' next' : List ℕ) → take many out' ≡ ro → many ≤ length out' → take (length s) next' ≡ rn
          → RunTold s stim 0 n t o many out' next'
      told-done out' next' eo' inside en' =
          record {
            coded = ap code (sym e ∙ as-run);
            placed = ap place (sym e ∙ as-run);
            typed = λ z. done-record;
            wide = λ z. done-width.0;
            outputs = λ z. eo' ∙ done-outputs;
            inside = inside;
            some = done-width.1;
            few = done-width.2;
            next = λ z. en' ∙ done-sheet;
          }

-- so what is told gives the text
pub told-printed : {s stim : List ℕ} {c p t w many : ℕ} {out' next' : List ℕ} → RunTold s stim c p t w many out' next'
    → told_text c p t w (take many out') ≡ printed s stim
unfolding printed
told-printed {s} {stim} {c} {p} {t} {w} {many} {out'} told = rw (← told.coded, ← told.placed) (go c refl)
  where
    go : (k : ℕ) → c ≡ k
        → told_text k p t w (take many out') ≡ told_text k p (output_record s) (leaves (type_at s (output_record s))) (run_outputs s stim)
    go zero e = rw (told.typed e, told.wide e, told.outputs e) refl
    go (suc k) e = refl

-- what is told, as it stands in the result
abbrev pub AsTold : (s stim : List ℕ) → Result Listed Refusal → (out next : List ℕ) → Type 0
AsTold s stim r out next = RunTold s stim (told_code r) (told_place r) (told_type r) (told_width r) (told_length r) out next

-- of a sheet that is refused
pub told-refused : (s stim : List ℕ) (r : Result Listed Refusal) (f : Fault) → IsErrAnd r (λ e. e ≡ refusal_of f) → verdict_of (Err f) ≡ verdict s
    → (out next : List ℕ) → AsTold s stim r out next
unfolding run_answer
told-refused s stim (Ok x) f p q out next = absurd p
told-refused s stim (Err x) f p q out next =
    let lo = replicate (output_needed s (output_record s) stim) 0 in
    let ln = replicate (length s) 0 in
    let a = refused-sheet s stim lo ln (Err x) f p q in
    refusal-told s stim (sym a.answer_is) (refused-code s stim lo ln _ _ (sym a.answer_is)) out next

-- the same of the front parts of the rooms lent
module _ (s stim : List ℕ) (i o t many : ℕ) (m : Measured s i o t) (q : OutputsMeasured i o (length stim) many) (out next : List ℕ)
    (room : (4194240 ≤ length out) × (length s ≤ length next)) where
  out-long : length (take many out) ≡ many
  out-long = let h = q.small in let r = room.0 in length-take-le many out (omega arith)

  next_long : length (take (length s) next) ≡ length s
  next_long = length-take-le (length s) next room.1

  module _ {a : Result ℕ Refusal} {ro rn : List ℕ} (ran : RunAnswered s stim (take many out) (take (length s) next) (answer_of a) ro rn) where
    pub lent-refused : (r : Result Listed Refusal) (e : Refusal) → a ≡ Err e → IsErrAnd r (λ x. x ≡ e) → (out' next' : List ℕ) → AsTold s stim r out' next'
    lent-refused (Ok x) e p h out' next' = absurd h
    lent-refused (Err x) e p h out' next' =
        rw h (told-refusal s stim i o t many m q (take many out) (take (length s) next) out-long next_long ran (ap answer_of p) out' next')

    pub lent-done : (n : ℕ) → a ≡ Ok n → length ro ≡ length (take many out) → length rn ≡ length (take (length s) next)
        → RunTold s stim 0 n t o many (ro ++ drop many out) (rn ++ drop (length s) next)
    lent-done n e lo ln =
        told-done s stim i o t many m q (take many out) (take (length s) next) out-long next_long ran (ap answer_of e)
        (ro ++ drop many out) (rn ++ drop (length s) next)
        (take_at ro (drop many out) many (lo ∙ out-long))
        (let l = length-append ro (drop many out) in let g = out-long in omega arith)
        (take_at rn (drop (length s) next) (length s) (ln ∙ next_long))

-- no code of a refusal is 0
pub some-code : (c : Code) → (k : ℕ) × (code_number c ≡ suc k)
some-code Coded.SheetLength = (0, refl)
some-code Coded.SheetHeader = (1, refl)
some-code Coded.SheetRecord = (2, refl)
some-code Coded.SheetNaming = (3, refl)
some-code Coded.SheetType = (4, refl)
some-code Coded.SheetDepth = (5, refl)
some-code Coded.SheetTyping = (6, refl)
some-code Coded.WrongStimulus = (7, refl)
some-code Coded.WrongInput = (8, refl)
some-code Coded.WrongOutputLength = (9, refl)
some-code Coded.WrongNextLength = (10, refl)
some-code Coded.NoFile = (11, refl)
some-code Coded.WrongText = (12, refl)
some-code Coded.WrongName = (13, refl)
some-code Coded.NoRoom = (14, refl)
some-code Coded.WrongWords = (15, refl)
some-code Coded.WrongRecordedLength = (16, refl)
some-code Coded.NewSheetRefused = (17, refl)
some-code Coded.LabelTwice = (18, refl)
some-code Coded.TooManyInputs = (19, refl)
some-code Coded.NoOutputLeaf = (20, refl)
some-code Coded.NotForSets = (21, refl)

-- so what is told of a refusal gives its line
pub refused-printed : {s stim : List ℕ} (e : Refusal) {out' next' : List ℕ} → AsTold s stim (Err e) out' next'
    → refused_line (code_number e.code) e.place ≡ printed s stim
refused-printed e told = rw c.1 (rw c.1 at (told-printed told))
  where
    c : (k : ℕ) × (code_number e.code ≡ suc k)
    c = some-code e.code
