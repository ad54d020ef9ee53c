-- A call on a sheet, whose checks are those of the sheet and then its own: a sheet that the check refuses is refused as the check
-- says, and for an accepted one the call's own checks answer. `Checked` is what the code has from the check.
-- Assumes nothing.
use Prim.Native.Nat.{ℕ, ◌/◌, ◌<◌, ◌^◌}
use mathlib.Core.List.{List, ◌++◌}
use mathlib.Core.Bool.{true}
use mathlib.Core.Logic.{◌↔◌}
use mathlib.Core.Path.{◌≡◌, refl, sym, ap, ◌∙◌}
use native.Mathlib.Omega.{arith}
use lib.ListN.{length}
use Rattle.answers.specs.Answers.{place, on_done, Check, first_applying, NoneApplies, verdict_answer}
use Rattle.answers.specs.StandardLaws.{LentSlice, StandardLaws}
use Rattle.answers.specs.GivenSlices.{codes_above, SmallPlaces, GivenSlices}
use Rattle.answers.specs.Answers.{Answer}
use Rattle.answers.specs.Answers.{Done, Refused}
use Rattle.answers.proofs.First.{first-both, first_then, none_both}
use Rattle.answers.proofs.StandardLaws.{first-place, standard-laws}
use Rattle.verdict.specs.Verdict.{sheet_checks, output_type, verdict}
use Rattle.verdict.specs.CheckedTable.{Checked}
use Rattle.answers.specs.Answers.{Verdict}
use Rattle.answers.specs.Answers.{Accepted}
use Rattle.answers.specs.Answers as Verdicts
use Rattle.std.specs.Prelude.{Result, Ok, Err, IsErrAnd}
use Rattle.answers.specs.declared.Refusal.{Refusal}
use Rattle.answers.specs.declared.Fault.{Fault}
use Rattle.answers.specs.declared.Fault.TheVariants as Faulty
use Rattle.answers.specs.Results.{refusal_of, verdict_of, answer_of}
use Rattle.records.specs.Words.{count}
use Rattle.verdict.specs.declared.checked.Checked as Checking
use Rattle.verdict.proofs.Lending.{refused-answer}
use Rattle.verdict.proofs.PlacesSmall.{verdict-place}
use Rattle.verdict.proofs.VerdictFirst.{verdict-first, accepted-first}
use Rattle.accepted.specs.Accepting.{Accepting}
use Rattle.accepted.proofs.Refusing.{Refusing, refusing-answer}
use Rattle.accepted.proofs.Small.{accepted-sized}

-- the output type that an accepted sheet is accepted with
pub accepted-output : (s : List ℕ) (t : ℕ) → verdict s ≡ Accepted t → t ≡ output_type s
accepted-output s t v = (accepted-first s t v).1

module _ (s : List ℕ) (own : List Check) (done : Answer) where
  by-verdict : first_applying (sheet_checks s ++ own) done ≡ on_done (verdict_answer (verdict s)) (λ t. first_applying own done)
  by-verdict =
      let rest : ℕ → Answer = λ t. first_applying own done in
      first-both (sheet_checks s) own done
      ∙ first_then (sheet_checks s) (output_type s) rest
      ∙ ap (λ (a : Answer). on_done a rest) (sym (verdict-first s))

  pub sheet-refused : (c p : ℕ) → verdict_answer (verdict s) ≡ Refused c p → first_applying (sheet_checks s ++ own) done ≡ Refused c p
  sheet-refused c p e = by-verdict ∙ ap (λ (a : Answer). on_done a (λ t. first_applying own done)) e

  pub sheet-accepted : (t : ℕ) → verdict s ≡ Accepted t → first_applying (sheet_checks s ++ own) done ≡ first_applying own done
  sheet-accepted t v = by-verdict ∙ ap (λ (w : Verdict). on_done (verdict_answer w) (λ t. first_applying own done)) v

  -- a verdict that refuses is the answer
  pub refused-by-sheet : (w : Verdict) → w ≡ verdict s → Refusing w
      → (c : ℕ) × (p : ℕ) × (verdict_answer w ≡ Refused c p) × (first_applying (sheet_checks s ++ own) done ≡ Refused c p)
  refused-by-sheet w e o =
      let r = refusing-answer w o in
      (r.0, r.1, r.2, sheet-refused r.0 r.1 (ap verdict_answer (sym e) ∙ r.2))

  -- the place is small where those of the call's own checks are
  call-place : ((t : ℕ) → verdict s ≡ Accepted t → place (first_applying own done) < 2 ^ 32)
      → place (first_applying (sheet_checks s ++ own) done) < 2 ^ 32
  call-place f = rw by-verdict (go (verdict s) refl (verdict-place s))
    where
      rest : ℕ → Answer
      rest t = first_applying own done

      go : (w : Verdict) → verdict s ≡ w → place (verdict_answer w) < 4096 → place (on_done (verdict_answer w) rest) < 2 ^ 32
      go (Accepted t) e h = f t e
      go Verdicts.WrongLength e h = omega arith
      go Verdicts.WrongHeader e h = omega arith
      go (Verdicts.WrongRecord r) e h = omega arith
      go (Verdicts.WrongNaming r) e h = omega arith
      go (Verdicts.WrongType r) e h = omega arith
      go (Verdicts.TooDeep r) e h = omega arith
      go (Verdicts.IllTyped r) e h = omega arith

-- where no check of the call applies
pub none-of-call : (s : List ℕ) (own : List Check) (t : ℕ) → verdict s ≡ Accepted t → NoneApplies own → NoneApplies (sheet_checks s ++ own)
none-of-call s own t v h = none_both (sheet_checks s) own (accepted-first s t v).0 h

-- What every call promises, where the places of its own checks are small on an accepted sheet.
pub call-laws : (s : List ℕ) (own : List Check) {Formed : Type 0} {done : ℕ} {a : Answer} {slices : List LentSlice}
    → NoneApplies (sheet_checks s ++ own) ↔ Formed → codes_above own ≡ true → a ≡ first_applying (sheet_checks s ++ own) (Done done)
    → ((t : ℕ) → verdict s ≡ Accepted t → SmallPlaces own done) → GivenSlices a slices
    → StandardLaws (sheet_checks s ++ own) Formed done a slices
call-laws s own {done} formed above is small given =
    standard-laws formed above is
    (rw is (call-place s own (Done done) (λ t v. first-place own done (small t v))))
    given

-- what the code has of a sheet that the check accepted
pub accepting-checked : (s : List ℕ) (n : ℕ) → n ≡ length s / 12 → (w : Verdict) (before table : List ℕ) (t : ℕ) → Checked s w before table
    → w ≡ Accepted t → Accepting s n table × (verdict s ≡ Accepted t)
accepting-checked s n c w before table t l e =
    let v : verdict s ≡ Accepted t = sym l.answered ∙ e in
    (record { sized = rw c (accepted-sized v); type = t; accepted = v; table = l.accepted (rw e refl) }, v)

-- a checked sheet is accepted, with its table
pub accepting : (c : Checking.Checked) → Accepting c.sheet (count c.sheet) c.widths
unfolding count
accepting c = record { sized = accepted-sized c.accepted; type = c.output_type; accepted = c.accepted; table = c.counted }

-- the fault of a sheet as the answer of a call
pub sheet-fault : (s : List ℕ) (own : List Check) (done : Answer) (r : Result ℕ Refusal) (f : Fault) → IsErrAnd r (λ e. e ≡ refusal_of f)
    → verdict_of (Err f) ≡ verdict s → answer_of r ≡ first_applying (sheet_checks s ++ own) done
sheet-fault s own done r f p q = refused-answer r f p q ∙ sym (by-verdict s own done ∙ of-fault f q)
  where
    rest : ℕ → Answer
    rest t = first_applying own done

    stays : (f : Fault) → on_done (verdict_answer (verdict_of (Err f))) rest ≡ verdict_answer (verdict_of (Err f))
    stays Faulty.WrongLength = refl
    stays Faulty.WrongHeader = refl
    stays (Faulty.WrongRecord r) = refl
    stays (Faulty.WrongNaming r) = refl
    stays (Faulty.WrongType r) = refl
    stays (Faulty.TooDeep r) = refl
    stays (Faulty.IllTyped r) = refl

    of-fault : (f : Fault) → verdict_of (Err f) ≡ verdict s → on_done (verdict_answer (verdict s)) rest ≡ verdict_answer (verdict s)
    of-fault f q = rw (← q) (stays f)

-- a refusal handed on is the same answer
pub same-refusal : (r : Result ℕ Refusal) (e : Refusal) → IsErrAnd r (λ x. x ≡ e) → answer_of r ≡ answer_of (Err e)
same-refusal (Ok x) e p = absurd p
same-refusal (Err x) e p = rw p refl
