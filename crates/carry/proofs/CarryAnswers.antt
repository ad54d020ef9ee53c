-- What every call promises, of carrying; and what a call that nothing refuses gives.
-- Assumes nothing.
use Prim.Native.Nat.{ℕ, ◌<◌, ◌^◌}
use mathlib.Core.Bool.{not}
use mathlib.Core.List.{List}
use mathlib.Core.Option.{none, some}
use mathlib.Core.Path.{◌≡◌, refl}
use native.Mathlib.Omega.{arith}
use borrow.Author.Tests.{eq-eqb}
use lib.ListN.{length}
use lib.Dec.{eqb}
use Rattle.records.specs.Words.{count}
use Rattle.answers.specs.Answers.{lowest, code, NoneApplies, verdict_answer}
use Rattle.answers.specs.GivenSlices.{SmallPlaces, no_slice, one_slice}
use Rattle.answers.specs.Answers.{Answer}
use Rattle.answers.specs.Answers.{Done, Refused}
use Rattle.answers.proofs.Lowest.{lowest-some-passes}
use Rattle.verdict.specs.Verdict.{sheet_checks, output_type, verdict}
use Rattle.answers.specs.Answers.{Accepted}
use Rattle.answers.proofs.VerdictCodes.{code-small}
use Rattle.accepted.proofs.Laws.{first-accepted}
use Rattle.accepted.proofs.Calls.{none-of-call, call-laws}
use Rattle.accepted.proofs.Small.{accepted-length}
use Rattle.answers.proofs.First.{none-split, none_done, same-length-by, when-some}
use Rattle.carry.specs.Labels.{label_twice}
use Rattle.carry.specs.Carried.{carried}
use Rattle.carry.specs.Carry.{refused_by, new_checks, carry_checks, carry_answer, final_carried}
use Rattle.carry.specs.Promises.{CarryFormed, CarryLaws}
use Rattle.carry.proofs.Calls.{accepts-by-code}
use Rattle.carry.proofs.Delays.{is-written}

-- a sheet that no code refuses is accepted
none-refused : (a : Answer) → refused_by a ≡ none → code a ≡ 0
none-refused (Done p) e = refl
none-refused (Refused c p) e = let z : ◌≡◌ {A = ℕ} 0 1 = cc in absurd (omega arith)

formed_where : (old new next : List ℕ) → NoneApplies (carry_checks old new next) → CarryFormed old new next
formed_where old new next h =
    let p = none-split (sheet_checks old) (new_checks old new next) h in
    let a = accepts-by-code (verdict new) (none-refused (verdict_answer (verdict new)) p.1.0) in
    record {
      old_type = output_type old;
      new_type = a.0;
      old_accepted = first-accepted old p.0;
      new_accepted = a.1;
      old_once = p.1.1.0;
      new_once = p.1.1.1.0;
      long = same-length-by (length next) (length new) (length new) p.1.1.1.1.0;
    }

formed-none : (old new next : List ℕ) → CarryFormed old new next → NoneApplies (carry_checks old new next)
formed-none old new next f =
    none-of-call old (new_checks old new next) f.old_type f.old_accepted
    (rw f.new_accepted refl, (f.old_once, (f.new_once, (rw (eq-eqb (length next) (length new) f.long) refl, tt))))

pub formed-done : (old new next : List ℕ) → CarryFormed old new next → carry_answer old new next ≡ Done 0
unfolding carry_answer
formed-done old new next f = none_done (carry_checks old new next) (Done 0) (formed-none old new next f)

pub formed-final : (old new next : List ℕ) → CarryFormed old new next → final_carried old new next ≡ carried old new
unfolding final_carried
formed-final old new next f = rw (formed-done old new next f) refl

-- the places of the checks after the old sheet's
module _ (old new next : List ℕ) {t : ℕ} (v : verdict old ≡ Accepted t) where
  refused-small : (p : ℕ) → refused_by (verdict_answer (verdict new)) ≡ some p → p < 2 ^ 32
  refused-small p e =
      go (verdict_answer (verdict new)) (code-small (verdict new) refl) e
    where
      go : (a : Answer) → code a < 256 → refused_by a ≡ some p → p < 2 ^ 32
      go (Done q) h e = let z : ◌≡◌ {A = ℕ} 0 1 = cc in absurd (omega arith)
      go (Refused c q) h e = let z : c ≡ p = cc in omega arith

  twice-small : (s : List ℕ) (t : ℕ) → verdict s ≡ Accepted t → (p : ℕ) → lowest (label_twice s) (count s) ≡ some p → p < 2 ^ 32
  twice-small s t v p e =
      let h = (lowest-some-passes (label_twice s) (count s) p e).0 in let f = (is-written v).few in omega arith

  rest-small : SmallPlaces (new_checks old new next) 0
  rest-small = (
    refused-small,
    λ e. let a = accepts-by-code (verdict new) (none-refused (verdict_answer (verdict new)) e) in (
      twice-small old t v,
      λ f. (
        twice-small new a.0 a.1,
        λ g. (
          λ p k. let z = when-some (not (eqb (length next) (length new))) (length new) p k in let l = accepted-length new a.1 in omega arith,
          λ k. omega arith,
        ),
      ),
    ),
  )

pub carry_laws : CarryLaws
unfolding carry_answer final_carried
carry_laws old new next =
    call-laws old (new_checks old new next) (formed_where old new next, formed-none old new next) refl refl
    (λ t v. rest-small old new next v) (one_slice (carried old new) no_slice)
