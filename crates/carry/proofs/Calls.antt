-- The call: what the verdicts and the searches for a label say of it, and what each way out gives.
-- Assumes nothing.
use Prim.Native.Nat.{ℕ, ◌<◌}
use mathlib.Core.List.{List}
use mathlib.Core.Option.{none, some}
use mathlib.Core.Path.{◌≡◌, refl, sym, ap, ◌∙◌}
use native.Mathlib.Omega.{arith}
use borrow.Author.Tests.{eq-eqb, ne_eqb}
use lib.ListN.{length}
use Rattle.std.specs.Prelude as Std
use Rattle.std.specs.Prelude.{Result, Ok, Err, IsErrAnd}
use Rattle.records.specs.Words.{count}
use Rattle.records.specs.Written.{Written}
use Rattle.answers.specs.Answers.{Done, Refused, Verdict, Accepted, WrongLength, WrongHeader, WrongRecord, WrongNaming, WrongType, TooDeep, IllTyped, lowest, code, first_applying, verdict_answer}
use Rattle.answers.specs.Results.{refusal_of, answer_of, verdict_of}
use Rattle.answers.specs.Searches.{found}
use Rattle.answers.specs.declared.Code.TheVariants.{NewSheetRefused, LabelTwice}
use Rattle.answers.specs.declared.Refusal.{Refusal}
use Rattle.answers.specs.declared.Fault.{Fault}
use Rattle.answers.specs.declared.Fault.TheVariants as Faulty
use Rattle.answers.proofs.Lowest.{lowest-some-passes}
use Rattle.verdict.specs.Verdict.{verdict}
use Rattle.accepted.proofs.Calls.{sheet-fault, sheet-accepted}
use Rattle.accepted.proofs.Small.{accepted-sized}
use Rattle.behaviour.specs.Entries.{put_all, put_word}
use Rattle.carry.specs.Labels.{label_twice}
use Rattle.carry.specs.Bearers.{AllLabelled}
use Rattle.carry.specs.Carried.{taken_below, carried}
use Rattle.carry.specs.Carrying.{SheetAccepted, Carrying, ValuesCarried}
use Rattle.carry.specs.Carry.{new_checks, carry_answer, final_carried}
use Rattle.carry.specs.CarryAnswered.{CarryAnswered}
use Rattle.carry.proofs.Delays.{is-written}

-- what a call gives where it refuses, and where it does not
pub gives-refused : (old new next : List ℕ) (c p : ℕ) → Refused c p ≡ carry_answer old new next → CarryAnswered old new next (Refused c p) next
unfolding final_carried
gives-refused old new next c p e = record { answer_is = e; next_is = rw (← e) refl }

gives-carried : (old new next : List ℕ) → Done 0 ≡ carry_answer old new next → CarryAnswered old new next (Done 0) (carried old new)
unfolding final_carried
gives-carried old new next e = record { answer_is = e; next_is = rw (← e) refl }

-- a refusal that is handed on
pub handed : (old new next : List ℕ) (r : Result ℕ Refusal) (P : Refusal → Type 0) → IsErrAnd r P → answer_of r ≡ carry_answer old new next
    → CarryAnswered old new next (answer_of r) next
handed old new next (Ok x) P p q = absurd p
handed old new next (Err x) P p q = gives-refused old new next _ _ q

-- a verdict whose code is 0 accepts
pub accepts-by-code : (w : Verdict) → code (verdict_answer w) ≡ 0 → (t : ℕ) × (w ≡ Accepted t)
accepts-by-code (Accepted t) e = (t, refl)
accepts-by-code WrongLength e = absurd (omega arith)
accepts-by-code WrongHeader e = absurd (omega arith)
accepts-by-code (WrongRecord r) e = absurd (omega arith)
accepts-by-code (WrongNaming r) e = absurd (omega arith)
accepts-by-code (WrongType r) e = absurd (omega arith)
accepts-by-code (TooDeep r) e = absurd (omega arith)
accepts-by-code (IllTyped r) e = absurd (omega arith)

-- after an accepted sheet, the other checks
pub after-old : (old new next : List ℕ) (t : ℕ) → verdict old ≡ Accepted t
    → carry_answer old new next ≡ first_applying (new_checks old new next) (Done 0)
unfolding carry_answer
after-old old new next t v = sheet-accepted old (new_checks old new next) (Done 0) t v

-- the old sheet refused
pub old-refused : (old new next : List ℕ) (r : Result ℕ Refusal) (f : Fault) → IsErrAnd r (λ e. e ≡ refusal_of f) → verdict_of (Err f) ≡ verdict old
    → CarryAnswered old new next (answer_of r) next
unfolding carry_answer
old-refused old new next r f p q = handed old new next r _ p (sheet-fault old (new_checks old new next) (Done 0) r f p q)

-- the new sheet refused
fault-code : (f : Fault) → (p : ℕ) × (verdict_answer (verdict_of (Err f)) ≡ Refused (code (verdict_answer (verdict_of (Err f)))) p)
fault-code Faulty.WrongLength = (_, refl)
fault-code Faulty.WrongHeader = (_, refl)
fault-code (Faulty.WrongRecord r) = (_, refl)
fault-code (Faulty.WrongNaming r) = (_, refl)
fault-code (Faulty.WrongType r) = (_, refl)
fault-code (Faulty.TooDeep r) = (_, refl)
fault-code (Faulty.IllTyped r) = (_, refl)

pub new-refused : (old new next : List ℕ) (t : ℕ) → verdict old ≡ Accepted t → (f : Fault) → verdict_of (Err f) ≡ verdict new
    → (e : Refusal) → e.code ≡ NewSheetRefused → e.place ≡ code (verdict_answer (verdict_of (Err f)))
    → answer_of (Err e) ≡ carry_answer old new next
new-refused old new next t v f q e c p =
    let r = fault-code f in
    let n : verdict_answer (verdict new) ≡ Refused (code (verdict_answer (verdict_of (Err f)))) r.0 = ap verdict_answer (sym q) ∙ r.1 in
    rw (c, p) (sym (after-old old new next t v ∙ rw n refl))

pub accepted-of : {s : List ℕ} {t : ℕ} → verdict s ≡ Accepted t → SheetAccepted s (count s)
unfolding count
accepted-of {s} {t} v = record { sized = accepted-sized v; type = t; accepted = v }

-- the search, of an accepted sheet
pub searching : {s : List ℕ} {n : ℕ} → SheetAccepted s n → Written s
searching g = is-written g.accepted

pub twice-place : {s : List ℕ} → SheetAccepted s (count s) → {o : Std.Option ℕ} → found o ≡ lowest (label_twice s) (count s) → {r : ℕ} → o ≡ Std.Some r → r < 4096
twice-place {s} g {o} e {r} q =
    let h = (lowest-some-passes (label_twice s) (count s) r (sym e ∙ ap found q)).0 in let f = g.sized.few in omega arith

-- a label that stands twice, handed on
pub label-refused : (old new next : List ℕ) (r : Result ℕ Refusal) (e : Refusal) → IsErrAnd r (λ x. x ≡ e) → e.code ≡ LabelTwice
    → CarryAnswered old new next (Refused 19 e.place) next → CarryAnswered old new next (answer_of r) next
label-refused old new next (Ok x) e p c q = absurd p
label-refused old new next (Err x) e p c q = rw (p, c) q

module _ {old new : List ℕ} (g : SheetAccepted old (count old)) (k : SheetAccepted new (count new)) where
  -- both accepted
  from-labels : (next : List ℕ) → carry_answer old new next ≡ first_applying (new_checks old new next) (Done 0)
  from-labels next = after-old old new next g.type g.accepted

  pub old-twice : {next : List ℕ} {r : ℕ} → lowest (label_twice old) (count old) ≡ some r → CarryAnswered old new next (Refused 19 r) next
  old-twice {next} {r} l = gives-refused old new next 19 r (sym (from-labels next ∙ rw (k.accepted, l) refl))

  module _ (old_once : lowest (label_twice old) (count old) ≡ none) where
    pub new-twice : {next : List ℕ} {r : ℕ} → lowest (label_twice new) (count new) ≡ some r → CarryAnswered old new next (Refused 19 r) next
    new-twice {next} {r} l = gives-refused old new next 19 r (sym (from-labels next ∙ rw (k.accepted, old_once, l) refl))

    module _ (new_once : lowest (label_twice new) (count new) ≡ none) where
      pub wrong_next : {next : List ℕ} → (length next ≡ length new → ⊥) → CarryAnswered old new next (Refused 11 (length new)) next
      wrong_next {next} d =
          gives-refused old new next 11 (length new)
          (sym (from-labels next ∙ rw (k.accepted, old_once, new_once, ne_eqb (length next) (length new) d) refl))

      pub carried-done : {next next'' : List ℕ} {u : Std.Option ℕ} → length next ≡ length new
          → ValuesCarried old (count old) new (count new) new u next'' → CarryAnswered old new next (Done 0) next''
      unfolding carried
      carried-done {next} {next''} l values =
          let a : Done 0 ≡ carry_answer old new next =
          sym (from-labels next ∙ rw (k.accepted, old_once, new_once, eq-eqb (length next) (length new) l) refl) in
          let t = values.taken (values.answered ∙ old_once) refl in
          rw t (gives-carried old new next a)

-- the table of the old sheet's labels is whole where none stands twice
pub values-carrying : {old new next : List ℕ} {n m : ℕ} {o : Std.Option ℕ} {table : List ℕ} → SheetAccepted old n → SheetAccepted new m
    → AllLabelled old n o table → found o ≡ none → length next ≡ length new → Carrying old n new m table next
values-carrying g k l e long = record { before = g; after = k; labels = l.entered e; long = long }

module _ {old new before after : List ℕ} {n m : ℕ} {o : Std.Option ℕ} {table : List ℕ} (l : AllLabelled old n o table) where
  pub values-twice : {r : ℕ} → o ≡ Std.Some r → ValuesCarried old n new m before (Std.Some r) after
  values-twice q = record { answered = sym (ap found q) ∙ l.answered; taken = λ e. absurd (let no : ◌≡◌ {A = ℕ} 0 1 = cc in omega arith) }

  pub values-kept : (length before ≡ length new → ⊥) → ValuesCarried old n new m before o after
  values-kept f = record { answered = l.answered; taken = λ e h. absurd (f h) }

  pub values-taken : after ≡ put_all put_word (taken_below old new m) before → ValuesCarried old n new m before o after
  values-taken t = record { answered = l.answered; taken = λ e h. t }
