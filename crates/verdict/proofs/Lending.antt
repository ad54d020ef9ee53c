-- The length is the first stage; a lent table is written for an accepted sheet alone.
-- Assumes nothing.
use mathlib.Core.Path.{◌≡◌, refl, sym}
use mathlib.Core.Bool.{Bool, true, false}
use mathlib.Core.List.{List}
use mathlib.Core.Logic.{◌↔◌}
use Prim.Native.Nat.{ℕ, ◌/◌}
use native.Mathlib.Omega.{arith}
use lib.ListN.{length}
use Rattle.std.specs.Prelude.{Option, Some, None, Result, Ok, Err, IsSome, IfErr, IsErrAnd, ok_or}
use Rattle.answers.specs.declared.Fault.{Fault}
use Rattle.answers.specs.declared.Fault.TheVariants as Faulty
use Rattle.answers.specs.declared.Refusal.{Refusal}
use Rattle.answers.specs.Answers.{Verdict, Accepted, verdict_answer}
use Rattle.answers.specs.Results.{refusal_of, verdict_of, answer_of}
use Rattle.records.specs.Words.{count}
use Rattle.records.specs.Sized.{Sized}
use Rattle.structure.specs.Rules.{Passes, wrong_length}
use Rattle.verdict.specs.Stages.{StagesChecked}
use Rattle.verdict.specs.Verdict.{verdict}
use Rattle.verdict.specs.CheckedTable.{PatternsFrom, Checked}
use Rattle.verdict.specs.CheckedSheet.{checked_verdict}
use Rattle.verdict.specs.declared.checked.Checked.{Checked as CheckedSheet}
use Rattle.verdict.proofs.Exact.{exact}
use Rattle.verdict.proofs.Stages.{length-passed}
use Rattle.verdict.proofs.Widths.{judged-widths}

-- bytes that are no sheet have a wrong length
pub no-sheet : {S : Type 0} (s : List ℕ) (o : Option S) {r : Result S Fault} → r ≡ ok_or o Faulty.WrongLength
    → IsSome o ↔ Sized s (count s) → IfErr r (λ f. (f ≡ Faulty.WrongLength) × (wrong_length s ≡ true))
unfolding count
no-sheet s o e h = rw e (go o h)
  where
    wrong : (b : Bool) → wrong_length s ≡ b → (Sized s (count s) → ⊥) → wrong_length s ≡ true
    wrong true q none = q
    wrong false q none = absurd (none (length-passed refl q).sized)

    go : {S : Type 0} (o : Option S) → IsSome o ↔ Sized s (count s)
        → IfErr (ok_or o Faulty.WrongLength) (λ f. (f ≡ Faulty.WrongLength) × (wrong_length s ≡ true))
    go (Some x) h = tt
    go None h = (refl, wrong (wrong_length s) refl (λ z. let q : ◌≡◌ {A = Bool} false true = h.1 z in let y : ◌≡◌ {A = ℕ} 0 1 = cc in absurd (omega arith)))

-- a fault as the answer of a call
pub refused-answer : (r : Result ℕ Refusal) (f : Fault) {v : Verdict} → IsErrAnd r (λ e. e ≡ refusal_of f) → verdict_of (Err f) ≡ v
    → answer_of r ≡ verdict_answer v
refused-answer (Ok x) f p q = absurd p
refused-answer (Err e) f p q = rw (p, ← q) (go f)
  where
    go : (f : Fault) → answer_of (Err (refusal_of f)) ≡ verdict_answer (verdict_of (Err f))
    go Faulty.WrongLength = refl
    go Faulty.WrongHeader = refl
    go (Faulty.WrongRecord r) = refl
    go (Faulty.WrongNaming r) = refl
    go (Faulty.WrongType r) = refl
    go (Faulty.TooDeep r) = refl
    go (Faulty.IllTyped r) = refl

pub length-verdict : (s : List ℕ) {f : Fault} → (f ≡ Faulty.WrongLength) × (wrong_length s ≡ true) → verdict_of (Err f) ≡ verdict s
unfolding verdict
length-verdict s h = rw (h.0, h.1)

pub length-lent : (s : List ℕ) {f : Fault} (r : Result ℕ Fault) (table : List ℕ) → IsErrAnd r (λ e. e ≡ f)
    → (f ≡ Faulty.WrongLength) × (wrong_length s ≡ true) → Checked s (verdict_of r) table table
length-lent s (Ok x) table p h = absurd p
length-lent s (Err e) table p h = record {
  answered = rw p (length-verdict s h);
  refused = λ q. refl;
  accepted = λ q. absurd (let e = rw (p, h.0) at q in let y : ◌≡◌ {A = ℕ} 0 1 = cc in omega arith);
}

pub length-checked : (s : List ℕ) {f : Fault} (r : Result CheckedSheet Fault) → IsErrAnd r (λ e. e ≡ f)
    → (f ≡ Faulty.WrongLength) × (wrong_length s ≡ true) → checked_verdict r ≡ verdict s
length-checked s (Ok x) p h = absurd p
length-checked s (Err e) p h = rw p (length-verdict s h)

-- a stage's fault, handed on
pub stages-refused : {s after : List ℕ} {n : ℕ} (f : Fault) (r : Result ℕ Fault) → IsErrAnd r (λ e. e ≡ f)
    → StagesChecked s n (verdict_of (Err f)) after → StagesChecked s n (verdict_of r) after
stages-refused f (Ok x) p h = absurd p
stages-refused f (Err e) p h = rw p h

module _ {s : List ℕ} {t : ℕ} {after : List ℕ} (c : StagesChecked s (count s) (Accepted t) after) where
  pub passes-accepted : Passes s
  passes-accepted = ((exact s t).0 (sym c.answered)).0

  pub patterns-ready : Passes s × PatternsFrom s (count s) after
  patterns-ready = let k = c.notes t refl in (passes-accepted, rw k.2 (judged-widths passes-accepted refl k.1))
