-- The verdict is the answer of the first check of a sheet that applies: each test and each search refuses with its code and place, or
-- leaves the answer to those after it. Assumes nothing.
use Prim.Native.Nat.{ℕ}
use mathlib.Core.Path.{◌≡◌, refl, sym, ap, subst, ◌∙◌}
use native.Mathlib.Omega.{arith}
use mathlib.Core.Bool.{Bool, true, false}
use mathlib.Core.List.{List}
use mathlib.Core.Option.{Option, none, some}
use Rattle.answers.specs.Answers.{Answer}
use Rattle.answers.specs.Answers.{Done, Refused}
use Rattle.answers.specs.Answers.{when, or_refused, first_applying, NoneApplies, SaysOf, lowest, verdict_answer}
use Rattle.answers.proofs.First.{none_done, first_says}
use Rattle.records.specs.Words.{count}
use Rattle.records.specs.Trees.{circuit}
use Rattle.structure.specs.Rules.{wrong_length, wrong_header, wrong_record, wrong_naming, wrong_type, too_deep}
use Rattle.typing.specs.Judgements.{judgements, first_failing}
use Rattle.verdict.specs.Verdict.{output_type, sheet_checks, unless, refusing, by_types, by_depths, by_type_records, by_namings, by_records, verdict}
use Rattle.verdict.specs.Scopes.{inputs}
use Rattle.answers.specs.Answers.{Verdict}
use Rattle.answers.specs.Answers.{
  Accepted,
  WrongLength,
  WrongHeader,
  WrongRecord,
  WrongNaming,
  WrongType,
  TooDeep,
  IllTyped,
}

tested-first : (b : Bool) (v w : Verdict) (c : ℕ) (rest : Answer) → verdict_answer v ≡ Refused c 0 → verdict_answer w ≡ rest
    → verdict_answer (unless b v w) ≡ or_refused c (when b 0) rest
tested-first true v w c rest e f = e
tested-first false v w c rest e f = f

searched-first : (o : Option ℕ) (g : ℕ → Verdict) (w : Verdict) (c : ℕ) (rest : Answer)
    → ((r : ℕ) → verdict_answer (g r) ≡ Refused c r) → verdict_answer w ≡ rest
    → verdict_answer (refusing o g w) ≡ or_refused c o rest
searched-first (some r) g w c rest e f = e r
searched-first none g w c rest e f = f

pub verdict-first : (s : List ℕ) → verdict_answer (verdict s) ≡ first_applying (sheet_checks s) (Done (output_type s))
unfolding verdict by_records by_types
verdict-first s =
    tested-first (wrong_length s) WrongLength _ 1 _ refl
    (tested-first (wrong_header s) WrongHeader _ 2 _ refl
    (searched-first (lowest (wrong_record s) (count s)) WrongRecord (by_namings s) 3 _ (λ r. refl)
    (searched-first (lowest (wrong_naming s) (count s)) WrongNaming (by_type_records s) 4 _ (λ r. refl)
    (searched-first (lowest (wrong_type s) (count s)) WrongType (by_depths s) 5 _ (λ r. refl)
    (searched-first (lowest (too_deep s) (count s)) TooDeep (by_types s) 6 _ (λ r. refl)
    (searched-first (first_failing s (judgements s (inputs s) (circuit s))) IllTyped (Accepted (output_type s)) 7 _ (λ r. refl) refl))))))

-- where no check of a sheet applies it is accepted, with the output's type
accepted-by : (v : Verdict) (t : ℕ) → verdict_answer v ≡ Done t → v ≡ Accepted t
accepted-by (Accepted u) t e = cc
accepted-by WrongLength t e = let z : ◌≡◌ {A = ℕ} 0 1 = cc in absurd (omega arith)
accepted-by WrongHeader t e = let z : ◌≡◌ {A = ℕ} 0 1 = cc in absurd (omega arith)
accepted-by (WrongRecord r) t e = let z : ◌≡◌ {A = ℕ} 0 1 = cc in absurd (omega arith)
accepted-by (WrongNaming r) t e = let z : ◌≡◌ {A = ℕ} 0 1 = cc in absurd (omega arith)
accepted-by (WrongType r) t e = let z : ◌≡◌ {A = ℕ} 0 1 = cc in absurd (omega arith)
accepted-by (TooDeep r) t e = let z : ◌≡◌ {A = ℕ} 0 1 = cc in absurd (omega arith)
accepted-by (IllTyped r) t e = let z : ◌≡◌ {A = ℕ} 0 1 = cc in absurd (omega arith)

pub first-accepted : (s : List ℕ) → NoneApplies (sheet_checks s) → verdict s ≡ Accepted (output_type s)
first-accepted s h =
    accepted-by (verdict s) (output_type s) (verdict-first s ∙ none_done (sheet_checks s) (Done (output_type s)) h)

-- and an accepted sheet is one to which none applies
pub accepted-first : (s : List ℕ) (t : ℕ) → verdict s ≡ Accepted t → NoneApplies (sheet_checks s) × (t ≡ output_type s)
accepted-first s t v =
    subst (λ (a : Answer). SaysOf (sheet_checks s) (output_type s) a) (sym (verdict-first s) ∙ ap verdict_answer v)
    (first_says (sheet_checks s) (output_type s))
