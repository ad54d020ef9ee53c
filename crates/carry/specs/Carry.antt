-- The call (docs/SHEETS.md, "Carrying"): its checks in their order, "the old sheet by 1 to 7; 18 for the new sheet; 19 for the old
-- sheet and then for the new one; 11 for the next slice, which is to be as long as the new sheet"; its answer, "0 at place 0" where
-- nothing refuses; and what the next slice holds at the end.
use Rattle.std.specs.Prelude.{ℕ, ◌≡◌, not, List, [], ◌∷◌, ◌++◌, length, eqb}
use Rattle.std.proofs.Math.Option.{Option, none, some}
use Rattle.records.specs.Words.{count}
use Rattle.answers.specs.Answers.{lowest, packed, when_done, Check, check, when, first_applying, verdict_answer}
use Rattle.answers.specs.Answers.{Answer}
use Rattle.answers.specs.Answers.{Done, Refused}
use Rattle.verdict.specs.Verdict.{sheet_checks, verdict}
use Rattle.carry.specs.Labels.{label_twice}
use Rattle.carry.specs.Carried.{carried}

-- the code of a refusal
abbrev pub refused_by : Answer → Option ℕ
refused_by (Done p) = none
refused_by (Refused c p) = some c

-- the checks after those of the old sheet
abbrev pub new_checks : (old new next : List ℕ) → List Check
new_checks old new next =
    check 18 (refused_by (verdict_answer (verdict new)))
    ∷ check 19 (lowest (label_twice old) (count old))
    ∷ check 19 (lowest (label_twice new) (count new))
    ∷ check 11 (when (not (eqb (length next) (length new))) (length new))
    ∷ []

abbrev pub carry_checks : (old new next : List ℕ) → List Check
carry_checks old new next = sheet_checks old ++ new_checks old new next

unfoldable pub carry_answer : (old new next : List ℕ) → Answer
carry_answer old new next = first_applying (carry_checks old new next) (Done 0)

unfoldable pub final_carried : (old new next : List ℕ) → List ℕ
final_carried old new next = when_done (carry_answer old new next) (carried old new) next

-- what a call gives, for every content and length of the three slices: the number returned and the final bytes
pub record CarryGiven (old new next : List ℕ) (result : ℕ) (next' : List ℕ) : Type 0 where
  pub result_is : result ≡ packed (carry_answer old new next)
  pub next_is : next' ≡ final_carried old new next
