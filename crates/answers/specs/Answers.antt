-- The answer of a call, the lowest number that passes a test, and the checks of a call as a list.
use Rattle.std.specs.Prelude.{ℕ, ◌+◌, ◌*◌, ◌/◌, ◌%◌, ◌^◌, zero, suc, List, [], ◌∷◌, ◌++◌, Bool, true, false, ◌≡◌}
use Rattle.std.proofs.Math.Option.{Option, none, some}

-- The answer of a call (docs/SHEETS.md, "Codes"): done, with the place that the call gives beside 0, or refused, with a code and its
-- place; both in one number of 64 bits. One data type for all calls; `Results` says what a result of the code stands for here, and a call
-- that answers by another type says once what each of its cases stands for.

pub data Answer : Type 0 where
  Done : (place : ℕ) → Answer
  Refused : (code place : ℕ) → Answer

abbrev pub code : Answer → ℕ
code (Done p) = 0
code (Refused c p) = c

abbrev pub place : Answer → ℕ
place (Done p) = p
place (Refused c p) = p

-- a code and a place in one number of 64 bits
abbrev pub in_one : (code place : ℕ) → ℕ
in_one c p = c * 2 ^ 32 + p

abbrev pub packed : Answer → ℕ
packed a = in_one (code a) (place a)

-- and read back from it
abbrev pub code_of_result : (result : ℕ) → ℕ
code_of_result r = r / 2 ^ 32

abbrev pub place_of_result : (result : ℕ) → ℕ
place_of_result r = r % 2 ^ 32

-- what a lent slice holds at the end: where the call is done what is computed, on a refusal the bytes at entry
abbrev pub when_done : Answer → (computed entry : List ℕ) → List ℕ
when_done (Done p) new old = new
when_done (Refused c p) new old = old

-- what the check finds: the output type's record of an accepted sheet, or which rule is broken, and the record that breaks it
pub data Verdict : Type 0 where
  Accepted : ℕ → Verdict
  WrongLength WrongHeader : Verdict
  WrongRecord WrongNaming WrongType TooDeep IllTyped : ℕ → Verdict

-- the answer of the check: the code and the place of each case
abbrev pub verdict_answer : Verdict → Answer
verdict_answer (Accepted t) = Done t
verdict_answer WrongLength = Refused 1 0
verdict_answer WrongHeader = Refused 2 0
verdict_answer (WrongRecord r) = Refused 3 r
verdict_answer (WrongNaming r) = Refused 4 r
verdict_answer (WrongType r) = Refused 5 r
verdict_answer (TooDeep r) = Refused 6 r
verdict_answer (IllTyped r) = Refused 7 r

-- a refusal stays one; where there is none, what comes after it answers
abbrev pub on_done : Answer → (ℕ → Answer) → Answer
on_done (Done p) rest = rest p
on_done (Refused c p) rest = Refused c p

-- The lowest number that passes a test.

abbrev pub or_here : Option ℕ → Bool → ℕ → Option ℕ
or_here (some r) b n = some r
or_here none true n = some n
or_here none false n = none

-- the lowest number below n that passes the test
abbrev pub lowest : (ℕ → Bool) → ℕ → Option ℕ
lowest p zero = none
lowest p (suc n) = or_here (lowest p n) (p n) n

-- whether a search found one
abbrev pub is_some : Option ℕ → Bool
is_some none = false
is_some (some k) = true

-- The checks of a call as a list, in the order in which they are made (docs/SHEETS.md, "Codes": "Of all codes that apply the first in a
-- call's order is returned"). A check has a code, and a place where it applies. The answer is that of the first that applies.

pub record Check : Type 0 where
  pub number : ℕ
  pub found : Option ℕ  -- the place, where the check applies

abbrev pub check : ℕ → Option ℕ → Check
check c o = record { number = c; found = o }

-- a test that applies at one place
abbrev pub when : Bool → ℕ → Option ℕ
when true p = some p
when false p = none

abbrev pub or_refused : ℕ → Option ℕ → Answer → Answer
or_refused c (some p) rest = Refused c p
or_refused c none rest = rest

-- the first check of the list that applies, and else done
abbrev pub first_applying : List Check → (done : Answer) → Answer
first_applying [] done = done
first_applying (k ∷ ks) done = or_refused k.number k.found (first_applying ks done)

abbrev pub NoneApplies : List Check → Type 0
NoneApplies [] = Unit {0}
NoneApplies (k ∷ ks) = (k.found ≡ none) × NoneApplies ks

-- a check of the list has this code, applies at this place, and none before it applies
pub record Refuses (ks : List Check) (c p : ℕ) : Type 0 where
  pub before : List Check
  pub applying : Check
  pub after : List Check
  pub split : ks ≡ before ++ (applying ∷ after)
  pub none_before : NoneApplies before
  pub applies : applying.found ≡ some p
  pub numbered : applying.number ≡ c

-- what an answer says of a list of checks that ends with this place
abbrev pub SaysOf : List Check → (done : ℕ) → Answer → Type 0
SaysOf ks done (Done p) = NoneApplies ks × (p ≡ done)
SaysOf ks done (Refused c p) = Refuses ks c p
