-- What every call promises (docs/SHEETS.md, "Codes"): "Of all codes that apply the first in a
-- call's order is returned", every place is a number of 32 bits, and "On a refusal every lent slice
-- is as it was". It is one record over a call's list of checks, what a call to which none applies
-- is in the call's own words, the place that it then gives, its answer, and the slices that it is
-- lent. Each call has it as one promise of its front page; `proofs/StandardLaws.antt` gives it to
-- every list of checks.
use Rattle.std.specs.Prelude.{ℕ, ◌^◌, ◌<◌, ◌≡◌, ◌↔◌, ◌≢◌, List, [], ◌∷◌}
use Rattle.answers.specs.Answers.{code, place, Check, NoneApplies, Refuses}
use Rattle.answers.specs.Answers.{Answer}
use Rattle.answers.specs.Answers.{Done, Refused}

-- a slice that a call may write to: its content at entry and at the end
pub record LentSlice : Type 0 where
  pub entry : List ℕ
  pub exit : List ℕ

abbrev pub lent_slice : (entry exit : List ℕ) → LentSlice
lent_slice old new = record { entry = old; exit = new }

abbrev pub AllUnaltered : List LentSlice → Type 0
AllUnaltered [] = Unit {0}
AllUnaltered (l ∷ ls) = (l.exit ≡ l.entry) × AllUnaltered ls

-- what an answer says of a call: done, with that place, where the call is well formed; or refused
-- by a check of the list, at its place, where no check before it applies
abbrev pub SaysOfCall : (checks : List Check) (Formed : Type 0) (done : ℕ) → Answer → Type 0
SaysOfCall ks Formed done (Done p) = Formed × (p ≡ done)
SaysOfCall ks Formed done (Refused c p) = Refuses ks c p

pub record StandardLaws (checks : List Check) (Formed : Type 0) (done : ℕ) (answer : Answer) (slices : List LentSlice) : Type 0 where
  -- a call is well formed exactly where no check applies
  pub formed_where : NoneApplies checks ↔ Formed
  -- each answer is given exactly where what it says holds
  pub lowest_first : (a : Answer) → answer ≡ a ↔ SaysOfCall checks Formed done a
  -- the code of a refusal is not 0
  pub refusal_coded : (c p : ℕ) → answer ≡ Refused c p → 0 < c
  -- the place is below 2^32, so that code and place are read back from the number returned
  -- (`TakenApart`)
  pub place_small : place answer < 2 ^ 32
  -- a refusal leaves every lent slice as it was
  pub unaltered : code answer ≢ 0 → AllUnaltered slices
