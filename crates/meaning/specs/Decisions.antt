-- The three answers of a match (docs/SHEETS.md, "One cycle", where it "says yes, no or undecided"), and how those of parts and of
-- alternatives are put together.
use Rattle.std.specs.Prelude.{ℕ, zero, suc, ◌≡◌, ◌⊎◌, Bool, true, false, eqb}

pub data Decision : Type 0 where
  Yes No Undecided : Decision

-- an answer is at or below another when it is undecided or the same (000: `le3`)
abbrev pub DecisionBelow : Decision → Decision → Type 0
DecisionBelow a b = (a ≡ Undecided) ⊎ (a ≡ b)

abbrev pub decided : Bool → Decision
decided true = Yes
decided false = No

-- constructor: undecided on 0, else yes or no
abbrev pub constructor_decision : (constructor leaf : ℕ) → Decision
constructor_decision k zero = Undecided
constructor_decision k (suc v) = decided (eqb (suc v) k)

-- pair: no if either part says no, yes if both say yes, else undecided
abbrev pub pair_decision : Decision → Decision → Decision
pair_decision No b = No
pair_decision Yes b = b
pair_decision Undecided No = No
pair_decision Undecided Yes = Undecided
pair_decision Undecided Undecided = Undecided

-- chain: yes if some alternative says yes, no if all say no, else undecided
abbrev pub chain_decision : Decision → Decision → Decision
chain_decision Yes b = Yes
chain_decision No b = b
chain_decision Undecided Yes = Yes
chain_decision Undecided No = Undecided
chain_decision Undecided Undecided = Undecided
