-- The answers of tests on values.
use Rattle.std.specs.Prelude.{ℕ, ◌<◌, ◌≡◌, Bool, true, false, List, ◌≢◌, length, get_or}
use Rattle.meaning.specs.Decisions.{Decision}
use Rattle.meaning.specs.Decisions as Decisions
use Rattle.behaviour.specs.Firing.{or_after}
use Rattle.values.specs.declared.Match.{Match}
use Rattle.values.specs.declared.Match.TheVariants.{Yes, No, Undecided}

abbrev pub decision_of : Match → Decision
decision_of (Yes r) = Decisions.Yes
decision_of No = Decisions.No
decision_of Undecided = Decisions.Undecided

-- the record that a match tells: of an alternative that says yes, else 0
abbrev pub told : Match → ℕ
told (Yes r) = r
told No = 0
told Undecided = 0

-- the answer of the one alternative at record p
pub record Own (p : ℕ) (answer : Match) (decision : Decision) : Type 0 where
  pub decides : decision_of answer ≡ decision
  pub tells : told answer ≡ or_after decision p 0

-- a test of whether two values are the same
pub record ValuesCompared (v w : List ℕ) (answer : Bool) : Type 0 where
  pub same : answer ≡ true → v ≡ w
  pub other : answer ≡ false → v ≡ w → ⊥

-- a test of whether a value is defined in every leaf
pub record LeavesDefined (v : List ℕ) (answer : Bool) : Type 0 where
  pub every : answer ≡ true → (i : ℕ) → i < length v → get_or v i 0 ≢ 0
  pub not_every : answer ≡ false → (i : ℕ) × (i < length v) × (get_or v i 0 ≡ 0)
