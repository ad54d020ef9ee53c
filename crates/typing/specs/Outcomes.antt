-- What judging an expression gives, and what a result of the code stands for.
use Rattle.std.specs.Prelude.{ℕ, Result, Ok, Err}
use Rattle.typing.specs.declared.BrokenRule.{BrokenRule}

-- its type record, or the record at which a type rule is broken
pub data Outcome : Type 0 where
  Sound Fault : ℕ → Outcome

abbrev pub outcome_of : Result ℕ BrokenRule → Outcome
outcome_of (Ok t) = Sound t
outcome_of (Err rule) = Fault rule.record
