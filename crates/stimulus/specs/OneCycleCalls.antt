-- A call on one cycle that is lent one slice: the sheet by 1 to 7, then 8 and 9 for exactly one cycle, then one check more, of the
-- slice's length. Which code that has and what length is needed is the call's own.
use Rattle.std.specs.Prelude.{ℕ, ◌≡◌, false, List, length}
use Rattle.std.proofs.Math.Option.{none}
use Rattle.answers.specs.Answers.{lowest}
use Rattle.verdict.specs.Verdict.{output_type, verdict}
use Rattle.answers.specs.Answers.{Accepted}
use Rattle.stimulus.specs.Stimulus.{wrong_byte}
use Rattle.stimulus.specs.OneCycle.{not_one_cycle}

-- a call to which no check applies
pub record FormedOneCycle (sheet stimulus lent : List ℕ) (needed : ℕ) : Type 0 where
  pub accepted : verdict sheet ≡ Accepted (output_type sheet)
  pub one_cycle : not_one_cycle sheet stimulus ≡ false
  pub fitting : lowest (wrong_byte sheet stimulus) (length stimulus) ≡ none
  pub room : length lent ≡ needed
