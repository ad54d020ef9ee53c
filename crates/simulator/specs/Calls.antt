-- What the call of the run gives.
use Rattle.std.specs.Prelude.{ℕ, List}
use Rattle.behaviour.specs.Afterwards.{Bytes, WellFormed, Afterwards}
use Rattle.behaviour.specs.Run.{RunGiven, RunsByRules}

-- the call: what it gives, and of a well-formed one demand 3, and that it is a run of 000's rules; the sheet handed in is one of bytes, and
-- so, by demand 3, is each after it
pub record Ran (sheet stimulus out next : List ℕ) (result : ℕ) (out' next' : List ℕ) : Type 0 where
  pub gives : RunGiven sheet stimulus out next result out' next'
  pub bytes : Bytes sheet
  pub afterwards : (t : ℕ) → WellFormed sheet stimulus out next t → Afterwards sheet stimulus t result out' next'
  pub by_rules : (t : ℕ) → WellFormed sheet stimulus out next t → RunsByRules sheet stimulus t out' next'
