-- What carrying gives before the answer is put in one number.
use Rattle.std.specs.Prelude.{◌≡◌, List, ℕ}
use Rattle.answers.specs.Answers.{Answer}
use Rattle.carry.specs.Carry.{carry_answer, final_carried}

pub record CarryAnswered (old new next : List ℕ) (answer : Answer) (next' : List ℕ) : Type 0 where
  pub answer_is : answer ≡ carry_answer old new next
  pub next_is : next' ≡ final_carried old new next
