-- What the finding of the code stands for, and what a call gives before its answer is put in one number.
use Rattle.std.specs.Prelude.{ℕ, List, ◌≡◌, Result, Ok, Err}
use Rattle.answers.specs.Answers.{Answer, Done, Refused}
use Rattle.answers.specs.Results.{code_number}
use Rattle.answers.specs.declared.Refusal.{Refusal}
use Rattle.replay.specs.declared.Difference.{Difference}
use Rattle.replay.specs.Replay.{Finding, Agrees, Differs, finding, replay_answer, final_replay}

abbrev pub found_of : Result ℕ Difference → Finding
found_of (Ok cycles) = Agrees cycles
found_of (Err d) = Differs d.cycle d.leaf

abbrev pub answer_replayed : Result (Result ℕ Difference) Refusal → Answer
answer_replayed (Ok told) = Done 0
answer_replayed (Err r) = Refused (code_number r.code) r.place

-- where nothing is found beside a refusal, any finding gives what is given with it
abbrev pub finding_told : Result (Result ℕ Difference) Refusal → Finding → Type 0
finding_told (Ok told) f = found_of told ≡ f
finding_told (Err r) f = Unit {0}

pub record ReplayAnswered (sheet stimulus recorded next : List ℕ) (result : Result (Result ℕ Difference) Refusal) (next' : List ℕ) : Type 0 where
  pub answer_is : answer_replayed result ≡ replay_answer sheet stimulus recorded next
  pub finding_is : finding_told result (finding sheet stimulus recorded)
  pub next_is : next' ≡ final_replay sheet stimulus recorded next
