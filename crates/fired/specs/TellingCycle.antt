-- What telling the alternatives of one cycle asks, and what the call gives before its answer is put in one number.
use Rattle.std.specs.Prelude.{ℕ, ◌≡◌, List, length}
use Rattle.picoella.specs.Language.{OfType}
use Rattle.records.specs.Words.{count}
use Rattle.verdict.specs.Verdict.{verdict}
use Rattle.answers.specs.Answers.{Answer, Accepted}
use Rattle.fired.specs.Telling.{fired_answer, final_fired}
use Rattle.accepted.specs.Accepting.{Accepting}
use Rattle.stimulus.specs.Stimulus.{input_type}

-- the words of one cycle of an accepted sheet with output type t are told, into a slice of one a record
pub record TellingFired (s : List ℕ) (n : ℕ) (widths : List ℕ) (t : ℕ) (input words : List ℕ) : Type 0 where
  pub accepting : Accepting s n widths
  pub accepted : verdict s ≡ Accepted t
  pub typed : OfType (input_type s) input
  pub room : length words ≡ count s

-- the answer of the call, and the final words
pub record FiredAnswered (sheet stimulus words : List ℕ) (answer : Answer) (words' : List ℕ) : Type 0 where
  pub answer_is : answer ≡ fired_answer sheet stimulus words
  pub words_is : words' ≡ final_fired sheet stimulus words
