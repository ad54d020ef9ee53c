-- What the outputs of one cycle are computed from, and what a preview gives before its answer is put in one number.
use Rattle.std.specs.Prelude.{ℕ, ◌≡◌, List, length}
use Rattle.picoella.specs.Language.{leaves, OfType}
use Rattle.records.specs.Trees.{type_at}
use Rattle.verdict.specs.Verdict.{verdict}
use Rattle.answers.specs.Answers.{Answer, Accepted}
use Rattle.preview.specs.Preview.{preview_answer, final_preview}
use Rattle.accepted.specs.Accepting.{Accepting}
use Rattle.stimulus.specs.Stimulus.{input_type}

-- the outputs of one cycle of an accepted sheet are computed, into a slice of their length
pub record Showing (s : List ℕ) (n : ℕ) (widths input out : List ℕ) : Type 0 where
  pub accepting : Accepting s n widths
  pub type : ℕ
  pub accepted : verdict s ≡ Accepted type
  pub typed : OfType (input_type s) input
  pub room : length out ≡ leaves (type_at s type)

-- the answer of a preview, and the final bytes
pub record PreviewAnswered (sheet stimulus out : List ℕ) (answer : Answer) (out' : List ℕ) : Type 0 where
  pub answer_is : answer ≡ preview_answer sheet stimulus out
  pub out_is : out' ≡ final_preview sheet stimulus out
