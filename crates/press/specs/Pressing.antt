-- What the functions of one press away ask and give.
use Rattle.std.specs.Prelude.{ℕ, ◌≡◌, List}
use Rattle.picoella.specs.Language.{bounds, OfType}
use Rattle.verdict.specs.Verdict.{verdict}
use Rattle.answers.specs.Answers.{Accepted}
use Rattle.stimulus.specs.Stimulus.{input_type}
use Rattle.probe.specs.OutputLeaf.{leaf_for}

-- changes of an input are tried; `present` is the output leaf for the input as it is
pub record Pressing (s : List ℕ) (leaf : ℕ) (input : List ℕ) (present : ℕ) : Type 0 where
  pub typed : OfType (input_type s) input
  pub value : present ≡ leaf_for s leaf input

-- one cycle of input of an accepted sheet is asked about
pub record PressingAll (s counts stim : List ℕ) : Type 0 where
  pub type : ℕ
  pub accepted : verdict s ≡ Accepted type
  pub counts_are : counts ≡ bounds (input_type s)
  pub typed : OfType (input_type s) stim
