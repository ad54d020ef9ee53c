-- The cycles of a well-formed stimulus of an accepted sheet, one after the other: each takes `wi`
-- bytes and puts out `wo`.
use Rattle.std.specs.Prelude.{ℕ, ◌≡◌, false, List, length}
use Rattle.std.proofs.Math.Option.{none}
use Rattle.picoella.specs.Language.{leaves}
use Rattle.records.specs.Sized.{Sized}
use Rattle.records.specs.Trees.{type_at}
use Rattle.answers.specs.Answers.{lowest}
use Rattle.verdict.specs.Verdict.{verdict}
use Rattle.verdict.specs.Widths.{Widths}
use Rattle.answers.specs.Answers.{Accepted}
use Rattle.stimulus.specs.Stimulus.{input_leaves, cycle_count, wrong_stimulus, wrong_byte}

pub record WholeCycles (s : List ℕ) (n : ℕ) (widths stim : List ℕ) (wi wo count : ℕ) : Type 0 where
  pub sized : Sized s n
  pub type : ℕ
  pub accepted : verdict s ≡ Accepted type
  pub table : Widths s widths
  pub whole : wrong_stimulus s stim ≡ false
  pub fitting : lowest (wrong_byte s stim) (length stim) ≡ none
  pub takes : wi ≡ input_leaves s
  pub gives : wo ≡ leaves (type_at s type)
  pub counted : count ≡ cycle_count s stim
