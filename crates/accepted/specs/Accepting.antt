-- An accepted sheet of n records, with the table of widths that the check filled: what functions above the check are called with.
use Rattle.std.specs.Prelude.{ℕ, ◌≡◌, List}
use Rattle.records.specs.Sized.{Sized}
use Rattle.verdict.specs.Verdict.{verdict}
use Rattle.verdict.specs.Widths.{Widths}
use Rattle.answers.specs.Answers.{Accepted}

pub record Accepting (s : List ℕ) (n : ℕ) (widths : List ℕ) : Type 0 where
  pub sized : Sized s n
  pub type : ℕ
  pub accepted : verdict s ≡ Accepted type
  pub table : Widths s widths
