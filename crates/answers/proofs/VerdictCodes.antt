-- The code of a verdict is at most 7.
-- Assumes nothing.
use mathlib.Core.Path.{◌≡◌}
use Prim.Native.Nat.{ℕ, ◌<◌}
use native.Mathlib.Omega.{arith}
use Rattle.answers.specs.Answers.{code, verdict_answer}
use Rattle.answers.specs.Answers.{Verdict}
use Rattle.answers.specs.Answers.{
  Accepted,
  WrongLength,
  WrongHeader,
  WrongRecord,
  WrongNaming,
  WrongType,
  TooDeep,
  IllTyped,
}

pub code-small : (v : Verdict) {c : ℕ} → c ≡ code (verdict_answer v) → c < 256
code-small (Accepted t) e = omega arith
code-small WrongLength e = omega arith
code-small WrongHeader e = omega arith
code-small (WrongRecord r) e = omega arith
code-small (WrongNaming r) e = omega arith
code-small (WrongType r) e = omega arith
code-small (TooDeep r) e = omega arith
code-small (IllTyped r) e = omega arith
