-- The invariant: each word before word k is what the table asks. Assumes nothing.
use Prim.Native.Nat.{ℕ, ◌<◌}
use mathlib.Core.Path.{◌≡◌}
use mathlib.Core.Bool.{true}
use Rattle.records.specs.Says.{meets_word_at}
use Rattle.records.proofs.sheet.Sheet.well_said.Given as goal

abbrev pub invariant-loop-k : goal.invariant-loop-k
invariant-loop-k l = (j : ℕ) → j < l.k → 0 < j → meets_word_at l.self l.rec j ≡ true
