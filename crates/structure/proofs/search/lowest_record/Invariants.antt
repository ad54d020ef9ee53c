-- The invariant: a test that answers as the closure does passes no record below rec. Assumes nothing.
use Prim.Native.Nat.{ℕ, ◌<◌}
use mathlib.Core.Path.{◌≡◌}
use mathlib.Core.Bool.{Bool, false}
use Rattle.records.specs.Words.{count}
use Rattle.structure.specs.Search.{Answering}
use Rattle.structure.proofs.search.lowest_record.Given as goal

abbrev pub invariant-loop-rec : goal.invariant-loop-rec
invariant-loop-rec g l =
    (p : ℕ → Bool) → Answering (goal.F-post g l.test) p l.first (count l.sheet) → (q : ℕ) → q < l.rec → p q ≡ false
