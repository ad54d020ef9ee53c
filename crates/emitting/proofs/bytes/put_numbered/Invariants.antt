-- The words from the k-th on are written.
-- Assumes nothing.
use Prim.Native.Nat.{◌+◌, ◌*◌}
use mathlib.Core.Path.{◌≡◌}
use lib.ListN.{length, drop}
use Rattle.emitting.proofs.RecordLaws.{words_then}
use Rattle.emitting.proofs.bytes.put_numbered.Given as goal

abbrev pub invariant-loop-k : goal.invariant-loop-k
invariant-loop-k l =
    (drop (l.start + 2 * l.k) l.sheet ≡ words_then (drop l.k l.record) (drop (12 * l.cursor) l.initial.sheet))
    × (length l.sheet ≡ length l.initial.sheet)
