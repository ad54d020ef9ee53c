-- The invariant: where the search from here on ends, the search from its beginning does. Each slot comes after the one before.
-- Assumes nothing.
use Prim.Native.Nat.{ℕ, ◌-◌, ◌<◌}
use Rattle.structure.specs.PairIndex.{Ends, SlotFound}
use Rattle.structure.proofs.pairs.PairIndex.slot_of.Given as goal

abbrev pub invariant-loop-q : goal.invariant-loop-q
invariant-loop-q l = (l.slot < 12288) × ((k end : ℕ) → Ends l.sheet l.self l.a l.b k l.slot l.rest end → SlotFound l.sheet l.self l.a l.b end)

abbrev pub decreases-loop-q : goal.decreases-loop-q
decreases-loop-q l = 12288 - l.slot
