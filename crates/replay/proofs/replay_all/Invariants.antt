-- Assumes nothing.
use Prim.Native.Nat.{◌*◌}
use lib.ListN.{take}
use Rattle.replay.proofs.Cycles.{BeforeReplay}
use Rattle.replay.proofs.replay_all.Given as goal

abbrev pub invariant-loop-k : goal.invariant-loop-k
invariant-loop-k l =
    BeforeReplay l.checked.sheet l.stim l.recorded l.leaves.input l.leaves.output l.cycles l.k (l.k * l.leaves.input) (l.k * l.leaves.output)
    l.room.env l.room.held l.current (take l.leaves.output l.value)
