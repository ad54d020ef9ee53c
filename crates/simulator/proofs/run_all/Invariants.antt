-- Assumes nothing.
use Prim.Native.Nat.{◌*◌}
use Rattle.simulator.proofs.Running.{Before}
use Rattle.simulator.proofs.run_all.Given as goal

abbrev pub invariant-loop-k : goal.invariant-loop-k
invariant-loop-k l =
    Before l.checked.sheet l.stim l.leaves.input l.leaves.output l.cycles l.initial.out l.k (l.k * l.leaves.input) (l.k * l.leaves.output)
    l.room.env l.room.held l.current l.out
