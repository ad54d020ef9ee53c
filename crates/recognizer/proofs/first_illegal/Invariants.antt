-- What is left to read is what the machine has left to read; as many states wait as bytes were read at most, so the stack has room.
-- Assumes nothing.
use Prim.Native.Nat.{◌≤◌}
use lib.ListN.{length}
use Rattle.recognizer.proofs.Loop.{LeftToRead}
use Rattle.recognizer.proofs.first_illegal.Given as goal

abbrev pub invariant-loop-i : goal.invariant-loop-i
invariant-loop-i l = LeftToRead l.read l.i l.machine × (length l.machine.waiting ≤ l.i)
