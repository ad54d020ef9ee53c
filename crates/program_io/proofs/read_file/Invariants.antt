use Rattle.std.proofs.Common.{length, ◌-◌, ◌≤◌}
use Rattle.program_io.proofs.read_file.Given as goal

abbrev pub invariant-loop-n : goal.invariant-loop-n
invariant-loop-n l = l.n ≤ length l.buffer

abbrev pub decreases-loop-n : goal.decreases-loop-n
decreases-loop-n l = length l.buffer - l.n
