-- The invariant: what is left to take, put where it is taken, makes the whole. Assumes nothing.
use Rattle.records.specs.Words.{count}
use Rattle.values.proofs.Gathering.{left}
use Rattle.carry.specs.Carrying.{Taking}
use Rattle.carry.proofs.Taking.{LeavesRemaining, all_taken}
use Rattle.carry.proofs.take_leaves.Given as goal

abbrev pub invariant-loop-taking : goal.invariant-loop-taking
invariant-loop-taking l = (g : Taking l.old (count l.old) l.from l.new (count l.new) l.to l.initial.next) → LeavesRemaining l.old l.new (all_taken g) l.initial.next l.giving l.taking l.next

abbrev pub decreases-loop-taking : goal.decreases-loop-taking
decreases-loop-taking l = left (count l.new) l.taking
