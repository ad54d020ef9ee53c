-- Assumes nothing.
use Rattle.records.specs.Words.{count}
use Rattle.records.specs.Trees.{chain}
use Rattle.values.proofs.Gathering.{left}
use Rattle.stepper.specs.Cycling.{Copying}
use Rattle.stepper.proofs.Copies.{Left}
use Rattle.stepper.proofs.copy_chain.Given as goal

abbrev pub invariant-loop-leaf : goal.invariant-loop-leaf
invariant-loop-leaf l = (g : Copying l.sheet (count l.sheet) l.initial.current) → Left l.sheet l.held (chain l.sheet l.first) l.initial.current l.leaf l.current

abbrev pub decreases-loop-leaf : goal.decreases-loop-leaf
decreases-loop-leaf l = left (count l.sheet) l.leaf
