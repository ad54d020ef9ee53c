-- Assumes nothing.
use Rattle.stepper.proofs.Copies.{next-left, next-falls}
use Rattle.stepper.proofs.copy_chain.Goals as goal

pub loop-leaf-smaller : goal.loop-leaf-smaller
loop-leaf-smaller c = next-falls _ c.requires.0 (c.loop-leaf.invariant c.requires.0) c.loop-leaf-test.true c.word-leaf.ensures.0

pub loop-leaf-preserved : goal.loop-leaf-preserved
loop-leaf-preserved c = λ g. rw c.offset-at.ensures (next-left _ g (c.loop-leaf.invariant g) c.loop-leaf-test.true c.word-leaf.ensures.0)
