-- Assumes nothing.
use Rattle.listing.proofs.Items.{leaf-room, leaf-added}
use Rattle.listing.proofs.Text.put_leaves.Goals as goal

pub put_leaf-requires : goal.put_leaf-requires
put_leaf-requires c = leaf-room _ _ c.loop-leaf.invariant c.loop-leaf-test.true c.requires

pub loop-leaf-preserved : goal.loop-leaf-preserved
loop-leaf-preserved c = leaf-added _ _ c.loop-leaf.invariant c.loop-leaf-test.true c.put_leaf.ensures
