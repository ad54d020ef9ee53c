-- Assumes nothing.
use native.Mathlib.Omega.{arith}
use Rattle.changes.proofs.Lines.{line_more}
use Rattle.changes.proofs.put_leaf_lines.Goals as goal

pub loop-leaf-preserved : goal.loop-leaf-preserved
loop-leaf-preserved c = line_more c.args.outputs.width c.args.outputs.leaves.now c.loop-leaf.leaf (omega arith) c.changes_of.type_inv c.changes_of.ensures c.loop-leaf.invariant c.put_changes.ensures
