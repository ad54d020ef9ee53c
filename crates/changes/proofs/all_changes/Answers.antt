-- Assumes nothing.
use native.Mathlib.Omega.{arith}
use mathlib.Core.Path.{sym, ap, ◌∙◌}
use lib.ListN.{length}
use Rattle.changes.proofs.Counts.{none-up-to-one}
use Rattle.changes.proofs.Loops.{all-ended}
use Rattle.changes.proofs.all_changes.Goals as goal

pub loop-k-init : goal.loop-k-init
loop-k-init c = (sym (ap length (none-up-to-one c.args.outputs.width c.args.outputs.leaves.now)), omega arith, omega arith)

pub returns : goal.returns
returns c =
    let counted = c.loop-k.invariant in
    counted.0 ∙ all-ended c.args.outputs.width c.args.outputs.leaves.now c.loop-k.k (omega arith) (omega arith) (omega arith)
