-- Assumes nothing.
use native.Mathlib.Omega.{arith}
use Rattle.listing.proofs.Filling.{line-added}
use Rattle.listing.proofs.Text.put_lines.Goals as goal

pub loop-line-preserved : goal.loop-line-preserved
loop-line-preserved c =
    let step = c.in-Some.ensures.steps in
    let going = c.loop-line.invariant in
    let size = going.0 in
    let same = step.0 in
    (omega arith, tt, line-added going.2 _ _ same step.1 c.requires.some c.put_cycle.ensures)
