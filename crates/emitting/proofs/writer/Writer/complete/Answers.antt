-- The indices that wait are written while one is on top.
-- Assumes nothing.
use native.Mathlib.Omega.{arith}
use mathlib.Core.Path.{ap}
use lib.ListN.{length}
use Rattle.emitting.proofs.AdvanceLaws.{no-index-put, index-put, indices-done}
use Rattle.emitting.proofs.writer.Writer.complete.Goals as goal

pub loop-kind-init : goal.loop-kind-init
loop-kind-init c = no-index-put c.requires

pub loop-kind-preserved : goal.loop-kind-preserved
loop-kind-preserved c = index-put _ c.in-Some.ensures c.loop-kind.invariant c.put_record-self.ensures

pub returns : goal.returns
returns c =
    let done = c.in_default.ensures in
    let pushed = ap length c.push.ensures in
    let same = ap length done.1 in
    let lower = c.loop-kind.invariant.lower in
    (indices-done c.push.new.self c.loop-kind.self.cursor done c.loop-kind.invariant c.push.ensures, omega arith)
