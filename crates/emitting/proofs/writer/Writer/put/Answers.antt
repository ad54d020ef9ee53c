-- The record, and fewer slots.
-- Assumes nothing.
use native.Mathlib.Omega.{arith}
use mathlib.Core.Path.{ap}
use lib.ListN.{length}
use Rattle.emitting.proofs.AdvanceLaws.{put_alone}
use Rattle.emitting.proofs.StepLaws.{popped-fewer}
use Rattle.emitting.proofs.writer.Writer.put.Goals as goal

pub returns : goal.returns
returns c =
    let fewer = popped-fewer c.args.slots c.args.self.now.stack in
    let e = ap length c.pop.ensures in
    (λ R. put_alone c.put_record-self.ensures c.pop.ensures, omega arith)
