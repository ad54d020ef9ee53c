-- Assumes nothing.
use Rattle.stepper.proofs.Copies.{below_next}
use Rattle.stepper.proofs.copy_all.Goals as goal

pub loop-rec-preserved : goal.loop-rec-preserved
loop-rec-preserved c = below_next c.loop-rec.invariant (rw c.records-rec-end.ensures.counted at c.loop-rec-test.true) c.copy_record.ensures
