-- The invariant: the records below rec have taken what they take. Assumes nothing.
use native.Mathlib.Omega.{arith}
use Rattle.carry.proofs.Takes.{none-taken, taken_next}
use Rattle.carry.proofs.take_all.Goals as goal

pub loop-rec-init : goal.loop-rec-init
loop-rec-init c = none-taken c.requires

pub loop-rec-preserved : goal.loop-rec-preserved
loop-rec-preserved c = taken_next c.requires c.loop-rec.invariant (let e = c.records-rec-end.ensures.counted in let h = c.loop-rec-test.true in omega arith) c.take_record.ensures
