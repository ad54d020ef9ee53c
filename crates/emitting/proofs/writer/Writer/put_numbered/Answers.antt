-- The record is put, and then the indices that wait for it.
-- Assumes nothing.
use native.Mathlib.Omega.{arith}
use mathlib.Core.Path.{ap}
use lib.ListN.{length}
use Rattle.instructions.specs.Emission.{completed}
use Rattle.emitting.specs.Slots.{popped}
use Rattle.emitting.proofs.AdvanceLaws.{expression-put, the_same}
use Rattle.emitting.proofs.StepLaws.{popped-fewer}
use Rattle.emitting.proofs.writer.Writer.put_numbered.Goals as goal

pub complete-requires : goal.complete-requires
complete-requires c =
    let fewer = popped-fewer c.args.slots c.args.self.now.stack in
    let e = ap length c.pop.ensures in
    let one = c.put_numbered-self.ensures.one_less in
    let long = c.put_numbered-self.ensures.as_long in
    let a = c.requires.sheet_long in
    let b = c.requires.room in
    record { sheet_long = omega arith; room = omega arith }

pub returns : goal.returns
returns c =
    let fewer = popped-fewer c.args.slots c.args.self.now.stack in
    let e = ap length c.pop.ensures in
    let h = c.complete.ensures.1 in (
      expression-put (popped c.args.slots c.args.self.now.stack) c.put_numbered-self.ensures
          (λ Q. the_same (ap (completed Q c.put_numbered-self.result) c.pop.ensures) (c.complete.ensures.0 Q)),
      omega arith,
    )
