-- The leaves that are left lead from what stands to the whole.
-- Assumes nothing.
use Prim.Native.Nat.{◌-◌}
use native.Mathlib.Omega.{arith}
use mathlib.Core.Path.{◌≡◌}
use Prim.Native.Nat.{◌+◌}
use mathlib.Core.Path.{subst}
use Rattle.emitting.proofs.ZeroLaws.{ZerosLeft, zero-put}
use Rattle.emitting.proofs.writer.Writer.put_zeros.Goals as goal

pub loop-preserved : goal.loop-preserved
loop-preserved c =
    let t = c.loop-test.true in
    let less : c.args.count - c.loop.counter - 1 ≡ c.args.count - (c.loop.counter + 1) = omega arith in (
      subst (ZerosLeft c.args.sheet.now c.args.self.now.cursor c.args.self.now.next c.args.count c.put_record-self.new.sheet c.put_record-self.result c.put_record-self.result) less
          (zero-put (omega arith) c.loop.invariant.0 c.put_record-self.ensures),
      c.loop.invariant.1,
    )
