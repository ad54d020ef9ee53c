-- The instructions that are left lead from what stands to the whole.
-- Assumes nothing.
use Prim.Native.Nat.{◌+◌, ◌-◌, ◌<◌, ◌≤◌}
use native.Mathlib.Omega.{arith}
use mathlib.Core.Path.{◌≡◌, subst}
use lib.ListN.{length}
use Rattle.instructions.specs.Emission.{emit}
use Rattle.emitting.specs.Emitting.{InstructionWritten, standing}
use Rattle.emitting.proofs.CodeLaws.{CodeLeft, one-emitted}
use Rattle.emitting.proofs.write_code.Goals as goal

pub loop-k-preserved : goal.loop-k-preserved
loop-k-preserved c =
    let C = c.args.code.now in
    let T = c.args.types.now in
    let k = c.loop-k.k in
    let above : 0 < k = c.loop-k-test.true in
    let below : k ≤ length C = (let b = c.loop-k.auto.k in let e = c.len-k.ensures in omega arith) in
    let more : k ≡ k - 1 + 1 = omega arith in
    one-emitted T C c.args.records c.args.sheet.now c.loop-k.sheet c.step.new.sheet c.loop-k.writer c.step.new.self (k - 1) (omega arith)
    (subst (CodeLeft T C c.args.records c.args.sheet.now c.loop-k.sheet c.loop-k.writer) more c.loop-k.invariant)
    (subst (λ i. InstructionWritten (λ R. emit T (standing c.loop-k.writer R) i) c.loop-k.sheet c.step.new.sheet c.loop-k.writer c.step.new.self) c.get.ensures c.step.ensures)
