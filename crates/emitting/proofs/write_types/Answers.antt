-- The types that are left lead from what stands to the whole.
-- Assumes nothing.
use Prim.Native.Nat.{◌+◌, ◌-◌, ◌<◌, ◌≤◌}
use native.Mathlib.Omega.{arith}
use mathlib.Core.Path.{◌≡◌, subst}
use lib.ListN.{length}
use Rattle.instructions.specs.Emission.{type_record}
use Rattle.emitting.specs.Emitting.{RecordPut}
use Rattle.emitting.proofs.TypeLaws.{TypesLeft, one-type-put}
use Rattle.emitting.proofs.write_types.Goals as goal

pub loop-k-preserved : goal.loop-k-preserved
loop-k-preserved c =
    let T = c.args.types.now in
    let k = c.loop-k.k in
    let above : 0 < k = c.loop-k-test.true in
    let below : k ≤ length T = c.loop-k.invariant.lower in
    let more : k ≡ k - 1 + 1 = omega arith in
    one-type-put T c.args.sheet.now c.loop-k.sheet c.put_type_record-cursor.new.sheet (k - 1) c.loop-k.cursor c.loop-k.next c.put_type_record-cursor.result (omega arith)
    (subst (λ j. TypesLeft T c.args.sheet.now c.loop-k.sheet j c.loop-k.cursor c.loop-k.next) more c.loop-k.invariant)
    (subst (λ x. RecordPut c.loop-k.sheet c.put_type_record-cursor.new.sheet c.loop-k.cursor (type_record x c.loop-k.next) c.put_type_record-cursor.result) c.get.ensures c.put_type_record-cursor.ensures)
