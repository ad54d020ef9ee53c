-- The parts of the sheet follow each other, from the last to the first.
-- Assumes nothing.
use Prim.Native.Nat.{◌+◌}
use mathlib.Core.Path.{ap, subst}
use Rattle.records.specs.SheetOf.{words}
use Rattle.emitting.specs.Emitting.{RecordPut}
use Rattle.emitting.proofs.TypeLaws.{sheet-whole}
use Rattle.emitting.proofs.write_sheet.Goals as goal

pub returns : goal.returns
returns c =
    let number = ap (λ n. n + 1) c.len.ensures.0 in
    let header = subst (λ n. RecordPut c.write_types.new.sheet c.put_record.new.sheet 1 (words 1 1 c.args.input n c.args.records 0) c.put_record.result) number c.put_record.ensures in
    sheet-whole c.args.types.now c.args.code.now c.args.input c.requires _ _ _ _ c.clear_from.ensures.0 c.write_code.ensures c.write_types.ensures _ header
