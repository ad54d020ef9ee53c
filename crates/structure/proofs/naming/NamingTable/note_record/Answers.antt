-- Each word adds what it names. Assumes nothing.
use native.Mathlib.Omega.{arith}
use Rattle.records.proofs.Kinded.{asked-at}
use Rattle.structure.proofs.Namers.{adds-nothing, adds-word, adds-noted, all-words}
use Rattle.structure.proofs.naming.NamingTable.note_record.Goals as goal

pub loop-at-init : goal.loop-at-init
loop-at-init c = adds-nothing _

pub loop-at-preserved : goal.loop-at-preserved
loop-at-preserved c =
    let s = c.args.sheet.now in
    adds-word s c.args.q c.loop-at.at _ _ _ c.loop-at.auto.at c.loop-at-test.true c.loop-at.invariant
    (adds-noted s c.args.q c.loop-at.at _ c.word.result _ _ (asked-at s c.args.q c.loop-at.at c.kind.result c.asks-asks.result _ c.kind.ensures c.asks-asks.ensures c.loop-at-test.true) c.word.ensures.0 c.note.ensures)

pub returns : goal.returns
returns c = all-words c.args.sheet.now c.args.q c.loop-at.at _ _ (omega arith) c.loop-at.invariant
