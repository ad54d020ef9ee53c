-- The invariant: no record below rec has a label that a lower one bears, and the table has the delays below rec. Assumes nothing.
use native.Mathlib.Omega.{arith}
use Rattle.carry.proofs.Bearing.{found-twice, none-twice}
use Rattle.carry.proofs.Labels.note_all.Goals as goal

pub returns-then-note : goal.returns-then-note
returns-then-note c = found-twice (let e = c.records-rec-end.ensures.counted in let h = c.loop-rec-test.true in omega arith) c.loop-rec.invariant.0 c.note.ensures c.if-note.true

pub returns : goal.returns
returns c =
    let e = c.records-rec-end.ensures.counted in
    let h = c.loop-rec-test.false in
    let k = c.loop-rec.auto.rec-end in
    none-twice (omega arith) (omega arith) c.loop-rec.invariant.0 c.loop-rec.invariant.1
