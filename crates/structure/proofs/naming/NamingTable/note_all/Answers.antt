-- Each record adds what its words name. Assumes nothing.
use Prim.Native.Nat.{◌+◌}
use native.Mathlib.Omega.{arith}
use Rattle.records.specs.Says.{namings_below, namings_in}
use Rattle.structure.proofs.Namers.{adds-to, words-below, one-record-more, all-records}
use Rattle.structure.proofs.naming.NamingTable.note_all.Goals as goal

pub loop-q-init : goal.loop-q-init
loop-q-init c = c.requires

pub loop-q-preserved : goal.loop-q-preserved
loop-q-preserved c =
    let s = c.args.sheet.now in
    let q = c.loop-q.q in
    adds-to (λ r. namings_below s r q) (λ r. namings_in s r q 5) (λ r. namings_below s r (q + 1)) _ _
    (λ r. one-record-more s r q) (λ r. words-below s r q) c.loop-q.invariant c.note_record.ensures

pub returns : goal.returns
returns c =
    let n = c.records-q-end.ensures.counted in
    let z = c.loop-q.auto in
    all-records _ c.records-q-end.result c.loop-q.q _ n (omega arith) (omega arith) c.loop-q.invariant
