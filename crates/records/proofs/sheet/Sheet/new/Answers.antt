-- The length is tested: whole records, as many as there may be. Assumes nothing.
use mathlib.Core.Path.{refl}
use native.Mathlib.Omega.{arith}
use Rattle.records.specs.Words.{count}
use Rattle.records.proofs.sheet.Sheet.new.Goals as goal

pub invariant_of-result : goal.invariant_of-result
unfolding count
invariant_of-result c =
    let a = c.records_in-records.ensures in let low = c.if-bytes-lt-RECORD_BYTES.false in let high = c.if-bytes-gt-SHEET_BYTES.false in
    let e = c.if-records-bytes.false in
    record { counted = a; whole = omega arith; some = omega arith; few = omega arith }

pub returns-clause-some : goal.returns-clause-some
unfolding count
returns-clause-some c =
    let a = c.records_in-records.ensures in let low = c.if-bytes-lt-RECORD_BYTES.false in let high = c.if-bytes-gt-SHEET_BYTES.false in
    let e = c.if-records-bytes.false in
    (λ _. record { counted = refl; whole = omega arith; some = omega arith; few = omega arith }, λ _. refl)
