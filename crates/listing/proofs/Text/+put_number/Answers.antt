-- Assumes nothing.
use native.Mathlib.Omega.{arith}
use Rattle.listing.proofs.Added.{added-long, one-long, tenth_long, one-digit, last-digit}
use Rattle.listing.proofs.Text.+put_number.Goals.{then-n-ge10, else-n-ge10}
use Rattle.listing.proofs.Text.+put_number.Goals as goal

pub put_number-requires : goal.put_number-requires
put_number-requires t c = let tenth = tenth_long c.args.n c.if-n-ge10.true in (omega arith, omega arith)

pub put_byte-requires : goal.put_byte-requires
put_byte-requires t c = elim c.if-n-ge10.branch [
  | then-n-ge10 w ↦ let tenth = tenth_long c.args.n w.if-n-ge10.true in let long = added-long w.put_number.ensures in let r = w.put_number.ensures.room in rw w.self-is (omega arith)
  | else-n-ge10 w ↦ let one = one-long c.args.n (omega arith) in rw w.self-is (omega arith)
]

pub returns : goal.returns
returns t c = elim c.if-n-ge10.branch [
  | then-n-ge10 w ↦ last-digit c.args.n w.if-n-ge10.true w.put_number.ensures (rw w.self-is at c.put_byte.ensures)
  | else-n-ge10 w ↦ one-digit c.args.n (omega arith) (rw w.self-is at c.put_byte.ensures)
]
