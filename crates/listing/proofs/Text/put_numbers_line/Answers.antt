-- The word, the number, and then the second ones as the end of a line. Assumes nothing.
use native.Mathlib.Omega.{arith}
use Rattle.listing.proofs.Lengths.{number-few}
use Rattle.listing.proofs.Added.{added-long}
use Rattle.listing.proofs.Text.put_numbers_line.Goals as goal

pub put_number-requires : goal.put_number-requires
put_number-requires c = let few = number-few _ c.ranges.n.fits in let word = added-long c.put_text.ensures in let room = c.put_text.ensures.room in omega arith

pub put_word_line-requires : goal.put_word_line-requires
put_word_line-requires c =
    let few = number-few _ c.ranges.n.fits in
    let word = added-long c.put_text.ensures in
    let number = added-long c.put_number.ensures in
    let room = c.put_text.ensures.room in
    let same = c.put_number.ensures.room in
    omega arith
