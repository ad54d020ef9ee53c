-- A word, the digits of a number, of which there are at most 20, and the line's end. Assumes
-- nothing.
use native.Mathlib.Omega.{arith}
use Rattle.listing.proofs.Lengths.{number-few}
use Rattle.listing.proofs.Added.{added-long, added_then}
use Rattle.listing.proofs.Text.put_word_line.Goals as goal

pub put_number-requires : goal.put_number-requires
put_number-requires c = let few = number-few _ c.ranges.n.fits in let word = added-long c.put_text.ensures in let room = c.put_text.ensures.room in omega arith

pub put_byte-requires : goal.put_byte-requires
put_byte-requires c =
    let few = number-few _ c.ranges.n.fits in
    let word = added-long c.put_text.ensures in
    let number = added-long c.put_number.ensures in
    let room = c.put_text.ensures.room in
    let same = c.put_number.ensures.room in
    omega arith

pub returns : goal.returns
returns c = added_then (added_then c.put_text.ensures c.put_number.ensures) c.put_byte.ensures
