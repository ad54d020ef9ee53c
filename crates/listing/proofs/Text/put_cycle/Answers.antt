-- The cycle's number, a colon, the leaves, of which there are at most 64 of at most 4 bytes, and
-- the line's end. Assumes nothing.
use native.Mathlib.Omega.{arith}
use Rattle.listing.proofs.Lengths.{number-few, leaf-texts-short}
use Rattle.listing.proofs.Added.{added-long, added_then}
use Rattle.listing.proofs.Text.put_cycle.Goals as goal

pub put_number-requires : goal.put_number-requires
put_number-requires c = let few = number-few _ c.ranges.k.fits in omega arith

pub put_byte-requires : goal.put_byte-requires
put_byte-requires c =
    let few = number-few _ c.ranges.k.fits in
    let number = added-long c.put_number.ensures in
    let number_room = c.put_number.ensures.room in
    omega arith

pub put_leaves-requires : goal.put_leaves-requires
put_leaves-requires c =
    let few = number-few _ c.ranges.k.fits in
    let number = added-long c.put_number.ensures in
    let number_room = c.put_number.ensures.room in
    let colon = added-long c.put_byte.ensures in
    let colon-room = c.put_byte.ensures.room in
    let short = leaf-texts-short c.args.leaves.now (λ i. (c.type_inv.leaves i).fits) in
    omega arith

pub put_byte-requires-2 : goal.put_byte-requires-2
put_byte-requires-2 c =
    let few = number-few _ c.ranges.k.fits in
    let number = added-long c.put_number.ensures in
    let number_room = c.put_number.ensures.room in
    let colon = added-long c.put_byte.ensures in
    let colon-room = c.put_byte.ensures.room in
    let leaves = added-long c.put_leaves.ensures in
    let leaves-room = c.put_leaves.ensures.room in
    let short = leaf-texts-short c.args.leaves.now (λ i. (c.type_inv.leaves i).fits) in
    omega arith

pub returns : goal.returns
returns c = added_then (added_then (added_then c.put_number.ensures c.put_byte.ensures) c.put_leaves.ensures) c.put_byte-2.ensures
