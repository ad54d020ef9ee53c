-- What each function asks of its caller can be had: of an empty text in a buffer of 300 bytes, for
-- texts of the listing of sheet T. Assumes nothing.
use Prim.Native.Nat.{ℕ, ◌+◌, ◌^◌, ◌≤◌, ◌<◌}
use mathlib.Core.List.{[], ◌∷◌}
use lib.Dec.{lit≤}
use lib.ListN.{length, replicate}
use Rattle.listing.specs.Digits.{digits}
use Rattle.listing.specs.Lines.{ascii, leaf_text, leaf_texts}
use Rattle.listing.specs.Texts.{Written, HasRoom}

-- a text with nothing in it, in a buffer of 300 bytes
abbrev empty : Written
empty = record { bytes = []; room = 300; rest = replicate 300 0; lender = 0 }

put-byte : HasRoom empty 1
put-byte = lit≤ tt

put-text : HasRoom empty (length (ascii "type "))
put-text = lit≤ tt

put-number : HasRoom empty (length (digits 1))
unfolding digits
put-number = lit≤ tt

put-word-line : HasRoom empty (length (ascii "type ") + 21)
put-word-line = lit≤ tt

put-numbers-line : HasRoom empty (length (ascii "cycle ") + length (ascii " leaf ") + 41)
put-numbers-line = lit≤ tt

-- `put_type`, `put_cycles` and `put_refused`
put-line : HasRoom empty 280
put-line = lit≤ tt

put-leaf : HasRoom empty (length (leaf_text 2))
unfolding digits
put-leaf = lit≤ tt

put-leaves : HasRoom empty (length (leaf_texts (2 ∷ [])))
unfolding digits
put-leaves = lit≤ tt

put-cycle : HasRoom empty 280 × (length {A = ℕ} (2 ∷ []) ≤ 64)
put-cycle = (put-line, lit≤ tt)

put-lines : (0 < 1) × (1 ≤ 64) × (0 + length {A = ℕ} (2 ∷ 1 ∷ 1 ∷ []) < 2 ^ 64)
put-lines = (lit≤ tt, lit≤ tt, lit≤ tt)
