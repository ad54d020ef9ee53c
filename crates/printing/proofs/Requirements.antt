-- What each function asks of its caller can be had: for the outputs of sheet T on 1 2 1, of one leaf each, and a buffer of 600 bytes.
-- Assumes nothing.
use Prim.Native.Nat.{ℕ, ◌*◌, ◌≤◌}
use mathlib.Core.List.{List, [], ◌∷◌}
use native.Mathlib.Omega.{arith}
use lib.Dec.{lit≤}
use lib.ListN.{length, replicate, length-replicate}
use Rattle.printing.specs.PutLines.{PuttingLines}

buffer : List ℕ
buffer = replicate 600 0

-- a text that ends by byte 600 has room
room : (n : ℕ) → n ≤ 600 → n ≤ length buffer
unfolding buffer
room n h = let l = length-replicate {A = ℕ} 600 0 in omega arith

first_piece : 560 ≤ length buffer
first_piece = room 560 (lit≤ tt)

-- from the first cycle on
put_rest : PuttingLines (record { bytes = []; room = 600; rest = replicate 600 0; lender = 0 }) 1 0 (2 ∷ 1 ∷ 1 ∷ [])
put_rest = record { room = lit≤ tt; inside = lit≤ tt }

-- from the second on
next-piece : (280 ≤ length buffer) × (1 * 1 ≤ length {A = ℕ} (2 ∷ 1 ∷ 1 ∷ []))
next-piece = (room 280 (lit≤ tt), lit≤ tt)

put-no-file : 280 ≤ length buffer
put-no-file = room 280 (lit≤ tt)
