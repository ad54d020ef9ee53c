-- What the functions ask is met: by two cycles of two leaves, and by room for three lines.
-- Assumes nothing.
use Prim.Native.Nat.{ℕ, ◌+◌, ◌*◌, ◌/◌, ◌≤◌, ◌<◌}
use mathlib.Core.List.{List, [], ◌∷◌}
use lib.Dec.{lit≤}
use lib.ListN.{length, replicate}
use Rattle.listing.specs.Wrote.{line_bytes}
use Rattle.listing.specs.Texts.{HasRoom}

outputs : List ℕ
outputs = 1 ∷ 1 ∷ 2 ∷ 1 ∷ []

changed : (2 ≤ 2) × (2 < length outputs)
unfolding outputs
changed = (lit≤ tt, lit≤ tt)

-- and `put_leaf_lines` and `put_report` with as many leaves
changes-of : 0 < 2
changes-of = lit≤ tt

changes-in : (0 < 1) × (1 < length outputs / 2)
unfolding outputs
changes-in = (lit≤ tt, lit≤ tt)

-- and `put_changes`, `put_total` and `put_leaf_lines`
put_report :
    HasRoom (record { bytes = []; room = 2 * line_bytes + line_bytes; rest = replicate (2 * line_bytes + line_bytes) 0; lender = 0 })
    (2 * line_bytes + line_bytes)
put_report = lit≤ tt
