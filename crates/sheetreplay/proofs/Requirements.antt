-- What each function asks of its caller can be had: for sheet T on 1 2 1 and its record 2 1 1.
-- Assumes nothing.
use Prim.Native.Nat.{◌≤◌}
use mathlib.Core.List.{[], ◌∷◌}
use mathlib.Core.Path.{◌≡◌, sym}
use lib.Dec.{lit≤}
use lib.ListN.{length}
use Rattle.behaviour.specs.Bench.{toggle}
use Rattle.listing.specs.Lines.{ascii}
use Rattle.replay_line.specs.ReplayLine.{replay_printed}
use Rattle.replay_line.proofs.Witness.{toggle_replayed}
use Rattle.rooms.specs.Rooms.{sheet_room}

print-line : ascii "agrees 3\n" ≡ replay_printed toggle (1 ∷ 2 ∷ 1 ∷ []) (2 ∷ 1 ∷ 1 ∷ [])
print-line = sym toggle_replayed.0

-- and so of reading the record
replay-files : length toggle ≤ sheet_room
replay-files = lit≤ tt
