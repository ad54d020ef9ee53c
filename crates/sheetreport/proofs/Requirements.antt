-- What each function asks of its caller can be had: for sheet T on 1 2 1.
-- Assumes nothing.
use Prim.Native.Nat.{◌≤◌}
use mathlib.Core.List.{[], ◌∷◌}
use mathlib.Core.Path.{◌≡◌, sym}
use lib.Dec.{lit≤}
use lib.ListN.{length}
use Rattle.behaviour.specs.Bench.{toggle}
use Rattle.listing.specs.Lines.{ascii}
use Rattle.report.specs.Reported.{reported}
use Rattle.report.proofs.Witness.{toggle_reported}
use Rattle.rooms.specs.Rooms.{sheet_room}

print-report : ascii "leaf 0: 1\ntotal 1\n" ≡ reported toggle (1 ∷ 2 ∷ 1 ∷ [])
print-report = sym toggle_reported.0

report-files : length toggle ≤ sheet_room
report-files = lit≤ tt
