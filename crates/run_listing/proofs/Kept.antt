-- One term of each promise of the front page, `specs/Promises.antt`.
-- Assumes nothing.
use mathlib.Core.Path.{◌∙◌}
use lib.ListN.{take}
use Rattle.printing.specs.Pieces.{told_text}
use Rattle.printing.proofs.Pieces.{laid-end-to-end}
use Rattle.run_listing.specs.Promises.{PrintoutPromises}
use Rattle.run_listing.proofs.Telling.{told-printed}
use Rattle.run_listing.proofs.Witness.{toggle_listed}
use Rattle.run_listing.proofs.EmptyListed.{empty_listed}

pub kept : PrintoutPromises
kept = record {
  pieces_are_printed = λ s stim c p t w many out' next' text told pieces.
      laid-end-to-end w (take many out') (told_text c p t w (take many out')) text pieces ∙ told-printed told;
  toggle_listed = toggle_listed;
  empty_listed = empty_listed;
}
