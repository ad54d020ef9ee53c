-- Assumes nothing.
use mathlib.Core.Path.{refl}
use Rattle.probe.proofs.Rooms.{front_long}
use Rattle.press.proofs.Calls.{stim-few}
use Rattle.press.proofs.press_all.Goals as goal

pub slice_bounds-input-end : goal.slice_bounds-input-end
slice_bounds-input-end c = front_long refl (stim-few c.requires)
