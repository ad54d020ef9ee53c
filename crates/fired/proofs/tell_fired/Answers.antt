-- Assumes nothing.
use mathlib.Core.Path.{refl, ◌∙◌}
use native.Mathlib.Omega.{arith}
use Rattle.stepper.proofs.CallCycles.{output-there, output-few}
use Rattle.fired.proofs.Telling.{told-looking, told-words}
use Rattle.fired.proofs.tell_fired.Goals as goal

pub bounds-checked-checked : goal.bounds-checked-checked
bounds-checked-checked c = output-there c.requires.accepting c.requires.accepted

pub slice_bounds-out-end : goal.slice_bounds-out-end
slice_bounds-out-end c = let f = output-few c.requires.accepting c.requires.accepted in omega arith

pub look-requires : goal.look-requires
look-requires c = rw (c.of-current.ensures ∙ c.bytes.ensures) (told-looking c.requires _ _ _ c.new-room.ensures.env c.new-room.ensures.held refl)

pub returns : goal.returns
returns c = told-words c.requires _ _ _ c.new-room.ensures.fired (rw (c.of-current.ensures ∙ c.bytes.ensures) at (c.look.ensures.noted.if_whole refl)) c.overwrite.ensures
