-- Assumes nothing.
use Rattle.stepper.proofs.Cycling.{copying, current-sized, cycle-done}
use Rattle.stepper.proofs.cycle.Goals as goal

pub of-before-requires : goal.of-before-requires
of-before-requires c = rw c.records.ensures.counted (current-sized c.requires)

pub copy_all-requires : goal.copy_all-requires
copy_all-requires c = copying c.requires

pub returns : goal.returns
returns c = cycle-done c.requires (rw c.of-before.ensures at c.look.ensures) c.copy_all.ensures
