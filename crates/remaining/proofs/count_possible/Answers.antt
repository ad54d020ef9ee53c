-- Assumes nothing.
use mathlib.Core.Path.{refl}
use Rattle.remaining.proofs.Inputs.{counts-room-fits, counts-done}
use borrow.Author.Rules.{rules}
use Rattle.remaining.proofs.count_possible.Goals as goal

pub slice_bounds-sets-end : goal.slice_bounds-sets-end
slice_bounds-sets-end c = counts-room-fits c.requires refl

pub returns : goal.returns
returns c = counts-done c.requires refl c.root_sets.ensures (search rules) c.count_sets.ensures
