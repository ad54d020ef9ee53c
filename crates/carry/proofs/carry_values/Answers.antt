-- The labels of an accepted sheet are entered in an empty table. Assumes nothing.
use Rattle.carry.proofs.Calls.{searching}
use Rattle.carry.proofs.carry_values.Goals as goal

pub note_all-twice-requires : goal.note_all-twice-requires
note_all-twice-requires c = (searching c.requires.0, c.new-labels.ensures _)
