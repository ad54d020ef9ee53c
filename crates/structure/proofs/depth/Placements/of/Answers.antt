-- At first only the header is placed. Assumes nothing.
use Rattle.structure.proofs.depth.Placements.of.Goals as goal

pub place_all-requires : goal.place_all-requires
place_all-requires c = (c.requires.0, c.requires.1, c.requires.2, c.new-placed.ensures _)
