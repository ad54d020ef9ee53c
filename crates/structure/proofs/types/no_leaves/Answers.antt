-- Every entry is 0. Assumes nothing.
use Rattle.structure.proofs.LeafCounts.{counts-none}
use Rattle.structure.proofs.types.no_leaves.Goals as goal

pub returns : goal.returns
returns c = counts-none
