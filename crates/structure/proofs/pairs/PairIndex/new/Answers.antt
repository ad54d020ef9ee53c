-- Every slot is empty. Assumes nothing.
use Rattle.structure.proofs.PairSearch.{no-pairs-indexed}
use Rattle.structure.proofs.pairs.PairIndex.new.Goals as goal

pub returns : goal.returns
returns c = no-pairs-indexed
