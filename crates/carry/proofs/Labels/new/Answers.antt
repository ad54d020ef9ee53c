-- Every entry is 0. Assumes nothing.
use Rattle.carry.proofs.Bearing.{no-bearer}
use Rattle.carry.proofs.Labels.new.Goals as goal

pub returns : goal.returns
returns c = no-bearer
