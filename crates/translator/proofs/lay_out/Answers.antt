-- What was assembled from the text's instructions is handed on.
-- Assumes nothing.
use Rattle.translator.proofs.LaysOut.{laid_out}
use Rattle.translator.proofs.lay_out.Goals as goal

pub write_out-requires : goal.write_out-requires
write_out-requires c = laid_out c.args.instructions.now c.read.new.self c.requires c.read.ensures.whole
