-- As many letters, and each the same.
-- Assumes nothing.
use Rattle.symbols.proofs.Letters.{differ-length}
use Rattle.symbols.proofs.tables.same.Goals as goal

pub returns-then-name-other : goal.returns-then-name-other
returns-then-name-other c = differ-length c.args.name.now c.args.other.now c.if-name-other.true
