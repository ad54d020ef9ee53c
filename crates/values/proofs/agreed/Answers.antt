-- Assumes nothing.
use Rattle.values.proofs.Agreement.{one-agreed, one-differs}
use Rattle.values.proofs.agreed.Goals as goal

pub returns-then-leaf-other : goal.returns-then-leaf-other
returns-then-leaf-other c = one-agreed _ _ c.if-leaf-other.true

pub returns-else-leaf-other : goal.returns-else-leaf-other
returns-else-leaf-other c = one-differs _ _ c.if-leaf-other.false
