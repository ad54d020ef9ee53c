-- The word can end, and the state is the last.
-- Assumes nothing.
use Rattle.recognizer.proofs.MachineLaws.{done-ended, not-done}
use Rattle.recognizer.proofs.machine.Machine.is_done.Goals as goal

pub returns-then-from-eq0 : goal.returns-then-from-eq0
returns-then-from-eq0 c = done-ended c.self.inside.state c.self.inside.word c.self.inside.stack c.self.view_is c.self.invariant.1 c.from.ensures c.self.invariant.0 c.if-from-eq0.true

pub returns-else-from-eq0 : goal.returns-else-from-eq0
returns-else-from-eq0 c = not-done c.self.inside.state c.self.inside.word c.self.inside.stack c.self.view_is c.self.invariant.1 c.from.ensures c.self.invariant.0 c.if-from-eq0.false
