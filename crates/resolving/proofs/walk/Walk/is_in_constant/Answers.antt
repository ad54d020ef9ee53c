-- By the number of the state that waits last.
-- Assumes nothing.
use Rattle.resolving.proofs.SayingLaws.{waits-below, top-in-constant}
use Rattle.resolving.proofs.walk.Walk.is_in_constant.Goals as goal

pub returns-then-state-ge-CONSTANT_WAITS : goal.returns-then-state-ge-CONSTANT_WAITS
returns-then-state-ge-CONSTANT_WAITS c = top-in-constant c.args.self.now.machine.waiting c.in-Some.state c.in-Some.ensures c.if-state-ge-CONSTANT_WAITS.true

pub returns-else-state-ge-CONSTANT_WAITS : goal.returns-else-state-ge-CONSTANT_WAITS
returns-else-state-ge-CONSTANT_WAITS c = waits-below c.args.self.now.machine.waiting c.in-Some.state c.in-Some.ensures c.if-state-ge-CONSTANT_WAITS.false
