-- A letter that is awaited, or a byte by its class.
-- Assumes nothing.
use Rattle.recognizer.proofs.MachineLaws.{word-ended, wrong-letter, right-letter}
use Rattle.recognizer.proofs.machine.Machine.step.Goals as goal

pub follow-requires-clause-ended : goal.follow-requires-clause-ended
follow-requires-clause-ended c = word-ended c.self.inside.state c.self.inside.word c.self.inside.stack c.self.view_is c.self.invariant.1 c.from.ensures c.if-letter-eq0.true

pub returns-then-b-letter : goal.returns-then-b-letter
returns-then-b-letter c = wrong-letter c.self.inside.state c.self.inside.word c.self.inside.stack c.self.view_is c.self.invariant.1 c.from.ensures _ c.if-letter-eq0.false c.if-b-letter.true

pub returns : goal.returns
returns c = right-letter c.self.inside.state c.self.inside.word c.self.inside.stack c.self.view_is c.self.invariant.1 c.from.ensures _ c.if-letter-eq0.false c.if-b-letter.false
