-- Before any other state nothing is said.
-- Assumes nothing.
use Rattle.resolving.proofs.SayingLaws.{none_said, said-as, no-pair-said}
use Rattle.resolving.proofs.sayings.say_pair.Goals as goal

pub returns-else-state-eq-BRACKET : goal.returns-else-state-eq-BRACKET
returns-else-state-eq-BRACKET c = said-as (no-pair-said c.args.state c.requires c.if-state-eq-BRACKET.false) none_said
