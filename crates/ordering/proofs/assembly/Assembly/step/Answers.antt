-- One instruction more gives no more than one.
-- Assumes nothing.
use borrow.Author.Rules.{rules}
use Rattle.instructions.specs.Said.{said}
use Rattle.ordering.specs.Held.{assembled}
use Rattle.ordering.proofs.FewLaws.{few-after}
use Rattle.ordering.proofs.assembly.Assembly.step.Goals as goal

pub returns-in-CloseIf-clause-few : goal.returns-in-CloseIf-clause-few
returns-in-CloseIf-clause-few c = few-after (assembled c.args.self.now) _ (said c.args.instruction) (search rules)
