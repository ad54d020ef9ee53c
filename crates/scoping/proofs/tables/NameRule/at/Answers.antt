-- The table is that of the rules of the states.
-- Assumes nothing.
use Rattle.scoping.proofs.TableLaws.{rule-at}
use Rattle.scoping.proofs.tables.NameRule.at.Goals as goal

pub returns : goal.returns
returns c = rule-at c.args.state _ c.requires c.from.ensures
