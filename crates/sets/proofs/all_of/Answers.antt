-- Assumes nothing.
use borrow.Author.Rules.{rules}
use Rattle.sets.proofs.Shifts.{twice-less-one}
use Rattle.sets.proofs.all_of.Goals as goal

pub returns : goal.returns
returns c = twice-less-one _ (search rules) (search rules)
