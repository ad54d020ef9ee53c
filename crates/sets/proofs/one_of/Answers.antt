-- Assumes nothing.
use borrow.Author.Rules.{rules}
use Rattle.sets.proofs.Shifts.{one_bit}
use Rattle.sets.proofs.one_of.Goals as goal

pub returns : goal.returns
returns c = one_bit _ (search rules) (search rules)
