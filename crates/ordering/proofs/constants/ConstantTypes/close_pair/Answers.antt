-- The bracket, the first type and the second give way to that of the pair.
-- Assumes nothing.
use native.Mathlib.Omega.{arith}
use borrow.Author.Rules.{rules}
use mathlib.Core.Path.{ap, ◌∙◌}
use Rattle.instructions.specs.Assembly.{pair_closed}
use Rattle.ordering.proofs.NumberLaws.{three-closed}
use Rattle.ordering.proofs.constants.ConstantTypes.close_pair.Goals as goal

pub returns : goal.returns
returns c =
    let s = c.self.inside in
    three-closed s.numbers c.args.types.now s.len c.constant_pair.result (search rules) (let h = c.if-self-lt3.false in λ l. omega arith) c.constant_pair.ensures
    ∙ ap (pair_closed c.args.types.now) c.self.view_is
