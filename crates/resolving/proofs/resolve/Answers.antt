-- What is left of the text is checked in the state and the scope that the walk has come to, and says what is left of the instructions.
-- Assumes nothing.
use native.Mathlib.Omega.{arith}
use mathlib.Core.Path.{◌∙◌}
use Rattle.std.proofs.Math.ListN.{drop_of_length-le}
use Rattle.resolving.proofs.TakenLaws.{walks-begin, walking-first}
use Rattle.resolving.proofs.Walks.{walks-done}
use Rattle.resolving.proofs.resolve.Goals as goal

pub loop-start-init : goal.loop-start-init
loop-start-init c = (
  c.new-2.ensures.0,
  walking-first c.skip_blanks-start.result _ c.requires c.new.ensures c.new-2.ensures c.new-3.ensures,
  c.skip_blanks-start.ensures.1,
  (0, omega arith, c.skip_blanks-start.ensures.0, λ ts t r. walks-begin c.new.result c.new-2.result c.new.ensures c.new-2.ensures (c.truncate.ensures ∙ drop_of_length-le c.args.code.now (omega arith)) r),
)

pub returns : goal.returns
returns c = λ ts t r.
    walks-done c.loop-start.start c.loop-start.invariant.3.2 (let h = c.loop-start-test.false in omega arith) c.requires r
    (c.loop-start.invariant.3.3 ts t r)
