-- Those moved so far stand on the code.
-- Assumes nothing.
use native.Mathlib.Omega.{arith}
use mathlib.Core.Path.{◌∙◌, ap₂}
use mathlib.Core.List.{◌∷◌}
use Rattle.ordering.proofs.ListLaws.{onto-more}
use Rattle.ordering.proofs.code.move_onto.Goals as goal

pub loop-k-preserved : goal.loop-k-preserved
loop-k-preserved c =
    c.push.ensures
    ∙ ap₂ ◌∷◌ c.get.ensures c.loop-k.invariant
    ∙ onto-more c.args.waiting.now c.args.code.now c.args.from c.loop-k.k (omega arith) (let t = c.loop-k-test.true in let e = c.len-k-end.ensures in omega arith)
