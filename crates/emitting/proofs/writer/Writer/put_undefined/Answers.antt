-- The leaves stand behind their constant.
-- Assumes nothing.
use native.Mathlib.Omega.{arith}
use mathlib.Core.Path.{ap}
use lib.ListN.{length}
use Rattle.emitting.proofs.AdvanceLaws.{undefined-put}
use Rattle.emitting.proofs.writer.Writer.put_undefined.Goals as goal

pub returns : goal.returns
returns c =
    let e = ap length c.put_zeros.ensures.1 in
    let h = c.put_expression.ensures.1 in
    (undefined-put c.args.self.now.stack c.args.declared c.put_zeros.ensures.0 c.put_zeros.ensures.1 c.put_expression.ensures.0, omega arith)
