-- As many as the tables hold.
-- Assumes nothing.
use native.Mathlib.Omega.{arith}
use mathlib.Core.Path.{sym, ap, ◌∙◌}
use lib.ListN.{length}
use Rattle.instructions.proofs.CodeLaws.{held-length}
use Rattle.instructions.proofs.code.Code.len.Goals as goal

pub returns : goal.returns
returns c =
    let s = c.self.inside in
    let n = sym (held-length s.ops s.firsts s.seconds s.len) ∙ ap length c.self.view_is in
    let b = c.self.invariant in
    (n, omega (arith, n))
