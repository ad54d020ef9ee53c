-- As many as the tables hold.
-- Assumes nothing.
use native.Mathlib.Omega.{arith}
use mathlib.Core.Path.{sym, ap, ◌∙◌}
use lib.ListN.{length}
use Rattle.instructions.proofs.LeavesNumbered.{types-counted}
use Rattle.instructions.proofs.types.DeclaredTypes.len.Goals as goal

pub returns : goal.returns
returns c =
    let s = c.self.inside in
    let n = sym (types-counted s.pairs s.firsts s.seconds s.len) ∙ ap length c.self.view_is in
    let b = c.self.invariant.few in
    (n, omega (arith, n))
