-- One less, and one more.
-- Assumes nothing.
use Prim.Native.Nat.{◌-◌}
use native.Mathlib.Omega.{arith}
use mathlib.Core.Path.{sym, ap, ◌∙◌}
use mathlib.Core.List.{◌∷◌}
use lib.ListN.{length, drop}
use Rattle.instructions.specs.Types.{type_declared}
use Rattle.instructions.proofs.LeavesNumbered.{types-counted}
use Rattle.instructions.proofs.TypeLaws.{one-fewer}
use Rattle.instructions.proofs.types.DeclaredTypes.set_last.Goals as goal

pub push-requires : goal.push-requires
push-requires c =
    let s = c.self.inside in
    let n = sym (types-counted s.pairs s.firsts s.seconds s.len) ∙ ap length c.self.view_is in
    let m = types-counted s.pairs s.firsts s.seconds (s.len - 1) in
    let f = c.self.invariant.few in
    let b = c.requires in
    omega (arith, n, m)

pub returns : goal.returns
returns c =
    let s = c.self.inside in
    c.push.ensures
    ∙ ap (λ T. type_declared c.args.declared ∷ T) (one-fewer s.pairs s.firsts s.seconds s.len)
    ∙ ap (λ T. type_declared c.args.declared ∷ drop 1 T) c.self.view_is
