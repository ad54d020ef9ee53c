-- The first of the list.
-- Assumes nothing.
use Prim.Native.Nat.{◌-◌}
use native.Mathlib.Omega.{arith}
use mathlib.Core.Path.{sym, ap, ◌∙◌}
use mathlib.Core.List.{◌∷◌}
use lib.ListN.{length, drop}
use Rattle.instructions.specs.Types.{type_from_bottom}
use Rattle.instructions.proofs.LeavesNumbered.{types-counted}
use Rattle.instructions.proofs.TypeLaws.{last-read}
use Rattle.instructions.proofs.types.DeclaredTypes.last.Goals as goal

pub get-requires : goal.get-requires
get-requires c =
    let s = c.self.inside in
    let n = sym (types-counted s.pairs s.firsts s.seconds s.len) ∙ ap length c.self.view_is in
    let z = c.if-self-eq0.false in
    omega (arith, n, z)

pub returns-else-self-eq0 : goal.returns-else-self-eq0
returns-else-self-eq0 c =
    let s = c.self.inside in
    let n = sym (types-counted s.pairs s.firsts s.seconds s.len) ∙ ap length c.self.view_is in
    let z = c.if-self-eq0.false in
    last-read c.args.self.now (omega (arith, n, z))
    ∙ ap (λ k. type_from_bottom (k - 1) c.args.self.now ∷ drop 1 c.args.self.now) (sym n)
    ∙ ap (λ x. x ∷ drop 1 c.args.self.now) (sym c.get.ensures)
