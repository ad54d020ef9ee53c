-- The entry of a type that there is.
-- Assumes nothing.
use Prim.Native.Nat.{◌-◌}
use native.Mathlib.Omega.{arith}
use mathlib.Core.Path.{sym, ap, ◌∙◌}
use lib.ListN.{length, get_or}
use mathlib.Core.Path.{◌≡◌}
use Rattle.instructions.specs.Assembly.{leaves_numbered}
use Rattle.instructions.proofs.LeavesNumbered.{types-counted}
use Rattle.instructions.proofs.TypeLaws.{no-leaves, undeclared-leaves, few-leaves-numbered, leaves_at}
use Rattle.instructions.proofs.types.DeclaredTypes.leaves.Goals as goal

pub returns-then-d-eq0 : goal.returns-then-d-eq0
returns-then-d-eq0 c =
    let e : 0 ≡ c.args.d = (let f = c.from-d.ensures in let z = c.if-d-eq0.true in omega arith) in
    (sym (no-leaves c.args.self.now) ∙ ap (leaves_numbered c.args.self.now) e, omega arith)

pub returns-then-self-d : goal.returns-then-self-d
returns-then-self-d c =
    let s = c.self.inside in
    let n = sym (types-counted s.pairs s.firsts s.seconds s.len) ∙ ap length c.self.view_is in
    let f = c.from-d.ensures in
    let l = c.if-self-d.true in
    (sym (undeclared-leaves c.args.self.now c.args.d (omega (arith, n))), omega arith)

pub returns : goal.returns
returns c =
    let s = c.self.inside in
    let n = sym (types-counted s.pairs s.firsts s.seconds s.len) ∙ ap length c.self.view_is in
    let f = c.from-d.ensures in
    let l = c.if-self-d.false in
    let z = c.if-d-eq0.false in
    let read =
    c.from.ensures
    ∙ ap (λ d. get_or s.leaves (d - 1) 0) f
    ∙ leaves_at s.pairs s.firsts s.seconds c.args.d (λ e. z (f ∙ e)) (omega (arith, l)) c.self.invariant
    ∙ ap (λ T. leaves_numbered T c.args.d) c.self.view_is in
    (read, (let few = few-leaves-numbered c.args.self.now c.args.d in omega (arith, read)))
