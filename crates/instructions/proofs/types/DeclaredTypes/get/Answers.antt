-- The entries of a type.
-- Assumes nothing.
use native.Mathlib.Omega.{arith}
use mathlib.Core.Path.{sym, ap, ◌∙◌}
use lib.ListN.{length, get_or}
use Rattle.instructions.specs.Assembly.{type_held}
use Rattle.instructions.specs.Types.{type_from_bottom}
use Rattle.instructions.proofs.LeavesNumbered.{types-counted}
use Rattle.instructions.proofs.TypeLaws.{type-from-bottom}
use Rattle.instructions.proofs.types.DeclaredTypes.get.Goals as goal

pub bounds-self-inside-k : goal.bounds-self-inside-k
bounds-self-inside-k c =
    let s = c.self.inside in
    let n = sym (types-counted s.pairs s.firsts s.seconds s.len) ∙ ap length c.self.view_is in
    let b = c.requires in
    let f = c.self.invariant.few in
    omega (arith, n)

pub offset_bounds-self-inside-k-else-self-k : goal.offset_bounds-self-inside-k-else-self-k
offset_bounds-self-inside-k-else-self-k c =
    let s = c.self.inside in
    let n = sym (types-counted s.pairs s.firsts s.seconds s.len) ∙ ap length c.self.view_is in
    let b = c.requires in
    let f = c.self.invariant.few in
    omega (arith, n)

pub bounds-self-inside-k-else-self-k : goal.bounds-self-inside-k-else-self-k
bounds-self-inside-k-else-self-k c =
    let s = c.self.inside in
    let n = sym (types-counted s.pairs s.firsts s.seconds s.len) ∙ ap length c.self.view_is in
    let b = c.requires in
    let f = c.self.invariant.few in
    omega (arith, n)

pub returns-then-self-k : goal.returns-then-self-k
returns-then-self-k c =
    let s = c.self.inside in
    let n = sym (types-counted s.pairs s.firsts s.seconds s.len) ∙ ap length c.self.view_is in
    let b = c.requires in
    ap (λ p. type_held p (get_or s.firsts c.args.k 0) (get_or s.seconds c.args.k 0)) (sym c.if-self-k.true)
    ∙ type-from-bottom s.pairs s.firsts s.seconds s.len c.args.k (omega (arith, n))
    ∙ ap (type_from_bottom c.args.k) c.self.view_is

pub returns-else-self-k : goal.returns-else-self-k
returns-else-self-k c =
    let s = c.self.inside in
    let n = sym (types-counted s.pairs s.firsts s.seconds s.len) ∙ ap length c.self.view_is in
    let b = c.requires in
    ap (λ p. type_held p (get_or s.firsts c.args.k 0) (get_or s.seconds c.args.k 0)) (sym c.if-self-k.false)
    ∙ type-from-bottom s.pairs s.firsts s.seconds s.len c.args.k (omega (arith, n))
    ∙ ap (type_from_bottom c.args.k) c.self.view_is
