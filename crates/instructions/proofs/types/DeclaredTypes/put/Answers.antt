-- Four entries.
-- Assumes nothing.
use native.Mathlib.Omega.{arith}
use borrow.Author.Rules.{rules}
use mathlib.Core.Path.{sym, ap, ◌∙◌}
use mathlib.Core.List.{◌∷◌}
use lib.ListN.{length}
use Rattle.instructions.specs.Assembly.{type_held}
use Rattle.instructions.specs.Types.{leaves_over}
use Rattle.instructions.proofs.LeavesNumbered.{types-counted}
use Rattle.instructions.proofs.TypeLaws.{type-set}
use Rattle.instructions.proofs.types.DeclaredTypes.put.Goals as goal

pub bounds-self-inside-last : goal.bounds-self-inside-last
bounds-self-inside-last c =
    let s = c.self.inside in
    let n = sym (types-counted s.pairs s.firsts s.seconds s.len) ∙ ap length c.self.view_is in
    let b = c.requires.0 in
    let f = c.self.invariant.few in
    omega (arith, n)

pub bounds-self-inside-last-2 : goal.bounds-self-inside-last-2
bounds-self-inside-last-2 c =
    let s = c.self.inside in
    let n = sym (types-counted s.pairs s.firsts s.seconds s.len) ∙ ap length c.self.view_is in
    let b = c.requires.0 in
    let f = c.self.invariant.few in
    omega (arith, n)

pub bounds-self-inside-last-3 : goal.bounds-self-inside-last-3
bounds-self-inside-last-3 c =
    let s = c.self.inside in
    let n = sym (types-counted s.pairs s.firsts s.seconds s.len) ∙ ap length c.self.view_is in
    let b = c.requires.0 in
    let f = c.self.invariant.few in
    omega (arith, n)

pub bounds-self-inside-last-4 : goal.bounds-self-inside-last-4
bounds-self-inside-last-4 c =
    let s = c.self.inside in
    let n = sym (types-counted s.pairs s.firsts s.seconds s.len) ∙ ap length c.self.view_is in
    let b = c.requires.0 in
    let f = c.self.invariant.few in
    omega (arith, n)

pub invariant_of-self : goal.invariant_of-self
invariant_of-self c =
    let s = c.self.inside in
    let n = sym (types-counted s.pairs s.firsts s.seconds s.len) ∙ ap length c.self.view_is in
    let b = c.requires.0 in
    (type-set s.pairs s.firsts s.seconds c.args.pair c.args.first c.args.second c.args.leaves c.self.invariant (search rules) (search rules) (search rules) (search rules) (omega (arith, n))
    (c.requires.1 ∙ ap (λ T. leaves_over T (type_held c.args.pair c.args.first c.args.second)) (sym c.self.view_is))).0

pub returns : goal.returns
returns c =
    let s = c.self.inside in
    let n = sym (types-counted s.pairs s.firsts s.seconds s.len) ∙ ap length c.self.view_is in
    let b = c.requires.0 in
    (type-set s.pairs s.firsts s.seconds c.args.pair c.args.first c.args.second c.args.leaves c.self.invariant (search rules) (search rules) (search rules) (search rules) (omega (arith, n))
    (c.requires.1 ∙ ap (λ T. leaves_over T (type_held c.args.pair c.args.first c.args.second)) (sym c.self.view_is))).1
    ∙ ap (λ T. type_held c.args.pair c.args.first c.args.second ∷ T) c.self.view_is
