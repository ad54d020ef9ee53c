-- One entry.
-- Assumes nothing.
use native.Mathlib.Omega.{arith}
use borrow.Author.Rules.{rules}
use mathlib.Core.Path.{sym, ap, ◌∙◌}
use mathlib.Core.List.{◌∷◌}
use lib.ListN.{length}
use Rattle.ordering.proofs.NumberLaws.{numbers-counted, number_pushed}
use Rattle.ordering.proofs.constants.ConstantTypes.push.Goals as goal

pub bounds-self-inside-last : goal.bounds-self-inside-last
bounds-self-inside-last c =
    let s = c.self.inside in
    let n = sym (numbers-counted s.numbers s.len) ∙ ap length c.self.view_is in
    let b = c.requires in
    omega (arith, n)

pub invariant_of-self : goal.invariant_of-self
invariant_of-self c =
    let s = c.self.inside in
    let n = sym (numbers-counted s.numbers s.len) ∙ ap length c.self.view_is in
    let b = c.requires in
    omega (arith, n)

pub returns : goal.returns
returns c =
    let s = c.self.inside in
    let n = sym (numbers-counted s.numbers s.len) ∙ ap length c.self.view_is in
    let b = c.requires in
    number_pushed s.numbers s.len c.args.number (search rules) ∙ ap (λ N. c.args.number ∷ N) c.self.view_is
