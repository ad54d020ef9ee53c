-- Three entries.
-- Assumes nothing.
use native.Mathlib.Omega.{arith}
use borrow.Author.Rules.{rules}
use mathlib.Core.Path.{sym, ap, ◌∙◌}
use mathlib.Core.List.{◌∷◌}
use lib.ListN.{length}
use Rattle.instructions.proofs.CodeLaws.{held-length, held-pushed}
use Rattle.instructions.specs.Said.{said}
use Rattle.instructions.proofs.code.Code.push.Goals as goal

pub bounds-self-inside-last : goal.bounds-self-inside-last
bounds-self-inside-last c =
    let s = c.self.inside in
    let n = sym (held-length s.ops s.firsts s.seconds s.len) ∙ ap length c.self.view_is in
    let b = c.requires in
    omega (arith, n)

pub bounds-self-inside-last-2 : goal.bounds-self-inside-last-2
bounds-self-inside-last-2 c = bounds-self-inside-last c

pub bounds-self-inside-last-3 : goal.bounds-self-inside-last-3
bounds-self-inside-last-3 c = bounds-self-inside-last c

pub invariant_of-self : goal.invariant_of-self
invariant_of-self c =
    let s = c.self.inside in
    let n = sym (held-length s.ops s.firsts s.seconds s.len) ∙ ap length c.self.view_is in
    let b = c.requires in
    omega (arith, n)

pub returns : goal.returns
returns c =
    let s = c.self.inside in
    let n = sym (held-length s.ops s.firsts s.seconds s.len) ∙ ap length c.self.view_is in
    let b = c.requires in
    held-pushed s.ops s.firsts s.seconds s.len c.args.instruction.op c.args.instruction.first c.args.instruction.second
    (search rules) (search rules) (search rules)
    ∙ ap (λ C. said c.args.instruction ∷ C) c.self.view_is
