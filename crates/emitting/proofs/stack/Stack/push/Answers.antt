-- One entry.
-- Assumes nothing.
use native.Mathlib.Omega.{arith}
use borrow.Author.Rules.{rules}
use mathlib.Core.Path.{sym, ap, ◌∙◌}
use mathlib.Core.List.{◌∷◌}
use lib.ListN.{length}
use Rattle.emitting.specs.Slots.{slot_of}
use Rattle.emitting.proofs.SlotLaws.{slots-counted, slot-pushed}
use Rattle.emitting.proofs.stack.Stack.push.Goals as goal

pub bounds-self-inside-last : goal.bounds-self-inside-last
bounds-self-inside-last c =
    let s = c.self.inside in
    let n = sym (slots-counted s.slots s.len) ∙ ap length c.self.view_is in
    let b = c.requires in
    omega (arith, n)

pub invariant_of-self : goal.invariant_of-self
invariant_of-self c =
    let s = c.self.inside in
    let n = sym (slots-counted s.slots s.len) ∙ ap length c.self.view_is in
    let b = c.requires in
    omega (arith, n)

pub returns : goal.returns
returns c =
    let s = c.self.inside in
    let n = sym (slots-counted s.slots s.len) ∙ ap length c.self.view_is in
    let b = c.requires in
    slot-pushed s.slots s.len c.args.slot (search rules) ∙ ap (λ S. slot_of c.args.slot ∷ S) c.self.view_is
