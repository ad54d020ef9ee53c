-- The slot that is there.
-- Assumes nothing.
use native.Mathlib.Omega.{arith}
use mathlib.Core.Path.{sym, ap, ◌∙◌}
use mathlib.Core.List.{◌∷◌}
use Prim.Native.Nat.{◌<◌}
use Rattle.instructions.specs.Emission.{top}
use Rattle.emitting.specs.Slots.{popped, slot_of}
use mathlib.Core.List.{[]}
use Rattle.emitting.proofs.SlotLaws.{slot-below, no-slot-below, no-number}
use Rattle.emitting.proofs.stack.Stack.below.Goals as goal

pub returns-then-self-n : goal.returns-then-self-n
returns-then-self-n c =
    let s = c.self.inside in
    sym (no-slot-below s.slots c.args.n s.len c.if-self-n.true) ∙ ap (λ S. top (popped c.args.n S)) c.self.view_is

pub returns-in-Number : goal.returns-in-Number
returns-in-Number c =
    let s = c.self.inside in
    let l : c.args.n < s.len = (let h = c.if-self-n.false in omega arith) in
    ap (λ x. top (slot_of x ∷ [])) (sym c.in-Number.is)
    ∙ sym (slot-below s.slots c.args.n s.len l)
    ∙ ap (λ S. top (popped c.args.n S)) c.self.view_is

pub returns-in_default : goal.returns-in_default
returns-in_default c =
    let s = c.self.inside in
    let l : c.args.n < s.len = (let h = c.if-self-n.false in omega arith) in
    sym (no-number _ c.in_default.not-Number)
    ∙ sym (slot-below s.slots c.args.n s.len l)
    ∙ ap (λ S. top (popped c.args.n S)) c.self.view_is
