-- So many fewer.
-- Assumes nothing.
use Prim.Native.Nat.{◌-◌}
use borrow.Author.Rules.{rules}
use mathlib.Core.Path.{◌≡◌, sym, ap, ◌∙◌}
use Rattle.emitting.specs.Slots.{held_slots, popped}
use Rattle.emitting.proofs.SlotLaws.{popped-held}
use Rattle.emitting.proofs.stack.Stack.pop.Goals as goal

pub returns : goal.returns
returns c =
    let s = c.self.inside in
    let less : c.saturating_sub-self-inside.result ≡ s.len - c.args.n = search rules in
    ap (held_slots s.slots) less ∙ sym (popped-held s.slots c.args.n s.len) ∙ ap (popped c.args.n) c.self.view_is
