-- The leaves before the one at hand are the same, and so in the end all. Assumes nothing.
use borrow.Author.Rules.{rules}
use Rattle.values.proofs.Standing.{slot-long, none-the-same, slot-same-next, all_same}
use Rattle.values.proofs.stands_at.Goals as goal

pub loop-i-init : goal.loop-i-init
loop-i-init c = none-the-same _ _

pub loop-i-preserved : goal.loop-i-preserved
loop-i-preserved c = slot-same-next _ _ (slot-long _ _ _ _ c.look_up-slot.ensures c.requires.0) _ (search rules) c.loop-i.invariant c.if-slot-i.false

pub returns : goal.returns
returns c =
    let e = c.look_up-slot.ensures in
    all_same _ _ (slot-long _ _ _ _ e c.requires.0) _ (search rules) c.loop-i.invariant e
