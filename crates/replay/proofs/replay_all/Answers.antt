-- Assumes nothing.
use native.Mathlib.Omega.{arith}
use native.Mathlib.Nat.{zero-mul}
use mathlib.Core.Path.{refl, sym, ap, ◌∙◌}
use lib.ListN.{length}
use Rattle.replay.proofs.Cycles.{before-replay, replaying, replay-cycling, replay-compared, differs-here, agrees-here, replay-ended, outputs-part, outputs-written}
use Rattle.replay.proofs.replay_all.Goals as goal

pub loop-k-init : goal.loop-k-init
loop-k-init c = rw (zero-mul c.args.leaves.input, zero-mul c.args.leaves.output) (before-replay c.requires c.new-room.ensures.env c.new-room.ensures.held (outputs-part c.requires.over refl))

pub overflow_mul-from : goal.overflow_mul-from
overflow_mul-from c = let l = replaying c.requires c.loop-k.invariant c.loop-k-test.true in let i = l.inside in let f = l.few in omega arith

pub overflow_add-from : goal.overflow_add-from
overflow_add-from c = let l = replaying c.requires c.loop-k.invariant c.loop-k-test.true in let i = l.inside in let f = l.few in omega arith

pub slice_bounds-cycle-end : goal.slice_bounds-cycle-end
slice_bounds-cycle-end c = let l = replaying c.requires c.loop-k.invariant c.loop-k-test.true in let i = l.inside in i

pub overflow_mul-at : goal.overflow_mul-at
overflow_mul-at c = let l = replaying c.requires c.loop-k.invariant c.loop-k-test.true in let i = l.there in let f = l.small in omega arith

pub overflow_add-at : goal.overflow_add-at
overflow_add-at c = let l = replaying c.requires c.loop-k.invariant c.loop-k-test.true in let i = l.there in let f = l.small in omega arith

pub slice_bounds-find_differing-end : goal.slice_bounds-find_differing-end
slice_bounds-find_differing-end c =
    let w = outputs-written c.args.leaves.output c.loop-k.value c.cycle.new.out c.cycle.auto.out c.loop-k.invariant.same in
    sym (ap length w ∙ c.cycle.auto.out ∙ c.loop-k.invariant.same)

pub cycle-requires : goal.cycle-requires
cycle-requires c = replay-cycling (replaying c.requires c.loop-k.invariant c.loop-k-test.true)

pub returns-in-Some : goal.returns-in-Some
returns-in-Some c =
    let w = outputs-written c.args.leaves.output c.loop-k.value c.cycle.new.out c.cycle.auto.out c.loop-k.invariant.same in
    let q = replay-compared (replaying c.requires c.loop-k.invariant c.loop-k-test.true) c.cycle.ensures c.cycle.auto.out (rw w at c.find_differing.ensures) in
    differs-here c.requires c.loop-k.invariant c.loop-k-test.true q _ c.in-Some.is

pub loop-k-preserved : goal.loop-k-preserved
loop-k-preserved c =
    let w = outputs-written c.args.leaves.output c.loop-k.value c.cycle.new.out c.cycle.auto.out c.loop-k.invariant.same in
    let q = replay-compared (replaying c.requires c.loop-k.invariant c.loop-k-test.true) c.cycle.ensures c.cycle.auto.out (rw w at c.find_differing.ensures) in
    rw w (agrees-here c.requires c.loop-k.invariant c.loop-k-test.true q c.in_default.is (omega arith) (omega arith))

pub returns : goal.returns
returns c = replay-ended c.requires c.loop-k.invariant c.loop-k-test.false
