-- Assumes nothing.
use native.Mathlib.Omega.{arith}
use native.Mathlib.Nat.{zero-mul}
use Rattle.simulator.proofs.Running.{before-all, lending, lent-cycling, lent_back, cycle-gone-on, run-ended}
use Rattle.simulator.proofs.run_all.Goals as goal

pub loop-k-init : goal.loop-k-init
loop-k-init c = rw (zero-mul c.args.leaves.input, zero-mul c.args.leaves.output) (before-all c.requires c.new-room.ensures.env c.new-room.ensures.held)

pub overflow_mul-from : goal.overflow_mul-from
overflow_mul-from c = let l = lending c.requires c.loop-k.invariant (omega arith) in let i = l.inside in let f = l.few in omega arith

pub overflow_add-from : goal.overflow_add-from
overflow_add-from c = let l = lending c.requires c.loop-k.invariant (omega arith) in let i = l.inside in let f = l.few in omega arith

pub slice_bounds-cycle-end : goal.slice_bounds-cycle-end
slice_bounds-cycle-end c = let l = lending c.requires c.loop-k.invariant (omega arith) in let i = l.inside in i

pub overflow_mul-at : goal.overflow_mul-at
overflow_mul-at c = let l = lending c.requires c.loop-k.invariant (omega arith) in let i = l.room in let f = l.small in omega arith

pub overflow_add-at : goal.overflow_add-at
overflow_add-at c = let l = lending c.requires c.loop-k.invariant (omega arith) in let i = l.room in let f = l.small in omega arith

pub slice_bounds-cycle-end-in-loop-k : goal.slice_bounds-cycle-end-in-loop-k
slice_bounds-cycle-end-in-loop-k c = let l = lending c.requires c.loop-k.invariant (omega arith) in let i = l.room in i

pub cycle-requires : goal.cycle-requires
cycle-requires c = lent-cycling (lending c.requires c.loop-k.invariant (omega arith))

pub loop-k-preserved : goal.loop-k-preserved
loop-k-preserved c =
    cycle-gone-on c.requires c.loop-k.invariant (omega arith)
    (lent_back (lending c.requires c.loop-k.invariant (omega arith)) c.cycle.ensures) (omega arith) (omega arith)

pub returns : goal.returns
returns c = run-ended c.requires c.loop-k.invariant (omega arith)
