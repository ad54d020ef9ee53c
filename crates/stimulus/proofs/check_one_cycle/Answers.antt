-- Assumes nothing.
use native.Mathlib.Omega.{arith}
use Rattle.accepted.proofs.Calls.{accepting}
use Rattle.stimulus.proofs.Holding.{input-there}
use Rattle.stimulus.proofs.OneCycle.{held-to-other, held-to-one}
use Rattle.stimulus.proofs.check_one_cycle.Goals as goal

pub bounds-checked-t : goal.bounds-checked-t
bounds-checked-t c = input-there (accepting c.args.checked.now) c.word-t.ensures.0

pub returns-then-stim-checked : goal.returns-then-stim-checked
returns-then-stim-checked c = held-to-other (accepting c.args.checked.now) c.word-t.ensures.0 c.args.stim.now c.if-stim-checked.true

pub returns : goal.returns
returns c = held-to-one (accepting c.args.checked.now) c.word-t.ensures.0 c.args.stim.now c.if-stim-checked.false _ c.check_stimulus.ensures

pub word-t-requires : goal.word-t-requires
word-t-requires c = ((accepting c.args.checked.now).sized.some, omega arith)
