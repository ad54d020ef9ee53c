-- Assumes nothing.
use native.Mathlib.Omega.{arith}
use mathlib.Core.Path.{refl, ap}
use lib.ListN.{length}
use Rattle.accepted.proofs.Calls.{accepting}
use Rattle.stimulus.proofs.Holding.{input-there}
use Rattle.stepper.proofs.CallCycles.{output-there}
use Rattle.replay.proofs.Answered.{replay-refused-stimulus, replay-refused-record, replay-refused-next, replaying-into, replay-found}
use Rattle.replay.proofs.replay_accepted.Goals as goal

pub bounds-checked-a : goal.bounds-checked-a
bounds-checked-a c = input-there (accepting c.args.checked.now) c.word-a.ensures.0

pub bounds-checked-checked : goal.bounds-checked-checked
bounds-checked-checked c = output-there (accepting c.args.checked.now) c.args.checked.now.accepted

pub word-a-requires : goal.word-a-requires
word-a-requires c = ((accepting c.args.checked.now).sized.some, omega arith)

pub returns-in_err-cycles : goal.returns-in_err-cycles
returns-in_err-cycles c = replay-refused-stimulus (accepting c.args.checked.now) c.args.checked.now.accepted c.args.stim.now c.args.recorded.now c.args.next.now c.in_err-cycles.ensures _ c.in_err-cycles.field-0.0 c.from_residual.ensures.1 refl

pub returns-then-recorded-needed : goal.returns-then-recorded-needed
returns-then-recorded-needed c = replay-refused-record (accepting c.args.checked.now) c.args.checked.now.accepted c.args.stim.now c.args.recorded.now c.args.next.now c.in_ok-cycles.ensures refl c.if-recorded-needed.true

pub overflow_cast-result-then-next-long : goal.overflow_cast-result-then-next-long
overflow_cast-result-then-next-long c =
    let g = (accepting c.args.checked.now).sized in
    let w = g.whole in
    let f = g.few in
    let e = ap length c.bytes-long.ensures in
    record { fits = omega arith }

pub returns-then-next-long : goal.returns-then-next-long
returns-then-next-long c = rw c.bytes-long.ensures (replay-refused-next (accepting c.args.checked.now) c.args.checked.now.accepted c.args.stim.now c.args.recorded.now c.args.next.now c.in_ok-cycles.ensures refl c.if-recorded-needed.false (rw c.bytes-long.ensures at c.if-next-long.true))

pub replay_into-requires : goal.replay_into-requires
replay_into-requires c = replaying-into (accepting c.args.checked.now) c.args.checked.now.accepted c.args.stim.now c.args.recorded.now c.args.next.now c.in_ok-cycles.ensures refl c.if-recorded-needed.false (rw c.bytes-long.ensures at c.if-next-long.false) c.word-a.ensures.0

pub returns : goal.returns
returns c = replay-found (accepting c.args.checked.now) c.args.checked.now.accepted c.args.stim.now c.args.recorded.now c.args.next.now c.in_ok-cycles.ensures refl c.if-recorded-needed.false (rw c.bytes-long.ensures at c.if-next-long.false) c.replay_into.result c.replay_into.ensures
