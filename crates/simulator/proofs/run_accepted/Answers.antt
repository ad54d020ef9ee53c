-- Assumes nothing.
use mathlib.Core.Path.{refl}
use native.Mathlib.Omega.{arith}
use Rattle.accepted.proofs.Calls.{accepting, same-refusal}
use Rattle.accepted.proofs.Small.{accepted-length}
use Rattle.simulator.proofs.Calls.{refused-stimulus, refused-output, refused-next, call-running, call-done}
use Rattle.simulator.proofs.run_accepted.Goals as goal

pub returns-in_err-cycles : goal.returns-in_err-cycles
returns-in_err-cycles c = rw (same-refusal _ _ c.from_residual.ensures.1) (refused-stimulus (accepting c.args.checked.now) c.args.checked.now.accepted c.in_err-cycles.ensures c.args.out.now c.args.next.now _ _ refl)

pub returns-then-out-needed : goal.returns-then-out-needed
returns-then-out-needed c = refused-output (accepting c.args.checked.now) c.args.checked.now.accepted c.in_ok-cycles.ensures refl c.leaves_of-leaves.ensures c.args.out.now c.args.next.now c.if-out-needed.true

pub overflow_cast-result-then-next-long : goal.overflow_cast-result-then-next-long
overflow_cast-result-then-next-long c = rw c.bytes-long.ensures (let l = accepted-length _ c.args.checked.now.accepted in omega arith)

pub returns-then-next-long : goal.returns-then-next-long
returns-then-next-long c =
    rw c.bytes-long.ensures
    (refused-next (accepting c.args.checked.now) c.args.checked.now.accepted c.in_ok-cycles.ensures refl c.leaves_of-leaves.ensures c.if-out-needed.false c.args.next.now (rw c.bytes-long.ensures at c.if-next-long.true))

pub run_all-requires : goal.run_all-requires
run_all-requires c =
    call-running (accepting c.args.checked.now) c.args.checked.now.accepted c.in_ok-cycles.ensures refl c.leaves_of-leaves.ensures c.if-out-needed.false c.args.next.now
    (rw c.bytes-long.ensures at c.if-next-long.false) (rw c.bytes.ensures at c.put.ensures)

pub returns : goal.returns
returns c =
    call-done (accepting c.args.checked.now) c.args.checked.now.accepted c.in_ok-cycles.ensures refl c.leaves_of-leaves.ensures c.if-out-needed.false c.args.next.now
    (rw c.bytes-long.ensures at c.if-next-long.false) c.run_all.ensures
