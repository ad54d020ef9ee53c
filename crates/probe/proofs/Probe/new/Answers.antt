-- Assumes nothing.
use native.Mathlib.Omega.{arith}
use Rattle.accepted.proofs.Calls.{accepting}
use Rattle.stepper.proofs.CallCycles.{output-there, output-width}
use Rattle.preview.proofs.Showing.{output-needed}
use Rattle.probe.proofs.Probe.new.Goals as goal

pub bounds-checked-checked : goal.bounds-checked-checked
bounds-checked-checked c = output-there (accepting c.args.checked.now) c.args.checked.now.accepted

pub invariant_of-result : goal.invariant_of-result
invariant_of-result c =
    let g = accepting c.args.checked.now in
    let v = c.args.checked.now.accepted in
    record { accepting = g; accepted = v; gives = output-width g v; there = (let e = output-needed g v in let h = c.requires in omega arith) }
