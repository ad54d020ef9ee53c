-- Assumes nothing.
use native.Mathlib.Omega.{arith}
use Rattle.accepted.proofs.Calls.{accepting}
use Rattle.simulator.proofs.Calls.{measured}
use Rattle.stepper.proofs.CallCycles.{output-there}
use Rattle.stimulus.proofs.Holding.{input-there}
use Rattle.simulator.proofs.leaves_of.Goals as goal

pub word-input_type-requires : goal.word-input_type-requires
word-input_type-requires c = ((accepting c.args.checked.now).sized.some, omega arith)

pub bounds-checked-input_type : goal.bounds-checked-input_type
bounds-checked-input_type c = input-there (accepting c.args.checked.now) c.word-input_type.ensures.0

pub bounds-checked-output_type : goal.bounds-checked-output_type
bounds-checked-output_type c = output-there (accepting c.args.checked.now) c.args.checked.now.accepted

pub returns : goal.returns
returns c = measured (accepting c.args.checked.now) c.args.checked.now.accepted c.word-input_type.ensures.0
