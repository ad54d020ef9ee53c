-- Assumes nothing.
use mathlib.Core.Path.{refl}
use Rattle.accepted.proofs.Calls.{accepting, same-refusal}
use Rattle.preview.proofs.Showing.{preview-refused-input, preview-refused-output, showing, preview-done}
use Rattle.stepper.proofs.CallCycles.{output-there}
use Rattle.preview.proofs.preview_accepted.Goals as goal

pub returns-in_err-check_one_cycle : goal.returns-in_err-check_one_cycle
returns-in_err-check_one_cycle c = rw (same-refusal _ _ c.from_residual.ensures.1) (preview-refused-input (accepting c.args.checked.now) c.args.checked.now.accepted c.args.stim.now c.args.out.now _ c.in_err-check_one_cycle.ensures _ _ refl)

pub bounds-checked-checked : goal.bounds-checked-checked
bounds-checked-checked c = output-there (accepting c.args.checked.now) c.args.checked.now.accepted

pub returns-then-out-needed : goal.returns-then-out-needed
returns-then-out-needed c = preview-refused-output (accepting c.args.checked.now) c.args.checked.now.accepted c.args.stim.now c.args.out.now _ c.in_ok-check_one_cycle.ensures _ refl c.if-out-needed.true

pub show-requires : goal.show-requires
show-requires c = showing (accepting c.args.checked.now) c.args.checked.now.accepted c.args.stim.now c.args.out.now _ c.in_ok-check_one_cycle.ensures _ refl c.if-out-needed.false

pub returns : goal.returns
returns c = preview-done (accepting c.args.checked.now) c.args.checked.now.accepted c.args.stim.now c.args.out.now _ c.in_ok-check_one_cycle.ensures _ refl c.if-out-needed.false _ c.show.ensures
