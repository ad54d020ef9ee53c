-- Assumes nothing.
use native.Mathlib.Omega.{arith}
use mathlib.Core.Path.{refl}
use Rattle.accepted.proofs.Calls.{accepting, same-refusal}
use Rattle.remaining.proofs.Counted.{past-small, counts-refused-past, counts-type-there, counts-refused-input, counts-refused-output, counting, counts-given}
use Rattle.remaining.proofs.possible_accepted.Goals as goal

pub overflow_cast-result : goal.overflow_cast-result
overflow_cast-result c = let h = past-small (accepting c.args.checked.now) c.args.checked.now.accepted c.args.stim.now c.args.out.now c.first_past.result _ c.first_past.ensures c.in-Some.is in record { fits = omega arith }

pub returns-in-Some : goal.returns-in-Some
returns-in-Some c = counts-refused-past (accepting c.args.checked.now) c.args.checked.now.accepted c.args.stim.now c.args.out.now c.first_past.result _ c.first_past.ensures c.in-Some.is

pub returns-in_err-check_one_cycle : goal.returns-in_err-check_one_cycle
returns-in_err-check_one_cycle c = rw (same-refusal _ _ c.from_residual.ensures.1) (counts-refused-input (accepting c.args.checked.now) c.args.checked.now.accepted c.args.stim.now c.args.out.now c.first_past.result c.first_past.ensures c.in_default.is _ c.in_err-check_one_cycle.ensures _ _ refl)

pub bounds-checked-checked : goal.bounds-checked-checked
bounds-checked-checked c = counts-type-there (accepting c.args.checked.now) c.args.checked.now.accepted

pub returns-then-out-needed : goal.returns-then-out-needed
returns-then-out-needed c = counts-refused-output (accepting c.args.checked.now) c.args.checked.now.accepted c.args.stim.now c.args.out.now c.first_past.result c.first_past.ensures c.in_default.is _ c.in_ok-check_one_cycle.ensures _ refl c.if-out-needed.true

pub count_possible-requires : goal.count_possible-requires
count_possible-requires c = counting (accepting c.args.checked.now) c.args.checked.now.accepted c.args.stim.now c.args.out.now c.first_past.result c.first_past.ensures c.in_default.is _ c.in_ok-check_one_cycle.ensures _ refl c.if-out-needed.false

pub returns : goal.returns
returns c = counts-given (accepting c.args.checked.now) c.args.checked.now.accepted c.args.stim.now c.args.out.now c.first_past.result c.first_past.ensures c.in_default.is _ c.in_ok-check_one_cycle.ensures _ refl c.if-out-needed.false _ c.count_possible.ensures
