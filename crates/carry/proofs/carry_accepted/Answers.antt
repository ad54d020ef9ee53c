-- Each way out, by the check that takes it. Assumes nothing.
use Rattle.carry.proofs.Calls.{label-refused, old-twice, new-twice, wrong_next, carried-done}
use Rattle.carry.proofs.carry_accepted.Goals as goal

pub returns-in_err-check_labels : goal.returns-in_err-check_labels
returns-in_err-check_labels c = label-refused _ _ _ _ c.in_err-check_labels.field-0.0 c.from_residual.ensures.1 c.in_err-check_labels.ensures.refused.0 (old-twice c.requires.0 c.requires.1 c.in_err-check_labels.ensures.refused.1)

pub returns-in_err-check_labels-2 : goal.returns-in_err-check_labels-2
returns-in_err-check_labels-2 c = label-refused _ _ _ _ c.in_err-check_labels-2.field-0.0 c.from_residual-in_err-check_labels-2.ensures.1 c.in_err-check_labels-2.ensures.refused.0 (new-twice c.requires.0 c.requires.1 c.in_ok-check_labels.ensures.done c.in_err-check_labels-2.ensures.refused.1)

pub returns-then-next-long : goal.returns-then-next-long
returns-then-next-long c = rw c.bytes-long.ensures (wrong_next c.requires.0 c.requires.1 c.in_ok-check_labels.ensures.done c.in_ok-check_labels-2.ensures.done (rw c.bytes-long.ensures at c.if-next-long.true))

pub returns : goal.returns
returns c = carried-done c.requires.0 c.requires.1 c.in_ok-check_labels.ensures.done c.in_ok-check_labels-2.ensures.done (rw c.bytes-long.ensures at c.if-next-long.false) (rw (c.overwrite.ensures, c.bytes.ensures) at c.carry_values.ensures)
