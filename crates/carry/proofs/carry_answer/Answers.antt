-- Each way out: the old sheet refused, the new one refused, or both accepted. Assumes nothing.
use Rattle.carry.proofs.Calls.{old-refused, new-refused, gives-refused}
use mathlib.Core.Path.{sym}
use Rattle.carry.proofs.carry_answer.Goals as goal

pub returns-in_err-before : goal.returns-in_err-before
returns-in_err-before c = old-refused _ _ _ _ c.in_err-before.field-0.0 c.from_residual.ensures.1 c.in_err-before.ensures.verdict

pub returns-in-Err : goal.returns-in-Err
returns-in-Err c = gives-refused _ _ _ _ _ (new-refused _ _ _ _ (sym c.in_ok-before.ensures.verdict) c.in-Err.fault c.in-Err.ensures.verdict c.new_sheet_refused.result c.new_sheet_refused.ensures.0 c.new_sheet_refused.ensures.1)
