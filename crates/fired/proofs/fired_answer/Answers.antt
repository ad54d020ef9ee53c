-- Assumes nothing.
use Rattle.fired.proofs.Telling.{told-sheet}
use Rattle.fired.proofs.fired_answer.Goals as goal

pub returns-in_err-checked : goal.returns-in_err-checked
returns-in_err-checked c = told-sheet _ _ _ _ c.in_err-checked.field-0.0 c.from_residual.ensures.1 c.in_err-checked.ensures.verdict
