-- Assumes nothing.
use Rattle.remaining.proofs.Counted.{counts-refused-sheet}
use Rattle.remaining.proofs.possible_answer.Goals as goal

pub returns-in_err-checked : goal.returns-in_err-checked
returns-in_err-checked c = counts-refused-sheet _ _ _ _ c.in_err-checked.field-0.0 c.from_residual.ensures.1 c.in_err-checked.ensures.verdict
