-- Assumes nothing.
use Rattle.preview.proofs.Showing.{preview-refused-sheet}
use Rattle.preview.proofs.preview_answer.Goals as goal

pub returns-in_err-checked : goal.returns-in_err-checked
returns-in_err-checked c = preview-refused-sheet _ _ _ _ c.in_err-checked.field-0.0 c.from_residual.ensures.1 c.in_err-checked.ensures.verdict
