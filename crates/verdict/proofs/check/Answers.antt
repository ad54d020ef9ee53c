-- Bytes of a wrong length. Assumes nothing.
use Rattle.verdict.proofs.Lending.{length-checked}
use Rattle.verdict.proofs.check.Goals as goal

pub returns-in_err-sheet-clause-verdict : goal.returns-in_err-sheet-clause-verdict
returns-in_err-sheet-clause-verdict c = length-checked _ _ c.from_residual.ensures.1 c.in_err-sheet.ensures.err

pub check_filling-requires : goal.check_filling-requires
check_filling-requires c = (rw c.in_ok-sheet.ensures.ok.0 c.in_ok-sheet.ensures.ok.1, c.no_leaves-widths.ensures _)
