-- Bytes of a wrong length leave the table. Assumes nothing.
use Rattle.verdict.proofs.Lending.{length-lent}
use Rattle.verdict.proofs.check_into.Goals as goal

pub returns-in_err-sheet : goal.returns-in_err-sheet
returns-in_err-sheet c = length-lent _ _ _ c.from_residual.ensures.1 c.in_err-sheet.ensures.err

pub check_whole-requires : goal.check_whole-requires
check_whole-requires c = rw c.in_ok-sheet.ensures.ok.0 c.in_ok-sheet.ensures.ok.1
