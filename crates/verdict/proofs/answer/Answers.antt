-- A fault is the refusal of its code and place. Assumes nothing.
use native.Mathlib.Omega.{arith}
use Rattle.verdict.proofs.Lending.{refused-answer, length-verdict}
use Rattle.verdict.proofs.PlacesSmall.{output-place}
use Rattle.verdict.proofs.answer.Goals as goal

pub returns-in_err-sheet : goal.returns-in_err-sheet
returns-in_err-sheet c = refused-answer _ _ c.from_residual.ensures.1 (length-verdict _ c.in_err-sheet.ensures.err)

pub check_stages-requires : goal.check_stages-requires
check_stages-requires c = (rw c.in_ok-sheet.ensures.ok.0 c.in_ok-sheet.ensures.ok.1, c.no_leaves-widths.ensures _)

pub overflow_cast-result : goal.overflow_cast-result
overflow_cast-result c = omega (arith, output-place _ _ c.in_ok-place.ensures.answered)
