-- Bytes that are no sheet have a wrong length. Assumes nothing.
use mathlib.Core.Path.{refl}
use Rattle.std.specs.Prelude.{Err}
use Rattle.answers.specs.declared.Fault.TheVariants.{WrongLength}
use Rattle.verdict.proofs.Lending.{no-sheet}
use Rattle.verdict.proofs.sheet_of.Goals as goal

pub returns-in-None-clause-err : goal.returns-in-None-clause-err
returns-in-None-clause-err c = no-sheet _ _ {r = Err WrongLength} (rw c.in-None.is refl) c.new.ensures.some
