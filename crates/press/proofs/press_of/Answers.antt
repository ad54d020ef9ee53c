-- Assumes nothing.
use mathlib.Core.Path.{◌∙◌}
use Rattle.press.proofs.Calls.{press-numbers}
use Rattle.press.proofs.press_of.Goals as goal

pub returns-in-Ok : goal.returns-in-Ok
returns-in-Ok c = let u = c.told.ensures in press-numbers _ _ _ _ c.in-Ok.ensures u.0 u.1 u.2 u.3

pub returns-in-Err : goal.returns-in-Err
returns-in-Err c = let u = c.untold.ensures in press-numbers _ _ _ _ c.in-Err.ensures (u.0 ∙ c.packed.ensures) u.1 u.2 u.3
