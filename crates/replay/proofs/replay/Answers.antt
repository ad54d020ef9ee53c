-- Assumes nothing.
use mathlib.Core.Path.{refl, ◌∙◌}
use Rattle.replay.specs.Replay.{Agrees}
use Rattle.replay.proofs.Answered.{replay-numbers}
use Rattle.replay.proofs.replay.Goals as goal

pub returns-in-Ok : goal.returns-in-Ok
returns-in-Ok c = let u = c.compared.ensures in replay-numbers _ _ _ _ _ _ c.in-Ok.ensures _ refl u.0 u.1 u.2 u.3

pub returns-in-Err : goal.returns-in-Err
returns-in-Err c = let u = c.refused.ensures in replay-numbers _ _ _ _ _ _ c.in-Err.ensures (Agrees 0) tt (u.0 ∙ c.packed.ensures) u.1 u.2 u.3
