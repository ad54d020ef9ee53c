-- A delay's word d, and 0 elsewhere. Assumes nothing.
use native.Mathlib.Omega.{arith}
use mathlib.Core.Path.{sym}
use Rattle.carry.proofs.Bearing.{label-none, label_is}
use Rattle.carry.proofs.label_of.Goals as goal

pub returns-in-Delay : goal.returns-in-Delay
returns-in-Delay c = (label_is _ _ (sym c.in-Delay.ensures) _ c.word.ensures.0, c.word.ensures.1)

pub returns-in_default : goal.returns-in_default
returns-in_default c = (label-none _ _ _ c.kind.ensures c.in_default.not-Delay, omega arith)
