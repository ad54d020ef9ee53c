-- Assumes nothing.
use native.Mathlib.Omega.{arith}
use Rattle.carry.proofs.Calls.{twice-place}
use Rattle.carry.proofs.check_labels.Goals as goal

pub overflow_cast-result : goal.overflow_cast-result
overflow_cast-result c = let p = twice-place c.requires c.carry_values.ensures.answered c.in-Some.is in record { fits = omega arith }
