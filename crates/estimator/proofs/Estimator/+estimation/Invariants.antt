-- The distance to the last record falls. Assumes nothing.
use Rattle.records.specs.Words.{count}
use Prim.Native.Nat.{◌+◌, ◌*◌, ◌-◌}
use Rattle.estimator.proofs.Estimator.+estimation.Given as goal

abbrev pub decreases-estimate : goal.decreases-estimate
decreases-estimate l = 2 * (count l.self.now.checked.now.sheet - l.rec) + 1

abbrev pub decreases-of_first : goal.decreases-of_first
decreases-of_first l = 2 * (count l.self.now.checked.now.sheet - l.rec)

abbrev pub decreases-of_if : goal.decreases-of_if
decreases-of_if l = 2 * (count l.self.now.checked.now.sheet - l.rec)

abbrev pub decreases-of_let : goal.decreases-of_let
decreases-of_let l = 2 * (count l.self.now.checked.now.sheet - l.rec)

abbrev pub decreases-of_pair : goal.decreases-of_pair
decreases-of_pair l = 2 * (count l.self.now.checked.now.sheet - l.rec)

abbrev pub decreases-of_second : goal.decreases-of_second
decreases-of_second l = 2 * (count l.self.now.checked.now.sheet - l.rec)
