-- The measure is the distance to the last record: parts have higher numbers. Assumes nothing.
use Prim.Native.Nat.{◌+◌, ◌*◌, ◌-◌}
use Rattle.records.specs.Words.{count}
use Rattle.typing.proofs.expressions.Judge.+judging.Given as goal

abbrev pub decreases-expression : goal.decreases-expression
decreases-expression l = 2 * (count l.self.now.sheet.now - l.rec) + 1

abbrev pub decreases-of_delay : goal.decreases-of_delay
decreases-of_delay l = 2 * (count l.self.now.sheet.now - l.rec)

abbrev pub decreases-of_feedback : goal.decreases-of_feedback
decreases-of_feedback l = 2 * (count l.self.now.sheet.now - l.rec)

abbrev pub decreases-of_if : goal.decreases-of_if
decreases-of_if l = 2 * (count l.self.now.sheet.now - l.rec)

abbrev pub decreases-of_let : goal.decreases-of_let
decreases-of_let l = 2 * (count l.self.now.sheet.now - l.rec)

abbrev pub decreases-of_pair : goal.decreases-of_pair
decreases-of_pair l = 2 * (count l.self.now.sheet.now - l.rec)

abbrev pub decreases-of_part : goal.decreases-of_part
decreases-of_part l = 2 * (count l.self.now.sheet.now - l.rec)
