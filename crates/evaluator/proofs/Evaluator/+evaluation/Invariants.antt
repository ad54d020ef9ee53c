-- A number built from the distance to the last record and the undefined leaves left falls.
-- Assumes nothing.
use Rattle.records.specs.Words.{count}
use Prim.Native.Nat.{◌+◌, ◌*◌, ◌-◌}
use lib.ListN.{length}
use Rattle.meaning.proofs.Order.{zeros}
use Rattle.values.specs.Slots.{slot}
use Rattle.evaluator.proofs.Evaluator.+evaluation.Given as goal

abbrev pub decreases-eval : goal.decreases-eval
decreases-eval l = 69 * (count l.self.now.sheet.now - l.rec) + 1

abbrev pub decreases-eval_from : goal.decreases-eval_from
decreases-eval_from l = 69 * (count l.self.now.sheet.now - l.rec) + 3

abbrev pub decreases-eval_part : goal.decreases-eval_part
decreases-eval_part l = 69 * (count l.self.now.sheet.now - l.rec) + 2

abbrev pub decreases-hold_settled : goal.decreases-hold_settled
decreases-hold_settled l = 69 * (count l.self.now.sheet.now - l.d) + 4 + zeros (slot l.names (length l.value.now) l.room.now.env)

abbrev pub decreases-of_delay : goal.decreases-of_delay
decreases-of_delay l = 69 * (count l.self.now.sheet.now - l.rec)

abbrev pub decreases-of_feedback : goal.decreases-of_feedback
decreases-of_feedback l = 69 * (count l.self.now.sheet.now - l.rec)

abbrev pub decreases-of_first : goal.decreases-of_first
decreases-of_first l = 69 * (count l.self.now.sheet.now - l.rec)

abbrev pub decreases-of_if : goal.decreases-of_if
decreases-of_if l = 69 * (count l.self.now.sheet.now - l.rec)

abbrev pub decreases-of_let : goal.decreases-of_let
decreases-of_let l = 69 * (count l.self.now.sheet.now - l.rec)

abbrev pub decreases-of_pair : goal.decreases-of_pair
decreases-of_pair l = 69 * (count l.self.now.sheet.now - l.rec)

abbrev pub decreases-of_second : goal.decreases-of_second
decreases-of_second l = 69 * (count l.self.now.sheet.now - l.rec)

abbrev pub decreases-settle : goal.decreases-settle
decreases-settle l = 69 * (count l.self.now.sheet.now - l.d) + 3 + zeros (slot l.names (length l.value.now) l.room.now.env)
