-- The indices that waited above the stack are written.
-- Assumes nothing.
use lib.ListN.{length}
use Rattle.emitting.proofs.AdvanceLaws.{IndicesPut}
use Rattle.emitting.proofs.writer.Writer.complete.Given as goal

abbrev pub invariant-loop-kind : goal.invariant-loop-kind
invariant-loop-kind l = IndicesPut l.initial.sheet l.initial.self.stack l.initial.self.cursor l.sheet l.self.stack l.self.cursor

abbrev pub decreases-loop-kind : goal.decreases-loop-kind
decreases-loop-kind l = length l.self.stack
