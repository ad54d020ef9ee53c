-- The instructions that are left lead from what stands to the whole.
-- Assumes nothing.
use Rattle.emitting.proofs.CodeLaws.{CodeLeft}
use Rattle.emitting.proofs.write_code.Given as goal

abbrev pub invariant-loop-k : goal.invariant-loop-k
invariant-loop-k l = CodeLeft l.types l.code l.records l.initial.sheet l.sheet l.writer l.k
