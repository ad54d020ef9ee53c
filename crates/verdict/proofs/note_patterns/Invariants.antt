-- The invariant: the patterns from rec on have their widths. Assumes nothing.
use Rattle.verdict.specs.CheckedTable.{PatternsFrom}
use Rattle.verdict.proofs.note_patterns.Given as goal

abbrev pub invariant-loop-rec : goal.invariant-loop-rec
invariant-loop-rec l = PatternsFrom l.sheet l.rec l.widths
