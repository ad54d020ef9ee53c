-- The invariant: the patterns from rec on have their types. Assumes nothing.
use Rattle.typing.specs.PatternTable.{PatternsTyped}
use Rattle.typing.proofs.patterns.PatternTypes.note_all.Given as goal

abbrev pub invariant-loop-rec : goal.invariant-loop-rec
invariant-loop-rec l = PatternsTyped l.sheet l.rec l.self
