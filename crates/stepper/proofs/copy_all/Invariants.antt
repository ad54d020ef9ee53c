-- Assumes nothing.
use Rattle.records.specs.Words.{count}
use Rattle.stepper.proofs.Copies.{Below}
use Rattle.stepper.proofs.copy_all.Given as goal

abbrev pub invariant-loop-rec : goal.invariant-loop-rec
invariant-loop-rec l = Below l.sheet l.held l.initial.current (count l.sheet) l.rec l.current
