-- The invariant: the records below rec have taken what they take. Assumes nothing.
use Rattle.records.specs.Words.{count}
use Rattle.carry.proofs.Takes.{RecordsTaken}
use Rattle.carry.proofs.take_all.Given as goal

abbrev pub invariant-loop-rec : goal.invariant-loop-rec
invariant-loop-rec l = RecordsTaken l.old l.new l.initial.next (count l.new) l.rec l.next
