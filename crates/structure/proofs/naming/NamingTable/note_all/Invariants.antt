-- The invariant: the table holds the namings by the records below q. Assumes nothing.
use Rattle.records.specs.Says.{namings_below}
use Rattle.structure.specs.NamerTable.{NamingsHeld}
use Rattle.structure.proofs.naming.NamingTable.note_all.Given as goal

abbrev pub invariant-loop-q : goal.invariant-loop-q
invariant-loop-q l = NamingsHeld (λ r. namings_below l.sheet r l.q) l.self
