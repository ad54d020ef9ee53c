-- The invariant: the namings by the words before word `at` are added. Assumes nothing.
use Prim.Native.Nat.{◌-◌}
use Rattle.records.specs.Says.{namings_in}
use Rattle.structure.specs.NamerTable.{NamingsAdded}
use Rattle.structure.proofs.naming.NamingTable.note_record.Given as goal

abbrev pub invariant-loop-at : goal.invariant-loop-at
invariant-loop-at l = NamingsAdded (λ r. namings_in l.sheet r l.q (l.at - 1)) l.initial.self l.self
