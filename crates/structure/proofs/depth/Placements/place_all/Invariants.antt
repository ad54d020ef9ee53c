-- The invariant: the records below rec are placed. Assumes nothing.
use Rattle.structure.specs.DepthTable.{Placed}
use Rattle.structure.proofs.depth.Placements.place_all.Given as goal

abbrev pub invariant-loop-rec : goal.invariant-loop-rec
invariant-loop-rec l = Placed l.sheet l.rec l.self.depths l.self.nestings
