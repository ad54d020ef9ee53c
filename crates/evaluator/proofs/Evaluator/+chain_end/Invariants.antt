-- The distance to the last record falls.
-- Assumes nothing.
use Rattle.records.specs.Words.{count}
use Prim.Native.Nat.{◌-◌}
use Rattle.evaluator.proofs.Evaluator.+chain_end.Given as goal

abbrev pub decreases-chain_end : goal.decreases-chain_end
decreases-chain_end l = count l.self.now.sheet.now - l.rec
