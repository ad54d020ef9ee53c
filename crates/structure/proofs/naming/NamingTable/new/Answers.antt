-- The table holds no naming. Assumes nothing.
use Prim.Native.Nat.{ℕ}
use lib.ListN.{length-replicate, get_or-replicate}
use Rattle.structure.proofs.naming.NamingTable.new.Goals as goal

pub returns : goal.returns
returns c = record { long = length-replicate {A = ℕ} 4096 0; entries = λ r h. get_or-replicate {A = ℕ} 4096 r 0 0 h }
