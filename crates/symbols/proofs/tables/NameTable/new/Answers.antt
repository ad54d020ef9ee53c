-- Every hash is without a name.
-- Assumes nothing.
use Rattle.symbols.proofs.Search.{none-hashed}
use Rattle.std.proofs.Common.{refl}
use Rattle.symbols.proofs.tables.NameTable.new.Goals as goal

pub invariant_of-result : goal.invariant_of-result
invariant_of-result c = record { hashed = none-hashed _ _ _ refl refl }
