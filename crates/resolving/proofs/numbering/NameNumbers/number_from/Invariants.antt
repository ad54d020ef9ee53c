-- Each number follows from those of the name before.
-- Assumes nothing.
use mathlib.Core.Path.{◌≡◌}
use Rattle.symbols.specs.RoleNumbers.{role_codes}
use Rattle.resolving.specs.Said.{Numbered, types_below, ranks_below}
use Rattle.resolving.proofs.numbering.NameNumbers.number_from.Given as goal

abbrev pub invariant-loop-k : goal.invariant-loop-k
invariant-loop-k l =
    Numbered (role_codes l.roles) l.self.types l.self.ranks l.k × (l.types ≡ types_below (role_codes l.roles) l.k)
    × (l.rank ≡ ranks_below (role_codes l.roles) l.k)
