-- What a table of numbers holds.
use Rattle.std.specs.Prelude.{ℕ, zero, suc, List, [], ◌∷◌, get_or}

-- the first n numbers of a table, the last first
abbrev pub held_numbers : List ℕ → ℕ → List ℕ
held_numbers table zero = []
held_numbers table (suc k) = get_or table k 0 ∷ held_numbers table k
