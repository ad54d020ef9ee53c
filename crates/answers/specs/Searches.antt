-- What the answer of a search over records stands for, and the bound of places.
use Rattle.std.specs.Prelude.{ℕ, Option, Some, None}
use Rattle.std.proofs.Math.Option as maybe

abbrev pub found : Option ℕ → maybe.Option ℕ
found (Some r) = maybe.some r
found None = maybe.none

-- a place is below this
abbrev pub place_bound : ℕ
place_bound = 4294967296
