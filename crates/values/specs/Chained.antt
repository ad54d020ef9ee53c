-- A chain of as many leaves as a value has.
use Rattle.std.specs.Prelude.{ℕ, ◌<◌, ◌≡◌, List, length}
use Rattle.records.specs.Kinds.{leafs}
use Rattle.records.specs.Says.{sort_at}
use Rattle.records.specs.Sized.{Sized}
use Rattle.records.specs.Trees.{chain}
use Rattle.records.specs.Written.{Written}

pub record Chained (s : List ℕ) (n first leaves : ℕ) : Type 0 where
  pub sized : Sized s n
  pub written : Written s
  pub there : first < n
  pub sort : sort_at s first ≡ leafs
  pub many : length (chain s first) ≡ leaves
