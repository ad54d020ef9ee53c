-- The leaves of a type taken off the front of a chain of leaves.
use Rattle.std.specs.Prelude.{ℕ, ◌<◌, ◌≡◌, Bool, false, List, [], ◌++◌, Option, Some, None}
use Rattle.picoella.specs.Language.{bounds}
use Rattle.records.specs.Words.{count}
use Rattle.records.specs.Kinds.{leafs}
use Rattle.records.specs.Says.{sort_at}
use Rattle.records.specs.Trees.{type_at, chain, follow}
use Rattle.records.specs.Decoding.{leaf_values}
use Rattle.typing.specs.Judgements.{within}

-- where r is not 0, the end of a chain, it is a leaf
pub record LeafOrEnd (s : List ℕ) (r : ℕ) : Type 0 where
  pub leaf : 0 < r → (r < count s) × (sort_at s r ≡ leafs)

-- the values of the leaves from r on
abbrev pub values_from : List ℕ → ℕ → List ℕ
values_from s r = leaf_values s (follow [] (chain s) r)

-- what is left fits these bounds
abbrev pub remains_within : List ℕ → List ℕ → Option ℕ → Bool
remains_within s ns (Some r) = within ns (values_from s r)
remains_within s ns None = false

-- the chain fits the type's bounds and then others exactly where what is left fits the others
pub record TakenOff (s : List ℕ) (t leaf : ℕ) (answer : Option ℕ) : Type 0 where
  pub goes_on : (r : ℕ) → answer ≡ Some r → LeafOrEnd s r
  pub same : (ns : List ℕ) → within (bounds (type_at s t) ++ ns) (values_from s leaf) ≡ remains_within s ns answer
