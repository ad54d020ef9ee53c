-- What the tables of declared types hold: the last type first, and the leaves of each.
use Rattle.std.specs.Prelude.{ℕ, suc, ◌+◌, ◌-◌, ◌≤◌, ◌<◌, min, ◌≡◌, Bool, false, List, [], ◌∷◌, length, get_or, drop, Option, Some, None}
use Rattle.grammar.specs.Sizes.{text_table}
use Rattle.instructions.specs.Assembly.{DeclaredType, flat_type, paired_type, leaves_numbered, type_held, held_types}
use Rattle.instructions.specs.declared.types.DeclaredType.{DeclaredType as CodeType}
use Rattle.instructions.specs.declared.types.DeclaredType.TheVariants.{Flat, Paired}

abbrev pub type_declared : CodeType → DeclaredType
type_declared (Flat n) = flat_type n
type_declared (Paired a b) = paired_type a b

-- the type with so many before it
abbrev pub type_from_bottom : ℕ → List DeclaredType → DeclaredType
type_from_bottom k T = get_or T (length T - suc k) (flat_type 0)

-- the last type, if there is one
abbrev pub LastIs : Option CodeType → List DeclaredType → Type 0
LastIs None T = T ≡ []
LastIs (Some x) T = T ≡ type_declared x ∷ drop 1 T

-- the leaves of a type over those before it
abbrev pub leaves_over : List DeclaredType → DeclaredType → ℕ
leaves_over T (flat_type n) = 1
leaves_over T (paired_type a b) = min 64 (leaves_numbered T a + leaves_numbered T b)

-- the constructors of the last type, where it is flat
abbrev pub last_constructors : List DeclaredType → ℕ
last_constructors [] = 0
last_constructors (flat_type n ∷ T) = n
last_constructors (paired_type a b ∷ T) = 0

-- the leaves of each of n types stand in their table
pub record LeavesStand (pairs : List Bool) (firsts seconds leaves : List ℕ) (n : ℕ) : Type 0 where
  pub few : n ≤ text_table
  pub stand : (k : ℕ) → k < n
      → get_or leaves k 0 ≡ leaves_over (held_types pairs firsts seconds k) (type_held (get_or pairs k false) (get_or firsts k 0) (get_or seconds k 0))
