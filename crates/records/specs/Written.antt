-- A sheet whose records say what the table asks: what holds where codes 1 to 3 do not apply, and codes 4 and 5. The laws on
-- types, chains and trees rest on these alone.
use Rattle.std.specs.Prelude.{ℕ, ◌≤◌, ◌<◌, ◌≡◌, true, false}
use mathlib.Core.List.{List, [], ◌∷◌, Memᴰ}
use Rattle.records.specs.Limits.{most_records}
use Rattle.picoella.specs.Language.{leaves}
use Rattle.records.specs.Words.{count, word_a, word_b}
use Rattle.records.specs.Kinds.{header, type_of, pair, is_header}
use Rattle.records.specs.Says.{kind_at, well_said, namings, well_named}
use Rattle.records.specs.Trees.{type_at, pair_below, Tree, held}

-- codes 1 to 3
pub record Written (s : List ℕ) : Type 0 where
  pub some : 0 < count s
  pub few : count s ≤ most_records
  pub headed : kind_at s 0 ≡ header
  pub said : (r : ℕ) → r < count s → well_said s r ≡ true
  pub others : (r : ℕ) → 0 < r → r < count s → is_header (kind_at s r) ≡ false

-- code 4
abbrev pub WellNamed : List ℕ → Type 0
WellNamed s = (r : ℕ) → 0 < r → r < count s → well_named (namings s r) ≡ true

-- code 5
pub record TypesFit (s : List ℕ) : Type 0 where
  pub unique : (r : ℕ) → r < count s → kind_at s r ≡ type_of pair → pair_below s (word_a s r) (word_b s r) r ≡ 0
  pub small : (r : ℕ) → r < count s → kind_at s r ≡ type_of pair → leaves (type_at s r) ≤ 64

-- the records of a tree's expressions
abbrev pub expression_records : Tree → List ℕ
expression_records e = held true false false e

-- no number twice
abbrev pub Distinct : List ℕ → Type 0
Distinct [] = Unit {0}
Distinct (r ∷ rs) = (Memᴰ r rs → ⊥) × Distinct rs
