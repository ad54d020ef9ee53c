-- The table of an accepted sheet: the leaf counts of the type of every expression, pattern and type, one byte a record, and 0
-- elsewhere. A pattern's own count is that of its first alternative; a count above 64 stands as 65, which no pattern has that
-- fits a type.
use Rattle.std.specs.Prelude.{ℕ, min, ◌+◌, ◌<◌, ◌≡◌, Bool, true, false, List, length, get_or}
use Rattle.picoella.specs.Language.{leaves}
use Rattle.records.specs.Words.{count}
use Rattle.records.specs.Kinds.{Sort, headers, types, expressions, patterns, leafs, no_sort}
use Rattle.records.specs.Says.{sort_at}
use Rattle.records.specs.Trees.{type_at, TypeRecord, Alternatives, end, no_pattern, whole_type, one_constructor, pair_of_patterns, alternatives, tree_at}
use Rattle.typing.specs.ExpressionWidth.{width}
use Rattle.verdict.specs.Scopes.{Scope}

-- the leaves of a pattern's first alternative
abbrev pub pattern_leaves : List ℕ → Alternatives → ℕ
pattern_leaves s end = 0
pattern_leaves s no_pattern = 0
pattern_leaves s (whole_type r t m) = leaves (type_at s t)
pattern_leaves s (one_constructor r t k m) = 1
pattern_leaves s (pair_of_patterns r p q m) = pattern_leaves s p + pattern_leaves s q

-- the entry of the pattern at record p
abbrev pub pattern_entry : List ℕ → ℕ → ℕ
pattern_entry s p = min 65 (pattern_leaves s (alternatives s p))

-- records of this sort have an entry
abbrev pub has_entry : Sort → Bool
has_entry headers = false
has_entry types = true
has_entry expressions = true
has_entry patterns = true
has_entry leafs = false
has_entry no_sort = false

pub record Widths (s table : List ℕ) : Type 0 where
  pub long : length table ≡ 4096
  pub types : (t : ℕ) → TypeRecord s t → get_or table t 0 ≡ leaves (type_at s t)
  pub expressions : {q : ℕ} {Γ : List ℕ} → Scope s q Γ → get_or table q 0 ≡ width s Γ (tree_at s q)
  pub patterns : (p : ℕ) → p < count s → sort_at s p ≡ patterns → get_or table p 0 ≡ pattern_entry s p
  pub elsewhere : (r : ℕ) → r < 4096 → (r < count s → has_entry (sort_at s r) ≡ false) → get_or table r 0 ≡ 0
