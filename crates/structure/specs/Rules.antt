-- The rules on records: depth, and when a byte string or a record of it breaks the rule of each of the codes 1 to 6.
use Rattle.std.specs.Prelude.{ℕ, zero, suc, ◌%◌, Bool, true, false, cond, ◌&&◌, not, ◌||◌, List, [], ◌∷◌, length, eqb, ltb, ◌≡◌}
use Rattle.records.specs.Kinds.{
  Kind,
  header,
  type_of,
  expression,
  pattern,
  leaf,
  unknown,
  constant,
  name,
  tuple,
  first,
  second,
  let_in,
  feedback,
  if_matches,
  delay,
  same_sort,
  expressions,
  is_pair,
  is_header,
}
use Rattle.records.specs.Says.{kind_at, Naming, namings, sort_at, well_said, well_named}
use Rattle.records.specs.Trees.{follow, type_at, pair_below}
use Rattle.picoella.specs.Language.{leaves}
use Rattle.records.specs.Words.{word_a, word_b, count}
use Rattle.std.proofs.Math.Option.{none}
use Rattle.answers.specs.Answers.{lowest}

-- How deep an expression lies, and in how many feedbacks' defining parts (docs/SHEETS.md, "Limits": the root has depth 1, "and an
-- expression that is a part of another one more than that other"; a defining part, "with all that is in it", lies in its feedback).
-- Both are read off the namings that lead from a record up to the header. A record that names is lower than the one it names, so as
-- many steps as the record's number are enough. From a pattern that several IFs share they go up by the first, which no rule asks
-- about: no expression is a part of a pattern.

abbrev pub climb : (ℕ → List Naming) → List Naming → List Naming
climb go [] = []
climb go (n ∷ ns) = n ∷ follow [] go n.by

unfoldable pub ancestry_within : List ℕ → ℕ → ℕ → List Naming
ancestry_within s zero r = []
ancestry_within s (suc fuel) r = climb (ancestry_within s fuel) (namings s r)

-- the naming of r, that of the record that names it, and so on, up to a naming by the header
unfoldable pub ancestry : List ℕ → ℕ → List Naming
ancestry s r = ancestry_within s r r

unfoldable pub depth : List ℕ → ℕ → ℕ
depth s r = length (ancestry s r)

abbrev pub is_feedback : Kind → Bool
is_feedback header = false
is_feedback (type_of k) = false
is_feedback (expression constant) = false
is_feedback (expression name) = false
is_feedback (expression tuple) = false
is_feedback (expression first) = false
is_feedback (expression second) = false
is_feedback (expression let_in) = false
is_feedback (expression feedback) = true
is_feedback (expression if_matches) = false
is_feedback (expression delay) = false
is_feedback (pattern k) = false
is_feedback leaf = false
is_feedback unknown = false

-- the naming is that of a feedback's defining part, its word b
abbrev pub of_defining_part : List ℕ → Naming → Bool
of_defining_part s n = is_feedback (kind_at s n.by) && eqb n.at 3

abbrev pub how_many {ℓ} : {A : Type ℓ} → (A → Bool) → List A → ℕ
how_many p [] = 0
how_many p (x ∷ xs) = cond (p x) (suc (how_many p xs)) (how_many p xs)

unfoldable pub nesting : List ℕ → ℕ → ℕ
nesting s r = how_many (of_defining_part s) (ancestry s r)

-- When a byte string or a record of it breaks the rule of each of the codes 1 to 6 (docs/SHEETS.md, "Codes").

-- 1: length under 12, over 49,152 or no multiple of 12
unfoldable pub wrong_length : List ℕ → Bool
wrong_length s = ltb (length s) 12 || (ltb 49152 (length s) || not (eqb (length s % 12) 0))

-- 2: header kind, count, d, or a named record's sort or number wrong
unfoldable pub wrong_header : List ℕ → Bool
wrong_header s = not (is_header (kind_at s 0) && well_said s 0)

-- 3: unknown kind, kind 1, or a word against the table, the numbering rule or the sort it asks for
unfoldable pub wrong_record : List ℕ → ℕ → Bool
wrong_record s r = ltb 0 r && (is_header (kind_at s r) || not (well_said s r))

-- 4: not well named: by no word, or by several that are not all words d
unfoldable pub wrong_naming : List ℕ → ℕ → Bool
wrong_naming s r = ltb 0 r && not (well_named (namings s r))

-- 5: pair type with the parts of a lower one, or over 64 leaves
unfoldable pub wrong_type : List ℕ → ℕ → Bool
wrong_type s r = is_pair (kind_at s r) && (ltb 0 (pair_below s (word_a s r) (word_b s r) r) || ltb 64 (leaves (type_at s r)))

-- 6: too deep, or in over three feedbacks
unfoldable pub too_deep : List ℕ → ℕ → Bool
too_deep s r = same_sort (sort_at s r) expressions && (ltb 64 (depth s r) || ltb 3 (nesting s r))

-- None of the codes 1 to 6 applies: what the type rules stand on.
pub record Passes (s : List ℕ) : Type 0 where
  pub length : wrong_length s ≡ false
  pub header : wrong_header s ≡ false
  pub records : lowest (wrong_record s) (count s) ≡ none
  pub namings : lowest (wrong_naming s) (count s) ≡ none
  pub types : lowest (wrong_type s) (count s) ≡ none
  pub depths : lowest (too_deep s) (count s) ≡ none
