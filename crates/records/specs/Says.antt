-- What the words of a record say, and which words name a record.
use Rattle.std.specs.Prelude.{ℕ, zero, suc, Bool, true, false, ◌&&◌, ◌||◌, List, [], ◌∷◌, ◌++◌, eqb, ltb, leb}
use Rattle.records.specs.Words.{word, count, kind_word, word_a}
use Rattle.records.specs.Kinds.{
  Kind,
  Sort,
  types,
  Ask,
  zeroed,
  next_of,
  part,
  any_type,
  lower_type,
  lower_flat,
  constructor_of,
  counted,
  byte,
  free,
  total,
  never,
  kind_of,
  ask_of,
  sort_of,
  same_sort,
  is_flat,
}

-- What a record says (docs/SHEETS.md, "Numbering and naming"): its kind, and for each word whether the number in it is what the table
-- asks. "A type word, unless it is the header's, names a record whose number is lower than that of its own record." "Every other word
-- that names a record, and every `next` that is not 0, has a number higher than its own record's." "A number at or above the number of
-- records names nothing, and breaks the numbering." "What a word names is of the sort that the word asks for."

-- the kind and the sort of record r
abbrev pub kind_at : List ℕ → ℕ → Kind
kind_at s r = kind_of (kind_word s r)

abbrev pub sort_at : List ℕ → ℕ → Sort
sort_at s r = sort_of (kind_at s r)

-- what word k of record r asks
abbrev pub ask_at : List ℕ → ℕ → ℕ → Ask
ask_at s r k = ask_of (kind_word s r) k

-- w is a record of the sheet, above r, of this sort
abbrev pub higher : List ℕ → ℕ → Sort → ℕ → Bool
higher s r σ w = ltb r w && (ltb w (count s) && same_sort (sort_at s w) σ)

-- the number w is what is asked of a word of record r
abbrev pub meets : List ℕ → ℕ → Ask → ℕ → Bool
meets s r zeroed w = eqb w 0
meets s r (next_of σ) w = eqb w 0 || higher s r σ w
meets s r (part σ) w = higher s r σ w
meets s r any_type w = higher s 0 types w
meets s r lower_type w = ltb w r && same_sort (sort_at s w) types
meets s r lower_flat w = ltb w r && is_flat (kind_at s w)
meets s r constructor_of w = ltb 0 w && leb w (word_a s (word_a s r))
meets s r counted w = ltb 0 w && leb w 255
meets s r byte w = leb w 255
meets s r free w = true
meets s r total w = eqb w (count s)
meets s r never w = false

-- word k of record r is what the table asks
abbrev pub meets_word_at : List ℕ → ℕ → ℕ → Bool
meets_word_at s r k = meets s r (ask_at s r k) (word s r k)

-- every word of record r is what the table asks
unfoldable pub well_said : List ℕ → ℕ → Bool
well_said s r = meets_word_at s r 1 && (meets_word_at s r 2 && (meets_word_at s r 3 && (meets_word_at s r 4 && meets_word_at s r 5)))

-- Which words name a record, and when it is well named (docs/SHEETS.md, "Numbering and naming": "Every record but 0 is named by exactly
-- one word, except that several IFs may name the first record of one pattern, each by its `d`. A pattern record that a `next` or a pair
-- pattern names is named by nothing else. Type words are not counted, `next` words are"). A naming is the record and the word that
-- names, and the rule is a predicate on the list of a record's namings. It need not ask for IFs and patterns: of all words d only an
-- IF's names, and what it names is a pattern (`word-d-names`).

pub record Naming : Type 0 where
  pub by : ℕ  -- the record that names
  pub at : ℕ  -- the number of its word

-- a word that asks this names the record in it
abbrev pub names : Ask → Bool
names zeroed = false
names (next_of σ) = true
names (part σ) = true
names any_type = false
names lower_type = false
names lower_flat = false
names constructor_of = false
names counted = false
names byte = false
names free = false
names total = false
names never = false

-- word k of record q names record r
abbrev pub names_at : List ℕ → ℕ → ℕ → ℕ → Bool
names_at s r q k = names (ask_at s q k) && eqb (word s q k) r

abbrev pub if_named : Bool → ℕ → ℕ → List Naming
if_named true q k = record { by = q; at = k } ∷ []
if_named false q k = []

-- the namings of r by the words of record q, up to word k
abbrev pub namings_in : List ℕ → ℕ → ℕ → ℕ → List Naming
namings_in s r q zero = []
namings_in s r q (suc k) = namings_in s r q k ++ if_named (names_at s r q (suc k)) q (suc k)

-- the namings of r by the records below q
abbrev pub namings_below : List ℕ → ℕ → ℕ → List Naming
namings_below s r zero = []
namings_below s r (suc q) = namings_below s r q ++ namings_in s r q 5

unfoldable pub namings : List ℕ → ℕ → List Naming
namings s r = namings_below s r (count s)

-- every naming is by word d
abbrev pub by_word_d : List Naming → Bool
by_word_d [] = true
by_word_d (n ∷ ns) = eqb n.at 5 && by_word_d ns

-- named exactly once, or several times and by words d alone
abbrev pub well_named : List Naming → Bool
well_named [] = false
well_named (n ∷ []) = true
well_named (n ∷ m ∷ ns) = by_word_d (n ∷ m ∷ ns)
