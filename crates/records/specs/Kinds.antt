-- The table of kinds (docs/SHEETS.md, "Records"), once: each kind's number, what it is, and what its words next, a, b, c and d
-- ask. The kinds are grouped by sort. A number that no row has is an unknown kind, whose words nothing meets.
use Rattle.std.specs.Prelude.{ℕ, Bool, true, false, cond, List, [], ◌∷◌, get_or, eqb}

pub data Sort : Type 0 where
  headers types expressions patterns leafs no_sort : Sort

pub data TypeKind : Type 0 where
  flat pair : TypeKind

pub data ExpressionKind : Type 0 where
  constant name tuple first second let_in feedback if_matches delay : ExpressionKind

pub data PatternKind : Type 0 where
  whole constructor parts : PatternKind

pub data Kind : Type 0 where
  header : Kind
  type_of : TypeKind → Kind
  expression : ExpressionKind → Kind
  pattern : PatternKind → Kind
  leaf : Kind
  unknown : Kind

abbrev pub sort_of : Kind → Sort
sort_of header = headers
sort_of (type_of k) = types
sort_of (expression k) = expressions
sort_of (pattern k) = patterns
sort_of leaf = leafs
sort_of unknown = no_sort

-- What a word asks of the number in it.
pub data Ask : Type 0 where
  zeroed : Ask  -- not mentioned for the kind: zero
  next_of : Sort → Ask  -- zero, or a higher record of this sort, which it names
  part : Sort → Ask  -- a higher record of this sort, which it names
  any_type : Ask  -- the header's a: any type record; it does not name it
  lower_type : Ask  -- a type record with a lower number; it does not name it
  lower_flat : Ask  -- a flat type's record with a lower number; it does not name it
  constructor_of : Ask  -- 1 up to the count of the flat type in word a
  counted : Ask  -- 1 to 255
  byte : Ask  -- 0 to 255
  free : Ask  -- any number
  total : Ask  -- the number of records
  never : Ask  -- of an unknown kind: nothing

pub data Row : Type 0 where
  row : (number : ℕ) (kind : Kind) (next a b c d : Ask) → Row

pub kind_rows : List Row
kind_rows =
    row 1 header (part types) any_type (part expressions) total zeroed
    ∷ row 16 (type_of flat) (next_of types) counted zeroed zeroed zeroed
    ∷ row 17 (type_of pair) (next_of types) lower_type lower_type zeroed zeroed
    ∷ row 32 (expression constant) zeroed lower_type (part leafs) zeroed zeroed
    ∷ row 33 (expression name) zeroed free zeroed zeroed zeroed
    ∷ row 34 (expression tuple) zeroed (part expressions) (part expressions) zeroed zeroed
    ∷ row 35 (expression first) zeroed (part expressions) zeroed zeroed zeroed
    ∷ row 36 (expression second) zeroed (part expressions) zeroed zeroed zeroed
    ∷ row 37 (expression let_in) zeroed (part expressions) (part expressions) zeroed zeroed
    ∷ row 38 (expression feedback) zeroed lower_type (part expressions) (part expressions) zeroed
    ∷ row 39 (expression if_matches) zeroed (part expressions) (part expressions) (part expressions) (part patterns)
    ∷ row 40 (expression delay) zeroed lower_type (part leafs) (part expressions) free
    ∷ row 48 (pattern whole) (next_of patterns) lower_type zeroed zeroed zeroed
    ∷ row 49 (pattern constructor) (next_of patterns) lower_flat constructor_of zeroed zeroed
    ∷ row 50 (pattern parts) (next_of patterns) (part patterns) (part patterns) zeroed zeroed
    ∷ row 64 leaf (next_of leafs) byte zeroed zeroed zeroed
    ∷ []

abbrev pub number_in : Row → ℕ
number_in (row number kind next a b c d) = number

abbrev pub kind_in : Row → Kind
kind_in (row number kind next a b c d) = kind

-- what each word asks, by the word's number; the kind itself, word 0, asks nothing more
abbrev pub asks_in : Row → List Ask
asks_in (row number kind next a b c d) = free ∷ next ∷ a ∷ b ∷ c ∷ d ∷ []

-- the row of a kind's number
abbrev pub row_in : List Row → ℕ → Row
row_in [] n = row n unknown never never never never never
row_in (x ∷ xs) n = cond (eqb (number_in x) n) x (row_in xs n)

unfoldable pub row_of : ℕ → Row
unfolding kind_rows
row_of n = row_in kind_rows n

unfoldable pub kind_of : ℕ → Kind
unfolding row_of
kind_of n = kind_in (row_of n)

unfoldable pub ask_of : ℕ → ℕ → Ask
unfolding row_of
ask_of n k = get_or (asks_in (row_of n)) k zeroed

-- numbers for sorts, by which they are compared
abbrev pub sort_number : Sort → ℕ
sort_number no_sort = 0
sort_number headers = 1
sort_number types = 2
sort_number expressions = 3
sort_number patterns = 4
sort_number leafs = 5

abbrev pub same_sort : Sort → Sort → Bool
same_sort σ τ = eqb (sort_number σ) (sort_number τ)

abbrev pub is_flat : Kind → Bool
is_flat header = false
is_flat (type_of flat) = true
is_flat (type_of pair) = false
is_flat (expression k) = false
is_flat (pattern k) = false
is_flat leaf = false
is_flat unknown = false

abbrev pub is_pair : Kind → Bool
is_pair header = false
is_pair (type_of flat) = false
is_pair (type_of pair) = true
is_pair (expression k) = false
is_pair (pattern k) = false
is_pair leaf = false
is_pair unknown = false

abbrev pub is_delay : Kind → Bool
is_delay header = false
is_delay (type_of k) = false
is_delay (expression constant) = false
is_delay (expression name) = false
is_delay (expression tuple) = false
is_delay (expression first) = false
is_delay (expression second) = false
is_delay (expression let_in) = false
is_delay (expression feedback) = false
is_delay (expression if_matches) = false
is_delay (expression delay) = true
is_delay (pattern k) = false
is_delay leaf = false
is_delay unknown = false

abbrev pub is_header : Kind → Bool
is_header k = same_sort (sort_of k) headers
