-- What a sheet has to which none of the codes 1 to 6 applies: its records say what the table asks, each but the header is named
-- once, its types fit, and no expression lies too deep. Each by taking the negated test of its code apart.
-- Assumes nothing.
use Prim.Native.Nat.{ℕ, zero, suc, ◌%◌, ◌≤◌, ◌<◌}
use mathlib.Core.Bool.{true, false, not, ◌&&◌, ◌||◌}
use mathlib.Core.List.{List}
use mathlib.Core.Option.{none}
use mathlib.Core.Path.{◌≡◌}
use native.Mathlib.Omega.{arith}
use lib.ListN.{length}
use lib.Dec.{eqb, ltb}
use borrow.Author.Tests.{ltb-false, lt-ltb, not-false}
use Rattle.picoella.specs.Language.{leaves}
use Rattle.records.specs.Words.{count, word_a, word_b}
use Rattle.records.specs.Kinds.{same_sort, expressions, type_of, pair, header, is_pair, is_header}
use Rattle.records.specs.Says.{kind_at, sort_at, well_said, namings, well_named}
use Rattle.records.specs.Trees.{type_at, pair_below}
use Rattle.records.specs.Written.{Written, WellNamed, TypesFit}
use Rattle.records.proofs.Tests.{both_left, both_right, both-fails, neither_left, neither_right}
use Rattle.records.proofs.Table.{is-header}
use Rattle.structure.specs.Rules.{depth, nesting, wrong_length, wrong_header, wrong_record, wrong_naming, wrong_type, too_deep, Passes}
use Rattle.answers.specs.Answers.{lowest}
use Rattle.answers.proofs.Lowest.{lowest-none-fails}

-- code 1
pub length-fits : (s : List ℕ) → wrong_length s ≡ false → (0 < count s) × (count s ≤ 4096)
unfolding wrong_length count
length-fits s e =
    let short = neither_left (ltb (length s) 12) (ltb 49152 (length s) || not (eqb (length s % 12) 0)) e in
    let low : 12 ≤ length s = ltb-false (length s) 12 short in
    let rest = neither_right (ltb (length s) 12) (ltb 49152 (length s) || not (eqb (length s % 12) 0)) e in
    let high : length s ≤ 49152 = ltb-false 49152 (length s) (neither_left (ltb 49152 (length s)) (not (eqb (length s % 12) 0)) rest) in
    (omega arith, omega arith)

-- code 2
pub header-said : (s : List ℕ) → wrong_header s ≡ false → (kind_at s 0 ≡ header) × (well_said s 0 ≡ true)
unfolding wrong_header
header-said s e =
    let f = not-false (is_header (kind_at s 0) && well_said s 0) e in
    (is-header (kind_at s 0) (both_left (is_header (kind_at s 0)) (well_said s 0) f), both_right (is_header (kind_at s 0)) (well_said s 0) f)

-- code 3
pub record-said : (s : List ℕ) (r : ℕ) → 0 < r → wrong_record s r ≡ false → (is_header (kind_at s r) ≡ false) × (well_said s r ≡ true)
unfolding wrong_record
record-said s r h e =
    let f = both-fails (ltb 0 r) (is_header (kind_at s r) || not (well_said s r)) e (lt-ltb 0 r h) in (
      neither_left (is_header (kind_at s r)) (not (well_said s r)) f,
      not-false (well_said s r) (neither_right (is_header (kind_at s r)) (not (well_said s r)) f),
    )

pub written-by : {s : List ℕ} → wrong_length s ≡ false → wrong_header s ≡ false → lowest (wrong_record s) (count s) ≡ none → Written s
written-by {s} el eh er = record {
  some = (length-fits s el).0;
  few = (length-fits s el).1;
  headed = (header-said s eh).0;
  said = said;
  others = λ r low high. (record-said s r low (lowest-none-fails (wrong_record s) (count s) er r high)).0;
}
  where
    said : (r : ℕ) → r < count s → well_said s r ≡ true
    said zero h = (header-said s eh).1
    said (suc r) h = (record-said s (suc r) (omega arith) (lowest-none-fails (wrong_record s) (count s) er (suc r) h)).1

pub written : {s : List ℕ} → Passes s → Written s
written {s} p = written-by p.length p.header p.records

-- code 4
pub well-named-by : (s : List ℕ) → lowest (wrong_naming s) (count s) ≡ none → WellNamed s
unfolding wrong_naming
well-named-by s en r low high =
    not-false (well_named (namings s r))
    (both-fails (ltb 0 r) (not (well_named (namings s r))) (lowest-none-fails (wrong_naming s) (count s) en r high) (lt-ltb 0 r low))

pub well-named : {s : List ℕ} → Passes s → WellNamed s
well-named {s} p = well-named-by s p.namings

-- code 5
pub type-fits : (s : List ℕ) (r : ℕ) → kind_at s r ≡ type_of pair → wrong_type s r ≡ false
    → (pair_below s (word_a s r) (word_b s r) r ≡ 0) × (leaves (type_at s r) ≤ 64)
unfolding wrong_type
type-fits s r k e =
    let below = pair_below s (word_a s r) (word_b s r) r in
    let f = both-fails (is_pair (kind_at s r)) (ltb 0 below || ltb 64 (leaves (type_at s r))) e (rw k) in
    let none : below ≤ 0 = ltb-false 0 below (neither_left (ltb 0 below) (ltb 64 (leaves (type_at s r))) f) in
    (omega arith, ltb-false 64 (leaves (type_at s r)) (neither_right (ltb 0 below) (ltb 64 (leaves (type_at s r))) f))

pub types-fit : {s : List ℕ} → Passes s → TypesFit s
types-fit {s} p = record {
  unique = λ r h k. (type-fits s r k (lowest-none-fails (wrong_type s) (count s) p.types r h)).0;
  small = λ r h k. (type-fits s r k (lowest-none-fails (wrong_type s) (count s) p.types r h)).1;
}

-- code 6
pub not-deep : {s : List ℕ} → Passes s → (r : ℕ) → r < count s → sort_at s r ≡ expressions → (depth s r ≤ 64) × (nesting s r ≤ 3)
unfolding too_deep
not-deep {s} p r h e =
    let f = both-fails (same_sort (sort_at s r) expressions) (ltb 64 (depth s r) || ltb 3 (nesting s r))
    (lowest-none-fails (too_deep s) (count s) p.depths r h) (rw e) in (
      ltb-false 64 (depth s r) (neither_left (ltb 64 (depth s r)) (ltb 3 (nesting s r)) f),
      ltb-false 3 (nesting s r) (neither_right (ltb 64 (depth s r)) (ltb 3 (nesting s r)) f),
    )
