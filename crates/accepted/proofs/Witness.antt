-- The laws speak of some sheet: the sheet T of docs/SHEETS.md is accepted with type 1, by computation; so it passes codes 1 to 6,
-- is well typed, and its root is an expression of an accepted circuit. What the functions of the check ask can be had at its
-- records; `PairWitness` has a sheet for those of pairs, LETs and parts. Assumes nothing.
use Prim.Native.Nat.{ℕ, ◌+◌, ◌*◌, ◌%◌, ◌/◌, ◌≤◌, ◌<◌}
use mathlib.Core.List.{List, [], ◌∷◌}
use mathlib.Core.Path.{◌≡◌, refl}
use Rattle.records.specs.Words.{word, count, word_b, kind_word}
use Rattle.records.specs.Kinds.{Ask, asks_in, row_of, kind_of, ask_of, expression, feedback, delay, if_matches, name, constant}
use Rattle.records.specs.Kinds as Kinds
use Rattle.records.specs.Says.{well_said, kind_at, sort_at, namings}
use Rattle.records.specs.Trees.{
  type_within,
  type_at,
  pair_of,
  TypeRecord,
  chain_within,
  chain,
  alternatives_within,
  alternatives,
  tree_within,
  tree_at,
  circuit,
}
use Rattle.structure.specs.Rules.{
  ancestry_within,
  ancestry,
  depth,
  nesting,
  wrong_length,
  wrong_header,
  wrong_record,
  wrong_naming,
  wrong_type,
  too_deep,
  Passes,
}
use Rattle.verdict.specs.Verdict.{by_types, by_records, verdict}
use Rattle.verdict.specs.declared.checked.Checked.{Checked}
use Rattle.verdict.specs.Scopes.{inputs, root}
use Rattle.verdict.specs.Promises.{WellTyped}
use Rattle.answers.specs.Answers.{Accepted}
use native.Mathlib.Omega.{arith}
use lib.ListN.{length}
use Rattle.records.specs.Sized.{Sized}
use Rattle.records.specs.Written.{Written, WellNamed}
use Rattle.picoella.specs.Language.{leaves}
use Rattle.structure.specs.NamerTable.{NamingsHeld}
use Rattle.structure.specs.LeafTable.{LeavesCounted}
use Rattle.structure.specs.PairIndex.{Indexed}
use Rattle.structure.specs.DepthTable.{Placed, Placing}
use Rattle.typing.specs.Judging.{Ground, Judging, Closing, Fitting}
use Rattle.typing.specs.LeafChains.{LeafOrEnd}
use Rattle.typing.specs.PatternTable.{PatternsTyped, TypingPattern, TypeTables}
use Rattle.verdict.specs.Stages.{CheckingTypes, CheckingDepths}
use Rattle.verdict.specs.CheckedTable.{PatternsFrom}
use Rattle.accepted.specs.Accepting.{Accepting}
use Rattle.accepted.proofs.Requirements.{sized, fitted, placing-begun, depths-placed, ready, closing, patterns-judged, widths}
use Rattle.accepted.proofs.Callable as Callable
use Rattle.verdict.proofs.Exact.{exact}
use Rattle.accepted.proofs.Scopes.{CheckedAt, scope-checked}

-- the bytes of words, low byte first
abbrev bytes : List ℕ → List ℕ
bytes [] = []
bytes (w ∷ ws) = w % 256 ∷ w / 256 ∷ bytes ws

-- six words a record: kind, next, a, b, c, d
abbrev sheet : List ℕ
sheet =
    bytes
    (1 ∷ 1 ∷ 1 ∷ 2 ∷ 17 ∷ 0
    ∷ 16 ∷ 0 ∷ 2 ∷ 0 ∷ 0 ∷ 0
    ∷ 38 ∷ 0 ∷ 1 ∷ 3 ∷ 16 ∷ 0
    ∷ 40 ∷ 0 ∷ 1 ∷ 4 ∷ 5 ∷ 0
    ∷ 64 ∷ 0 ∷ 2 ∷ 0 ∷ 0 ∷ 0
    ∷ 39 ∷ 0 ∷ 6 ∷ 8 ∷ 15 ∷ 7
    ∷ 33 ∷ 0 ∷ 1 ∷ 0 ∷ 0 ∷ 0
    ∷ 49 ∷ 0 ∷ 1 ∷ 1 ∷ 0 ∷ 0
    ∷ 39 ∷ 0 ∷ 9 ∷ 11 ∷ 13 ∷ 10
    ∷ 33 ∷ 0 ∷ 0 ∷ 0 ∷ 0 ∷ 0
    ∷ 49 ∷ 0 ∷ 1 ∷ 2 ∷ 0 ∷ 0
    ∷ 32 ∷ 0 ∷ 1 ∷ 12 ∷ 0 ∷ 0
    ∷ 64 ∷ 0 ∷ 1 ∷ 0 ∷ 0 ∷ 0
    ∷ 32 ∷ 0 ∷ 1 ∷ 14 ∷ 0 ∷ 0
    ∷ 64 ∷ 0 ∷ 2 ∷ 0 ∷ 0 ∷ 0
    ∷ 33 ∷ 0 ∷ 0 ∷ 0 ∷ 0 ∷ 0
    ∷ 33 ∷ 0 ∷ 0 ∷ 0 ∷ 0 ∷ 0
    ∷ [])

accepted : verdict sheet ≡ Accepted 1
unfolding verdict by_records by_types wrong_length wrong_header wrong_record wrong_naming wrong_type too_deep depth nesting ancestry ancestry_within circuit tree_at tree_within alternatives alternatives_within chain chain_within pair_of type_at type_within namings well_said ask_of kind_of row_of word count
accepted = refl

passes : Passes sheet × WellTyped sheet 1
passes = (exact sheet 1).0 accepted

root-checked : CheckedAt sheet (word_b sheet 0) (inputs sheet)
root-checked = scope-checked 1 passes.0 accepted root

-- so each record that a `requires` names has an instance at the sheet
full : length sheet ≡ 12 * count sheet
unfolding count
full = refl

sized-there : Sized sheet (count sheet)
sized-there = sized passes.0 full

fitted-there : CheckingDepths sheet (count sheet)
fitted-there = fitted passes.0 full

placing-there : (namers : List ℕ) × (depths : List ℕ) × (nestings : List ℕ) × Placing sheet (count sheet) 1 namers depths nestings
placing-there = placing-begun passes.0 full

placed-there : (depths : List ℕ) × (nestings : List ℕ) × Placed sheet (count sheet) depths nestings
placed-there = depths-placed passes.0 full

ready-there : (widths : List ℕ) × Judging sheet (count sheet) (inputs sheet) (word_b sheet 0) widths
ready-there = ready passes.0 full

closing-there : (widths : List ℕ) × Closing sheet (count sheet) (word_b sheet 0) widths
closing-there = closing passes.0 full

patterns-there : (table : List ℕ) × PatternsFrom sheet (count sheet) table
patterns-there = patterns-judged passes.0 full

-- the pattern of record 7 is held against the type of record 1
matching-there : Fitting sheet (count sheet) 7 1
unfolding count kind_of row_of word
matching-there = record {
  sized = sized-there;
  passes = passes.0;
  there = omega arith;
  sort = refl;
  typed = record { past = omega arith; there = omega arith; sort = refl };
}

-- and what each function of the check asks, at a record of T and with the tables of `Callable`
abbrev scope : List ℕ
scope = inputs sheet

abbrev noted : List ℕ
noted = Callable.widths_noted passes.0 full

abbrev index : List ℕ
index = Callable.index passes.0 full

abbrev types : List ℕ
types = Callable.types_noted passes.0 full

below : (r : ℕ) → r < 17 → r < count sheet
unfolding count
below r h = let c : count sheet ≡ 17 = refl in omega arith

kinds
    : (kind_at sheet 2 ≡ expression feedback)
    × (kind_at sheet 3 ≡ expression delay)
    × (kind_at sheet 5 ≡ expression if_matches)
    × (kind_at sheet 6 ≡ expression name)
    × (kind_at sheet 11 ≡ expression constant)
unfolding kind_of row_of word
kinds = (refl, refl, refl, refl, refl)

sorts : (sort_at sheet 1 ≡ Kinds.types) × (sort_at sheet 2 ≡ Kinds.expressions) × (sort_at sheet 4 ≡ Kinds.leafs) × (sort_at sheet 7 ≡ Kinds.patterns)
unfolding kind_of row_of word
sorts = (refl, refl, refl, refl)

type-there : TypeRecord sheet 1
type-there = record { past = omega arith; there = below 1 (omega arith); sort = sorts.0 }

one-leaf : 0 < leaves (type_at sheet 1)
unfolding type_at type_within kind_of row_of word
one-leaf = let e : leaves (type_at sheet 1) ≡ 1 = refl in omega arith

lowest-record-there
    : ((q : ℕ) → 1 ≤ q → q < count sheet → q < 4096 → (0 < q) × (q < count sheet))
    × ((q : ℕ) → 1 ≤ q → q < count sheet → q < 4096 → (0 < q) × (q < 4096))
    × ((depths nestings : List ℕ) → Placed sheet (count sheet) depths nestings → (q : ℕ) → 0 ≤ q → q < count sheet → q < 4096
    → (q < count sheet) × (q < 4096) × Placed sheet (count sheet) depths nestings)
lowest-record-there = Callable.lowest-record-callable passes.0 full

note-record-there : (2 < count sheet) × (2 < 4096)
note-record-there = Callable.note-record-callable passes.0 full 2 (below 2 (omega arith))

note-naming-there : (2 < 4096) × (3 < 6)
note-naming-there = Callable.note-naming-callable passes.0 full 2 3 (below 2 (omega arith)) (omega arith)

note-word-there
    : (asks : List Ask) × (namers : List ℕ) × Sized sheet (count sheet) × (2 < count sheet)
    × (asks ≡ asks_in (row_of (kind_word sheet 2)))
    × (0 < 3)
    × (3 < 6)
    × (length namers ≡ 4096)
note-word-there = Callable.note-word-callable passes.0 full 2 3 (below 2 (omega arith)) (omega arith) (omega arith)

note-all-there : (namers : List ℕ) × Sized sheet (count sheet) × NamingsHeld (λ _. []) namers
note-all-there = Callable.note-all-callable passes.0 full

count-type-there : (counted : List ℕ) × Sized sheet (count sheet) × (1 < count sheet) × Written sheet × LeavesCounted sheet 1 counted
count-type-there = Callable.count-type-callable passes.0 full 1 (below 1 (omega arith))

count-types-there : (counted : List ℕ) × Sized sheet (count sheet) × Written sheet × LeavesCounted sheet 0 counted
count-types-there = Callable.count-types-callable passes.0 full

first-wrong-type-there
    : (counted : List ℕ) × (none : List ℕ) × Sized sheet (count sheet) × LeavesCounted sheet (count sheet) counted
    × Indexed sheet 0 none
first-wrong-type-there = Callable.first-wrong-type-callable passes.0 full

placements-there : (namers : List ℕ) × Written sheet × WellNamed sheet × NamingsHeld (namings sheet) namers
placements-there = Callable.placements-callable passes.0 full

place-there
    : (namers : List ℕ) × (depths : List ℕ) × (nestings : List ℕ) × Placing sheet (count sheet) 3 namers depths nestings
    × (3 < count sheet)
place-there = Callable.place-callable passes.0 full 3 (omega arith) (below 3 (omega arith))

judge-root-there : Judging sheet (count sheet) scope 2 noted × Indexed sheet (count sheet) index
judge-root-there = Callable.judge-root-callable passes.0 full 2 (below 2 (omega arith)) sorts.1

judge-expression-there : Judging sheet (count sheet) scope 2 noted × TypeTables sheet (count sheet) index types
judge-expression-there = Callable.judge-expression-callable passes.0 full 2 (below 2 (omega arith)) sorts.1

of-feedback-there
    : Judging sheet (count sheet) scope 2 noted
    × (kind_at sheet 2 ≡ expression feedback)
    × TypeTables sheet (count sheet) index types
of-feedback-there = Callable.of-kind-callable passes.0 full feedback 2 (below 2 (omega arith)) kinds.0

of-delay-there
    : Judging sheet (count sheet) scope 3 noted
    × (kind_at sheet 3 ≡ expression delay)
    × TypeTables sheet (count sheet) index types
of-delay-there = Callable.of-kind-callable passes.0 full delay 3 (below 3 (omega arith)) kinds.1

of-if-there
    : Judging sheet (count sheet) scope 5 noted
    × (kind_at sheet 5 ≡ expression if_matches)
    × TypeTables sheet (count sheet) index types
of-if-there = Callable.of-kind-callable passes.0 full if_matches 5 (below 5 (omega arith)) kinds.2

of-name-there : Judging sheet (count sheet) scope 6 noted × (kind_at sheet 6 ≡ expression name)
of-name-there = Callable.of-name-callable passes.0 full 6 (below 6 (omega arith)) kinds.3

of-constant-there : Closing sheet (count sheet) 11 noted × (kind_at sheet 11 ≡ expression constant)
of-constant-there = Callable.of-constant-callable passes.0 full 11 (below 11 (omega arith)) kinds.4

note-there : Closing sheet (count sheet) 2 noted × TypeRecord sheet 1
note-there = Callable.note-callable passes.0 full 2 1 (below 2 (omega arith)) sorts.1 type-there

bound-at-there : Ground sheet (count sheet) noted × TypeRecord sheet 1 × (0 < leaves (type_at sheet 1))
bound-at-there = Callable.bound-at-callable passes.0 full 1 0 type-there one-leaf

take-off-there : Sized sheet (count sheet) × Passes sheet × TypeRecord sheet 1 × LeafOrEnd sheet 4
take-off-there = Callable.take-off-callable passes.0 full 1 4 type-there (below 4 (omega arith)) sorts.2

leaves-fit-there : Sized sheet (count sheet) × Passes sheet × TypeRecord sheet 1 × (4 < count sheet) × (sort_at sheet 4 ≡ Kinds.leafs)
leaves-fit-there = Callable.leaves-fit-callable passes.0 full 1 4 type-there (below 4 (omega arith)) sorts.2

note-type-there : (above : List ℕ) × TypingPattern sheet (count sheet) index above 7
note-type-there = Callable.note-type-callable passes.0 full 7 (below 7 (omega arith))

one-type-there : (above : List ℕ) × TypingPattern sheet (count sheet) index above 7 × (sort_at sheet 7 ≡ Kinds.patterns)
one-type-there = Callable.one-type-callable passes.0 full 7 (below 7 (omega arith)) sorts.3

note-types-there
    : (none : List ℕ) × Sized sheet (count sheet) × Passes sheet × Indexed sheet (count sheet) index
    × PatternsTyped sheet (count sheet) none
note-types-there = Callable.note-types-callable passes.0 full

fits-there : (7 < 4096) × (length types ≡ 4096)
fits-there = Callable.fits-callable passes.0 full 7 (below 7 (omega arith))

pattern-type-there : Fitting sheet (count sheet) 7 1 × PatternsTyped sheet 0 types
pattern-type-there = Callable.pattern-type-callable passes.0 full 7 1 (below 7 (omega arith)) sorts.3 type-there

check-stages-there : (none : List ℕ) × Sized sheet (count sheet) × LeavesCounted sheet 0 none
check-stages-there = Callable.check-stages-callable passes.0 full

check-names-there : (none : List ℕ) × Sized sheet (count sheet) × NamingsHeld (λ _. []) none
check-names-there = Callable.check-names-callable passes.0 full

check-types-there
    : (none : List ℕ) × (unlinked : List ℕ) × Sized sheet (count sheet) × Written sheet × LeavesCounted sheet 0 none
    × Indexed sheet 0 unlinked
check-types-there = Callable.check-types-callable passes.0 full

check-depths-there : (namers : List ℕ) × CheckingTypes sheet (count sheet) × NamingsHeld (namings sheet) namers
check-depths-there = Callable.check-depths-callable passes.0 full

check-rules-there : Ground sheet (count sheet) noted × (length noted ≡ 4096) × Indexed sheet (count sheet) index
check-rules-there = Callable.check-rules-callable passes.0 full

note-pattern-there
    : (above : List ℕ) × Sized sheet (count sheet) × Passes sheet × (7 < count sheet) × PatternsFrom sheet (7 + 1) above
note-pattern-there = Callable.note-pattern-callable passes.0 full 7 (below 7 (omega arith))

checked-there : (c : Checked) × (c.sheet ≡ sheet)
checked-there = Callable.checked-callable passes.0 full 1 accepted

fill-bounds-there
    : (c : Checked) × (out : List ℕ) × (c.sheet ≡ sheet) × TypeRecord c.sheet 1 × (length out ≡ leaves (type_at c.sheet 1))
fill-bounds-there = Callable.fill-bounds-callable passes.0 full 1 1 accepted type-there

bounds-filled-there
    : (out : List ℕ) × Accepting sheet (count sheet) (widths passes.0 full).0 × TypeRecord sheet 1
    × (length out ≡ leaves (type_at sheet 1))
bounds-filled-there = Callable.bounds-filled-callable passes.0 full 1 1 accepted type-there
