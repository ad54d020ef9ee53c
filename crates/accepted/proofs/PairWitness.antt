-- What the functions of the check ask where a sheet has pairs: the second sheet of `crates/records/specs/DecodingRows.antt` is
-- accepted with type 3, by computation. It has a pair type, record 3, pair patterns and chains of them, and each form of expression
-- that sheet T has not. The index of its pair types finds record 3 by its parts, and the table of its patterns' types has it for
-- record 16. Assumes nothing.
use Prim.Native.Nat.{ℕ, ◌*◌, ◌<◌}
use mathlib.Core.List.{List, [], ◌∷◌}
use mathlib.Core.Path.{◌≡◌, refl, sym, ◌∙◌}
use mathlib.Core.Bool.{true}
use native.Mathlib.Omega.{arith}
use borrow.Author.Tests.{eqb-true}
use lib.ListN.{length, get_or}
use Rattle.records.specs.SheetOf.{sheet_of}
use Rattle.records.specs.DecodingRows.{DecodingRow, says_expression, decoding_rows}
use Rattle.records.specs.Words.{word, count}
use Rattle.records.specs.Kinds.{row_of, kind_of, ask_of, expression, tuple, first, second, let_in}
use Rattle.records.specs.Kinds as Kinds
use Rattle.records.specs.Says.{well_said, kind_at, sort_at, namings}
use Rattle.records.specs.Sized.{Sized}
use Rattle.records.specs.Trees.{
  type_within,
  type_at,
  pair_below,
  pair_of,
  TypeRecord,
  chain_within,
  chain,
  alternatives_within,
  alternatives,
  tree_within,
  tree_at,
  circuit,
}
use Rattle.structure.specs.Rules.{
  ancestry_within,
  ancestry,
  depth,
  nesting,
  wrong_length,
  wrong_header,
  wrong_record,
  wrong_naming,
  wrong_type,
  too_deep,
  Passes,
}
use Rattle.structure.specs.LeafTable.{LeavesCounted}
use Rattle.structure.specs.PairIndex.{SlotFound, Linked, Indexed}
use Rattle.typing.specs.Judgements.{pattern_fits}
use Rattle.typing.specs.Judging.{Judging, Closing, Fitting, PartAt, at_first, at_second}
use Rattle.typing.specs.PatternTable.{PatternsTyped, TypingPattern, TypeTables}
use Rattle.verdict.specs.Verdict.{by_types, by_records, verdict}
use Rattle.verdict.specs.Scopes.{inputs}
use Rattle.answers.specs.Answers.{Accepted}
use Rattle.verdict.proofs.Exact.{exact}
use Rattle.accepted.proofs.TypeTables.{search-ends}
use Rattle.accepted.proofs.Callable as Callable

abbrev pub of_second : List DecodingRow → List ℕ
of_second [] = []
of_second (x ∷ []) = []
of_second (x ∷ says_expression rs e ∷ rows) = sheet_of rs

abbrev pub sheet : List ℕ
sheet = of_second decoding_rows

pub accepted : verdict sheet ≡ Accepted 3
unfolding verdict by_records by_types wrong_length wrong_header wrong_record wrong_naming wrong_type too_deep depth nesting ancestry ancestry_within circuit tree_at tree_within alternatives alternatives_within chain chain_within pair_of type_at type_within namings well_said ask_of kind_of row_of word count
accepted = refl

passes : Passes sheet
passes = ((exact sheet 3).0 accepted).0

full : length sheet ≡ 12 * count sheet
unfolding count
full = refl

below : (r : ℕ) → r < 21 → r < count sheet
unfolding count
below r h = let c : count sheet ≡ 21 = refl in omega arith

kinds
    : (kind_at sheet 4 ≡ expression let_in)
    × (kind_at sheet 5 ≡ expression tuple)
    × (kind_at sheet 6 ≡ expression first)
    × (kind_at sheet 8 ≡ expression second)
unfolding kind_of row_of word
kinds = (refl, refl, refl, refl)

sorts : (sort_at sheet 3 ≡ Kinds.types) × (sort_at sheet 16 ≡ Kinds.patterns)
unfolding kind_of row_of word
sorts = (refl, refl)

type-there : TypeRecord sheet 3
type-there = record { past = omega arith; there = below 3 (omega arith); sort = sorts.0 }

abbrev scope : List ℕ
scope = inputs sheet

abbrev noted : List ℕ
noted = Callable.widths_noted passes full

abbrev index : List ℕ
index = Callable.index passes full

abbrev types : List ℕ
types = Callable.types_noted passes full

-- the index of pair types, before record 3 and whole
first-wrong-type-there
    : (counted : List ℕ) × (none : List ℕ) × Sized sheet (count sheet) × LeavesCounted sheet (count sheet) counted
    × Indexed sheet 0 none
first-wrong-type-there = Callable.first-wrong-type-callable passes full

note-pair-there : (lower : List ℕ) × Sized sheet (count sheet) × (3 < count sheet) × Indexed sheet 3 lower
note-pair-there = Callable.note-pair-callable passes full 3 (below 3 (omega arith))

wrong-type-there
    : (counted : List ℕ) × (lower : List ℕ) × Sized sheet (count sheet) × (3 < count sheet) × LeavesCounted sheet (count sheet) counted
    × Indexed sheet 3 lower
wrong-type-there = Callable.wrong-type-callable passes full 3 (below 3 (omega arith))

holds-another-there : Sized sheet (count sheet) × Linked (count sheet) index × (1 < 12288)
holds-another-there = Callable.holds-another-callable passes full 1 (omega arith)

slot-of-there : Sized sheet (count sheet) × Linked (count sheet) index
slot-of-there = Callable.slot-of-callable passes full

pair-of-there : Sized sheet (count sheet) × Indexed sheet (count sheet) index
pair-of-there = Callable.pair-of-callable passes full

declared : pair_below sheet 1 2 (count sheet) ≡ 3
unfolding count kind_of row_of word
declared = refl

pair_found : (end : ℕ) × SlotFound sheet index 1 2 end × (get_or index end 0 ≡ 3)
pair_found =
    let e = search-ends sheet index 1 2 slot-of-there.1 slot-of-there.0.few in
    (e.0, e.1, pair-of-there.1.finds 1 2 e.0 e.1 ∙ declared)

-- the types of patterns, at record 16
note-type-there : (above : List ℕ) × TypingPattern sheet (count sheet) index above 16
note-type-there = Callable.note-type-callable passes full 16 (below 16 (omega arith))

one-type-there : (above : List ℕ) × TypingPattern sheet (count sheet) index above 16 × (sort_at sheet 16 ≡ Kinds.patterns)
one-type-there = Callable.one-type-callable passes full 16 (below 16 (omega arith)) sorts.1

pattern-type-there : Fitting sheet (count sheet) 16 3 × PatternsTyped sheet 0 types
pattern-type-there = Callable.pattern-type-callable passes full 16 3 (below 16 (omega arith)) sorts.1 type-there

fits : pattern_fits sheet (alternatives sheet 16) 3 ≡ true
unfolding alternatives alternatives_within kind_of row_of word count
fits = refl

pattern-type-found : get_or types 16 0 ≡ 3
pattern-type-found =
    eqb-true (get_or types 16 0) 3
    (sym (pattern-type-there.1.typed 16 (omega arith) (below 16 (omega arith)) sorts.1 3 type-there) ∙ fits)

-- the forms of expressions that T has not
of-let-there
    : Judging sheet (count sheet) scope 4 noted
    × (kind_at sheet 4 ≡ expression let_in)
    × TypeTables sheet (count sheet) index types
of-let-there = Callable.of-kind-callable passes full let_in 4 (below 4 (omega arith)) kinds.0

of-pair-there
    : Judging sheet (count sheet) scope 5 noted
    × (kind_at sheet 5 ≡ expression tuple)
    × TypeTables sheet (count sheet) index types
of-pair-there = Callable.of-kind-callable passes full tuple 5 (below 5 (omega arith)) kinds.1

of-first-there : Judging sheet (count sheet) scope 6 noted × PartAt sheet 6 2 × TypeTables sheet (count sheet) index types
of-first-there = Callable.of-part-callable passes full 2 6 (below 6 (omega arith)) (at_first kinds.2)

of-second-there : Judging sheet (count sheet) scope 8 noted × PartAt sheet 8 3 × TypeTables sheet (count sheet) index types
of-second-there = Callable.of-part-callable passes full 3 8 (below 8 (omega arith)) (at_second kinds.3)

pair-type-there : Closing sheet (count sheet) 5 noted × Indexed sheet (count sheet) index
pair-type-there = Callable.pair-type-callable passes full 5 (below 5 (omega arith)) (rw kinds.1)

part-type-there : Closing sheet (count sheet) 6 noted × TypeRecord sheet 3 × (1 < 2) × (2 < 4)
part-type-there = Callable.part-type-callable passes full 6 3 2 (below 6 (omega arith)) (rw kinds.2) type-there (omega arith) (omega arith)
