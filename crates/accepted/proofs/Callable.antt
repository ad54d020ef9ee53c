-- Every function of the check can be called: on every sheet that passes codes 1 to 6 the whole of each `requires` in `structure`, `typing`,
-- `verdict` and `accepted` that names more than bounds on numbers can be had, at every record of the kind that it asks for and with the input
-- as the one name in scope. The tables are those of `Requirements` and `TypeTables`; `Witness` and `PairWitness` have two such sheets.
-- Assumes nothing.
use mathlib.Core.Path.{◌≡◌, refl}
use mathlib.Core.Bool.{true, false≢true}
use mathlib.Core.List.{List, [], ◌∷◌}
use Prim.Native.Nat.{ℕ, ◌+◌, ◌*◌, ◌≤◌, ◌<◌}
use native.Mathlib.Omega.{arith}
use lib.ListN.{length, replicate, length-replicate}
use Rattle.picoella.specs.Language.{leaves}
use Rattle.records.specs.Words.{count, word_b, kind_word}
use Rattle.records.specs.Kinds.{Ask, ExpressionKind, constant, name, expression, expressions, patterns, leafs, asks_in, row_of}
use Rattle.records.specs.Says.{kind_at, sort_at, Naming, namings, well_named}
use Rattle.records.specs.Sized.{Sized}
use Rattle.records.specs.Trees.{type_at, TypeRecord}
use Rattle.records.specs.Written.{Written, WellNamed}
use Rattle.records.proofs.Asked.{past-header}
use Rattle.structure.specs.Rules.{Passes, depth}
use Rattle.structure.specs.NamerTable.{NamingsHeld}
use Rattle.structure.specs.LeafTable.{LeavesCounted}
use Rattle.structure.specs.PairIndex.{Linked, Indexed}
use Rattle.structure.specs.DepthTable.{Placed, Placing}
use Rattle.structure.proofs.Passes.{written, well-named}
use Rattle.structure.proofs.Depths.{depth-of}
use Rattle.typing.specs.Judging.{Ground, Judging, Closing, Fitting, PartAt, at_first, at_second}
use Rattle.typing.specs.LeafChains.{LeafOrEnd}
use Rattle.typing.specs.PatternTable.{PatternsTyped, TypingPattern, TypeTables}
use Rattle.verdict.specs.Scopes.{inputs}
use Rattle.verdict.specs.Stages.{CheckingNamings, CheckingTypes}
use Rattle.verdict.specs.CheckedTable.{PatternsFrom}
use Rattle.verdict.specs.Verdict.{verdict}
use Rattle.verdict.specs.declared.checked.Checked.{Checked}
use Rattle.answers.specs.Answers.{Accepted}
use Rattle.accepted.specs.Accepting.{Accepting}
use Rattle.accepted.proofs.Requirements.{sized, fitted, counts, counts-below, none-held, namers-held, depths-placed, placing-begun, placing-at, ready, patterns-from, widths}
use Rattle.accepted.proofs.TypeTables.{pairs_below, pairs-indexed, types-from, typing-pattern, type_tables}

module _ {s : List ℕ} (p : Passes s) (full : length s ≡ 12 * count s) where
  size : Sized s (count s)
  size = sized p full

  w : Written s
  w = written p

  few : count s ≤ 4096
  few = w.few

  -- the bound that a function asks beside a record of the sheet
  pub bound-callable : (r : ℕ) → r < count s → r < 4096
  bound-callable r h = let f = few in omega arith

  -- `Sheet::word`, by a sheet's value; the other functions of `records`, `structure` and `typing` that ask for no such record, but those
  -- below, ask only for bounds on numbers
  pub word-callable : (r k : ℕ) → r < count s → k < 6 → Sized s (count s) × (r < count s) × (k < 6)
  word-callable r k h l = (size, h, l)

  -- structure: `lowest_record`, by the tests that it is given: those of the records, of the namings and of the depths
  pub lowest-record-callable
      : ((q : ℕ) → 1 ≤ q → q < count s → q < 4096 → (0 < q) × (q < count s)) × ((q : ℕ) → 1 ≤ q → q < count s → q < 4096 → (0 < q) × (q < 4096))
      × ((depths nestings : List ℕ) → Placed s (count s) depths nestings → (q : ℕ) → 0 ≤ q → q < count s → q < 4096
      → (q < count s) × (q < 4096) × Placed s (count s) depths nestings)
  lowest-record-callable =
      (λ q low h small. (omega arith, h), λ q low h small. (omega arith, small), λ d e z q low h small. (h, small, z))

  -- structure: namings; `NamingTable::note_record`, and `NamingTable::note` with a word of the record. What `Named::entry` and
  -- `Named::with` ask beside this is had in `EntriesFit` of `structure`.
  pub note-record-callable : (q : ℕ) → q < count s → (q < count s) × (q < 4096)
  note-record-callable q h = (h, bound-callable q h)

  pub note-naming-callable : (q k : ℕ) → q < count s → k < 6 → (q < 4096) × (k < 6)
  note-naming-callable q k h l = (bound-callable q h, l)

  -- what a word of a record adds to a table of namings
  pub note-word-callable : (q k : ℕ) → q < count s → 0 < k → k < 6
      → (asks : List Ask) × (namers : List ℕ) × Sized s (count s) × (q < count s) × (asks ≡ asks_in (row_of (kind_word s q)))
      × (0 < k)
      × (k < 6)
      × (length namers ≡ 4096)
  note-word-callable q k h low high =
      (asks_in (row_of (kind_word s q)), replicate 4096 0, size, h, refl, low, high, none-held.long)

  -- `NamingTable::note_all`
  pub note-all-callable : (namers : List ℕ) × Sized s (count s) × NamingsHeld (λ _. []) namers
  note-all-callable = (replicate 4096 0, size, none-held)

  -- structure: types
  pub count-type-callable : (r : ℕ) → r < count s → (table : List ℕ) × Sized s (count s) × (r < count s) × Written s × LeavesCounted s r table
  count-type-callable r h = let f = few in let c = counts-below p full r (omega arith) in (c.0, size, h, w, c.1)

  pub count-types-callable : (table : List ℕ) × Sized s (count s) × Written s × LeavesCounted s 0 table
  count-types-callable = let c = counts-below p full 0 (omega arith) in (c.0, size, w, c.1)

  pub wrong-type-callable : (r : ℕ) → r < count s
      → (table : List ℕ) × (index : List ℕ) × Sized s (count s) × (r < count s) × LeavesCounted s (count s) table × Indexed s r index
  wrong-type-callable r h =
      let c = counts p full in let x = pairs_below s p full r (omega arith) in (c.0, x.0, size, h, c.1, x.1)

  pub first-wrong-type-callable : (table : List ℕ) × (none : List ℕ) × Sized s (count s) × LeavesCounted s (count s) table × Indexed s 0 none
  first-wrong-type-callable =
      let c = counts p full in let x = pairs_below s p full 0 (omega arith) in (c.0, x.0, size, c.1, x.1)

  -- structure: the index of pair types
  abbrev pub index : List ℕ
  index = (pairs-indexed s p full).0

  -- `held` and `another`
  pub holds-another-callable : (slot : ℕ) → slot < 12288 → Sized s (count s) × Linked (count s) index × (slot < 12288)
  holds-another-callable slot h = (size, (pairs-indexed s p full).1.linked, h)

  pub slot-of-callable : Sized s (count s) × Linked (count s) index
  slot-of-callable = (size, (pairs-indexed s p full).1.linked)

  pub pair-of-callable : Sized s (count s) × Indexed s (count s) index
  pair-of-callable = (size, (pairs-indexed s p full).1)

  pub note-pair-callable : (r : ℕ) → r < count s → (below : List ℕ) × Sized s (count s) × (r < count s) × Indexed s r below
  note-pair-callable r h = let x = pairs_below s p full r (omega arith) in (x.0, size, h, x.1)

  -- structure: depths
  pub place-callable : (r : ℕ) → 0 < r → r < count s
      → (namers : List ℕ) × (depths : List ℕ) × (nestings : List ℕ) × Placing s (count s) r namers depths nestings × (r < count s)
  place-callable r low h =
      let f = few in let x = placing-at p full r low (omega arith) in (x.0, x.1, x.2, x.3, h)

  -- `Placements::of`, and `place_all`
  pub placements-callable : (namers : List ℕ) × Written s × WellNamed s × NamingsHeld (namings s) namers
  placements-callable = let n = namers-held p full in (n.0, w, well-named p, n.1)

  pub place-all-callable : (namers : List ℕ) × (depths : List ℕ) × (nestings : List ℕ)
      × Written s × WellNamed s × NamingsHeld (namings s) namers × Placed s 1 depths nestings
  place-all-callable =
      let x = placing-begun p full in
      (x.0, x.1, x.2, x.3.written, x.3.well, x.3.named, x.3.placed)

  pub too-deep-callable : (r : ℕ) → r < count s
      → (depths : List ℕ) × (nestings : List ℕ) × Sized s (count s) × (r < count s) × Placed s (count s) depths nestings
  too-deep-callable r h = let x = depths-placed p full in (x.0, x.1, size, h, x.2)

  pub first-too-deep-callable : (depths : List ℕ) × (nestings : List ℕ) × Sized s (count s) × Placed s (count s) depths nestings
  first-too-deep-callable = let x = depths-placed p full in (x.0, x.1, size, x.2)

  -- typing: an expression, with the input in scope, a table of widths that has those of types, and
  -- the type tables
  abbrev pub widths_noted : List ℕ
  widths_noted = (ready p full).0

  abbrev pub types_noted : List ℕ
  types_noted = (type_tables s p full).0

  at-root : Judging s (count s) (inputs s) (word_b s 0) widths_noted
  at-root = (ready p full).1

  pub tables-right : TypeTables s (count s) index types_noted
  tables-right = (type_tables s p full).1

  some-depth : (r : ℕ) → 0 < r → r < count s → 1 ≤ depth s r
  some-depth r low h = go (namings s r) refl (well-named p r low h)
    where
      go : (ns : List Naming) → namings s r ≡ ns → well_named ns ≡ true → 1 ≤ depth s r
      go [] e t = absurd (false≢true t)
      go (x ∷ ns) e t = let d = depth-of w r x ns low e in omega arith

  pub judge-callable : (r : ℕ) → r < count s → sort_at s r ≡ expressions → Judging s (count s) (inputs s) r widths_noted
  judge-callable r h e = record {
    ground = at-root.ground;
    long = at-root.long;
    there = h;
    sort = e;
    deep = some-depth r (past-header w r (rw e)) h;
    context = at-root.context;
  }

  pub judge-root-callable : (r : ℕ) → r < count s → sort_at s r ≡ expressions
      → Judging s (count s) (inputs s) r widths_noted × Indexed s (count s) index
  judge-root-callable r h e = (judge-callable r h e, tables-right.indexed)

  -- `Judge::expression`, with the tables that a judge has
  pub judge-expression-callable : (r : ℕ) → r < count s → sort_at s r ≡ expressions
      → Judging s (count s) (inputs s) r widths_noted × TypeTables s (count s) index types_noted
  judge-expression-callable r h e = (judge-callable r h e, tables-right)

  -- `of_pair`, `of_let`, `of_feedback`, `of_if` and `of_delay`, of a judge
  pub of-kind-callable : (k : ExpressionKind) (r : ℕ) → r < count s → kind_at s r ≡ expression k
      → Judging s (count s) (inputs s) r widths_noted × (kind_at s r ≡ expression k) × TypeTables s (count s) index types_noted
  of-kind-callable k r h e = (judge-callable r h (rw e), e, tables-right)

  pub of-part-callable : (k r : ℕ) → r < count s → PartAt s r k
      → Judging s (count s) (inputs s) r widths_noted × PartAt s r k × TypeTables s (count s) index types_noted
  of-part-callable k r h q = (judge-callable r h (sort q), q, tables-right)
    where
      sort : {k : ℕ} → PartAt s r k → sort_at s r ≡ expressions
      sort (at_first e) = rw e
      sort (at_second e) = rw e

  pub of-name-callable : (r : ℕ) → r < count s → kind_at s r ≡ expression name
      → Judging s (count s) (inputs s) r widths_noted × (kind_at s r ≡ expression name)
  of-name-callable r h e = (judge-callable r h (rw e), e)

  -- typing: a last judgement
  closing_at : (r : ℕ) → r < count s → sort_at s r ≡ expressions → Closing s (count s) r widths_noted
  closing_at r h e = record { ground = at-root.ground; there = h; sort = e; long = at-root.long }

  pub of-constant-callable : (r : ℕ) → r < count s → kind_at s r ≡ expression constant
      → Closing s (count s) r widths_noted × (kind_at s r ≡ expression constant)
  of-constant-callable r h e = (closing_at r h (rw e), e)

  -- `note` and `same_type`
  pub note-callable : (r t : ℕ) → r < count s → sort_at s r ≡ expressions → TypeRecord s t
      → Closing s (count s) r widths_noted × TypeRecord s t
  note-callable r t h e u = (closing_at r h e, u)

  pub pair-type-callable : (r : ℕ) → r < count s → sort_at s r ≡ expressions
      → Closing s (count s) r widths_noted × Indexed s (count s) index
  pair-type-callable r h e = (closing_at r h e, (pairs-indexed s p full).1)

  pub part-type-callable : (r t k : ℕ) → r < count s → sort_at s r ≡ expressions → TypeRecord s t → 1 < k → k < 4
      → Closing s (count s) r widths_noted × TypeRecord s t × (1 < k) × (k < 4)
  part-type-callable r t k h e u low high = (closing_at r h e, u, low, high)

  -- typing: leaves
  pub bound-at-callable : (t i : ℕ) → TypeRecord s t → i < leaves (type_at s t)
      → Ground s (count s) widths_noted × TypeRecord s t × (i < leaves (type_at s t))
  bound-at-callable t i u h = (at-root.ground, u, h)

  pub take-off-callable : (t r : ℕ) → TypeRecord s t → r < count s → sort_at s r ≡ leafs
      → Sized s (count s) × Passes s × TypeRecord s t × LeafOrEnd s r
  take-off-callable t r u h e = (size, p, u, record { leaf = λ _. (h, e) })

  pub leaves-fit-callable : (t r : ℕ) → TypeRecord s t → r < count s → sort_at s r ≡ leafs
      → Sized s (count s) × Passes s × TypeRecord s t × (r < count s) × (sort_at s r ≡ leafs)
  leaves-fit-callable t r u h e = (size, p, u, h, e)

  -- typing: patterns
  pub note-type-callable : (r : ℕ) → r < count s → (above : List ℕ) × TypingPattern s (count s) index above r
  note-type-callable r h = typing-pattern s p full r h

  -- `one_type` and `common_type`
  pub one-type-callable : (r : ℕ) → r < count s → sort_at s r ≡ patterns
      → (above : List ℕ) × TypingPattern s (count s) index above r × (sort_at s r ≡ patterns)
  one-type-callable r h e = let x = typing-pattern s p full r h in (x.0, x.1, e)

  -- `note_all`
  pub note-types-callable : (none : List ℕ) × Sized s (count s) × Passes s × Indexed s (count s) index × PatternsTyped s (count s) none
  note-types-callable = let x = types-from s p full (count s) (omega arith) in (x.0, size, p, (pairs-indexed s p full).1, x.1)

  -- `fits` and `of`
  pub fits-callable : (r : ℕ) → r < count s → (r < 4096) × (length types_noted ≡ 4096)
  fits-callable r h = (bound-callable r h, tables-right.typed.long)

  -- a pattern that `fits` is asked of, with the type that it is held against
  pub pattern-type-callable : (r t : ℕ) → r < count s → sort_at s r ≡ patterns → TypeRecord s t
      → Fitting s (count s) r t × PatternsTyped s 0 types_noted
  pattern-type-callable r t h e u = (record { sized = size; passes = p; there = h; sort = e; typed = u }, tables-right.typed)

  -- verdict: `check_stages` and `check_filling`
  pub check-stages-callable : (none : List ℕ) × Sized s (count s) × LeavesCounted s 0 none
  check-stages-callable = let c = counts-below p full 0 (omega arith) in (c.0, size, c.1)

  -- `check_namings`, and what its table begins with
  pub check-namings-callable : CheckingNamings s (count s)
  check-namings-callable = (fitted p full).named.recorded

  pub check-names-callable : (none : List ℕ) × Sized s (count s) × NamingsHeld (λ _. []) none
  check-names-callable = note-all-callable

  pub check-types-callable
      : (none : List ℕ) × (unlinked : List ℕ) × Sized s (count s) × Written s × LeavesCounted s 0 none × Indexed s 0 unlinked
  check-types-callable =
      let c = counts-below p full 0 (omega arith) in
      let x = pairs_below s p full 0 (omega arith) in
      (c.0, x.0, size, w, c.1, x.1)

  pub check-depths-callable : (namers : List ℕ) × CheckingTypes s (count s) × NamingsHeld (namings s) namers
  check-depths-callable = let n = namers-held p full in (n.0, (fitted p full).named, n.1)

  pub check-rules-callable : Ground s (count s) widths_noted × (length widths_noted ≡ 4096) × Indexed s (count s) index
  check-rules-callable = (at-root.ground, at-root.long, (pairs-indexed s p full).1)

  pub note-pattern-callable : (r : ℕ) → r < count s
      → (above : List ℕ) × Sized s (count s) × Passes s × (r < count s) × PatternsFrom s (r + 1) above
  note-pattern-callable r h = let x = patterns-from p full (r + 1) (omega arith) in (x.0, size, p, h, x.1)

  pub note-patterns-callable : (none : List ℕ) × Sized s (count s) × Passes s × PatternsFrom s (count s) none
  note-patterns-callable = let x = patterns-from p full (count s) (omega arith) in (x.0, size, p, x.1)

  -- accepted: a checked sheet, which is what `check` gives
  pub accepting_at : (t : ℕ) → verdict s ≡ Accepted t → Accepting s (count s) (widths p full).0
  accepting_at t e = record { sized = size; type = t; accepted = e; table = (widths p full).1 }

  abbrev checked_at : (t : ℕ) → verdict s ≡ Accepted t → Checked
  checked_at t e = record {
    sheet = s;
    widths = (widths p full).0;
    output_type = t;
    accepted = e;
    counted = (widths p full).1;
  }

  pub checked-callable : (t : ℕ) → verdict s ≡ Accepted t → (c : Checked) × (c.sheet ≡ s)
  checked-callable t e = (checked_at t e, refl)

  pub fill-bounds-callable : (t u : ℕ) → verdict s ≡ Accepted t → TypeRecord s u
      → (c : Checked) × (out : List ℕ) × (c.sheet ≡ s) × TypeRecord c.sheet u × (length out ≡ leaves (type_at c.sheet u))
  fill-bounds-callable t u e h =
      (checked_at t e, replicate (leaves (type_at s u)) 0, refl, h, length-replicate {A = ℕ} (leaves (type_at s u)) 0)

  -- the facts that filling the counts of a type rests on
  pub bounds-filled-callable : (t u : ℕ) → verdict s ≡ Accepted t → TypeRecord s u
      → (out : List ℕ) × Accepting s (count s) (widths p full).0 × TypeRecord s u × (length out ≡ leaves (type_at s u))
  bounds-filled-callable t u e h =
      (replicate (leaves (type_at s u)) 0, accepting_at t e, h, length-replicate {A = ℕ} (leaves (type_at s u)) 0)
