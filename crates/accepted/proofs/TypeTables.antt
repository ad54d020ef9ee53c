-- The tables that judging looks up can be had: on every sheet that passes codes 1 to 6 there are an index of the pair types below
-- each record and a table of the types of the patterns from each record on. The index is made record by record: every search in one
-- comes to its end, as each slot leads to a later one, and a pair type that is new goes into the slot where the search for its parts
-- ended. The types of patterns are found from the last record down. Assumes nothing.
use mathlib.Core.Path.{◌≡◌, refl, subst}
use mathlib.Core.Bool.{Bool, true, false}
use mathlib.Core.List.{List}
use Prim.Native.Nat.{ℕ, zero, suc, ◌+◌, ◌*◌, ◌-◌, ◌/◌, ◌%◌, ◌≤◌, ◌<◌}
use native.Mathlib.Omega.{arith}
use native.Mathlib.Decide.{ℕ_discrete, dec_lt}
use native.Mathlib.Numerals.{add-one}
use lib.ListN.{length, get_or, set, replicate}
use Rattle.records.specs.Words.{count, word}
use Rattle.records.specs.Kinds.{PatternKind, pattern, whole, constructor, parts, patterns, type_of, flat, is_pair}
use Rattle.records.specs.Kinds as Kinds
use Rattle.records.specs.Says.{kind_at, sort_at}
use Rattle.records.specs.Trees.{pair_below}
use Rattle.records.specs.Written.{Written}
use Rattle.records.proofs.Table.{ask_of_kind, kind-of-sort}
use Rattle.records.proofs.Asked.{as-kind-asks, part-of-kind}
use Rattle.structure.specs.Rules.{Passes}
use Rattle.structure.specs.PairIndex.{another, onwards, Ends, SlotFound, Linked, Indexed}
use Rattle.structure.proofs.Passes.{written}
use Rattle.structure.proofs.PairSearch.{no-pairs-indexed, goes_on, no-pair-noted, lower-noted, pair-noted}
use Rattle.typing.specs.PatternTable.{TypedOne, TypedAll, PatternsTyped, TypingPattern, TypeTables}
use Rattle.typing.proofs.PatternNumbers.{no-pattern, pattern-kind, number-of-pattern}
use Rattle.typing.proofs.TypedPatterns.{
  no-types-typed,
  word-type,
  pair-type-of-parts,
  pair_small,
  last-alternative,
  all-the-same,
  no-common-type,
  type-noted,
  no-type-noted,
  pattern-between,
}
use Rattle.accepted.proofs.Requirements.{sized}

-- a search comes to an end
module _ (s index : List ℕ) (a b : ℕ) {m : ℕ} (links : Linked m index) (few : m ≤ 4096) where
  ends-within : (fuel slot bits : ℕ) → 12288 ≤ slot + fuel → slot < 12288 → (k : ℕ) × (end : ℕ) × Ends s index a b k slot bits end
  ends-within zero slot bits far low = absurd (omega arith)
  ends-within (suc fuel) slot bits far low = go (another s index a b slot) refl (ends-within fuel)
    where
      go : (t : Bool) → another s index a b slot ≡ t
          → ((slot bits : ℕ) → 12288 ≤ slot + fuel → slot < 12288 → (k : ℕ) × (end : ℕ) × Ends s index a b k slot bits end)
          → (k : ℕ) × (end : ℕ) × Ends s index a b k slot bits end
      go false e later = (0, slot, (e, refl))
      go true e later =
          let g = goes_on s index a b {slot = slot} links few bits e refl in
          let r = later (onwards index slot bits) (bits / 2) (omega (arith, g.1)) g.2 in
          (suc r.0, r.1, (e, r.2))

  pub search-ends : (end : ℕ) × SlotFound s index a b end
  search-ends =
      let low : a % 4096 < 4096 = omega arith in
      let r = ends-within 12288 (a % 4096) b (omega arith) (omega arith) in
      (r.1, record { steps = r.0; ends = r.2 })

-- the index with one more record
one-more-indexed : (s : List ℕ) (r : ℕ) → r < 4096 → (index : List ℕ) → Indexed s r index → (more : List ℕ) × Indexed s (r + 1) more
one-more-indexed s r few index ix = go (is_pair (kind_at s r)) refl
  where
    paired : is_pair (kind_at s r) ≡ true → ((end : ℕ) × SlotFound s index (word s r 2) (word s r 3) end)
        → (more : List ℕ) × Indexed s (r + 1) more
    paired e q = by (ℕ_discrete (get_or index q.0 0) 0)
      where
        by : Dec (get_or index q.0 0 ≡ 0) → (more : List ℕ) × Indexed s (r + 1) more
        by (yes z) = (set index q.0 r, (pair-noted ix e refl refl q.1 few z).1)
        by (no z) = (index, (lower-noted ix e refl refl q.1 z).1)

    go : (t : Bool) → is_pair (kind_at s r) ≡ t → (more : List ℕ) × Indexed s (r + 1) more
    go true e = paired e (search-ends s index (word s r 2) (word s r 3) ix.linked (omega arith))
    go false f = (index, (no-pair-noted ix f).1)

-- a pattern has a type, or none that its alternatives share
module _ {s : List ℕ} {n : ℕ} {index types : List ℕ} {r : ℕ} (q : TypingPattern s n index types r) (sort : sort_at s r ≡ patterns) where
  w : Written s
  w = written q.passes

  there : r < count s
  there = let c = q.sized.counted in let h = q.there in omega arith

  -- word a is a record's number
  first-word-small : word s r 2 < 65536
  first-word-small = let k = kind-of-sort patterns (kind_at s r) sort in go k.0 k.1
    where
      go : (k : PatternKind) → kind_at s r ≡ pattern k → word s r 2 < 65536
      go whole e =
          let h : (word s r 2 < r) × (sort_at s (word s r 2) ≡ Kinds.types) =
          unfold ask_of_kind in as-kind-asks w r (pattern whole) there e 2 refl in
          let l = there in
          let f = w.few in
          omega (arith, h.0)
      go constructor e =
          let h : (word s r 2 < r) × (kind_at s (word s r 2) ≡ type_of flat) =
          unfold ask_of_kind in as-kind-asks w r (pattern constructor) there e 2 refl in
          let l = there in
          let f = w.few in
          omega (arith, h.0)
      go parts e =
          let h = part-of-kind w r (pattern parts) patterns there e 2 refl (unfold ask_of_kind in refl) in
          let f = w.few in
          omega (arith, h.1)

  one-type-found : (x : ℕ) × TypedOne s r x × (x < 65536)
  one-type-found = go (ℕ_discrete (word s r 0) 50)
    where
      go : Dec (word s r 0 ≡ 50) → (x : ℕ) × TypedOne s r x × (x < 65536)
      go (yes e) =
          let k = pattern-kind s r (word s r 0) refl parts e in (
            pair_below s (get_or types (word s r 2) 0) (get_or types (word s r 3) 0) n,
            pair-type-of-parts q sort k refl refl refl,
            pair_small q sort k refl refl refl,
          )
      go (no f) = (word s r 2, word-type q sort (λ z. f (number-of-pattern s r (word s r 0) refl parts z)) refl, first-word-small)

  common-type-found : (x : ℕ) × TypedAll s r x × (x < 65536)
  common-type-found = go one-type-found (ℕ_discrete (word s r 1) 0)
    where
      following : (one : (x : ℕ) × TypedOne s r x × (x < 65536)) → (word s r 1 ≡ 0 → ⊥) → Dec (get_or types (word s r 1) 0 ≡ one.0)
          → (x : ℕ) × TypedAll s r x × (x < 65536)
      following one f (yes e) = (one.0, all-the-same q sort refl f one.0 one.1 e, one.2)
      following one f (no d) = (0, no-common-type q sort refl f one.0 one.1 d, omega arith)

      go : ((x : ℕ) × TypedOne s r x × (x < 65536)) → Dec (word s r 1 ≡ 0) → (x : ℕ) × TypedAll s r x × (x < 65536)
      go one (yes z) = (one.0, last-alternative q sort refl one.0 one.1 z, one.2)
      go one (no f) = following one f (ℕ_discrete (get_or types (word s r 1) 0) one.0)

-- the table with one more record
one-more-typed : {s : List ℕ} {n : ℕ} {index types : List ℕ} {r : ℕ} → TypingPattern s n index types r
    → (lower : List ℕ) × PatternsTyped s r lower
one-more-typed {s} {types = types} {r = r} q = go (dec_lt (word s r 0) 48) (dec_lt 50 (word s r 0))
  where
    other : (word s r 0 ≡ 48 → ⊥) → (word s r 0 ≡ 49 → ⊥) → (word s r 0 ≡ 50 → ⊥) → (lower : List ℕ) × PatternsTyped s r lower
    other f g h = (types, no-type-noted q (no-pattern s r (word s r 0) refl f g h))

    go : Dec (word s r 0 < 48) → Dec (50 < word s r 0) → (lower : List ℕ) × PatternsTyped s r lower
    go (yes l) _ = other (λ e. omega arith) (λ e. omega arith) (λ e. omega arith)
    go (no l) (yes u) = other (λ e. omega arith) (λ e. omega arith) (λ e. omega arith)
    go (no l) (no u) =
        let x = common-type-found q (pattern-between s r (word s r 0) refl (omega arith) (omega arith)) in
        (set types r x.0, type-noted q x.2 x.1)

module _ (s : List ℕ) (p : Passes s) (full : length s ≡ 12 * count s) where
  few : count s ≤ 4096
  few = (written p).few

  -- the pair types below record m
  pub pairs_below : (m : ℕ) → m ≤ count s → (index : List ℕ) × Indexed s m index
  pairs_below zero h = (replicate 12288 0, no-pairs-indexed s)
  pairs_below (suc m) h =
      let f = few in
      let x = pairs_below m (omega arith) in
      let y = one-more-indexed s m (omega arith) x.0 x.1 in
      (y.0, subst (λ (k : ℕ). Indexed s k y.0) (add-one m) y.1)

  pub pairs-indexed : (index : List ℕ) × Indexed s (count s) index
  pairs-indexed = pairs_below (count s) (omega arith)

  -- the types of the patterns from record m on, where k records are left
  types-above : (k m : ℕ) → m + k ≡ count s → (types : List ℕ) × PatternsTyped s m types
  types-above zero m e =
      let c : count s ≡ m = omega arith in
      (replicate 4096 0, subst (λ (k : ℕ). PatternsTyped s k (replicate 4096 0)) c (no-types-typed s))
  types-above (suc k) m e =
      let x = types-above k (m + 1) (omega arith) in
      let q : TypingPattern s (count s) pairs-indexed.0 x.0 m =
      record { sized = sized p full; passes = p; indexed = pairs-indexed.1; there = omega arith; above = x.1 } in
      one-more-typed q

  pub types-from : (m : ℕ) → m ≤ count s → (types : List ℕ) × PatternsTyped s m types
  types-from m h = types-above (count s - m) m (omega arith)

  pub typing-pattern : (r : ℕ) → r < count s → (types : List ℕ) × TypingPattern s (count s) pairs-indexed.0 types r
  typing-pattern r h =
      let x = types-from (r + 1) (omega arith) in (
        x.0,
        record { sized = sized p full; passes = p; indexed = pairs-indexed.1; there = h; above = x.1 },
      )

  pub type_tables : (types : List ℕ) × TypeTables s (count s) pairs-indexed.0 types
  type_tables = let x = types-from 0 (omega arith) in (x.0, record { indexed = pairs-indexed.1; typed = x.1 })
