-- The table of widths from judging to the end: judging leaves the patterns' entries open, each step of the way from the last
-- record to the first fills one in, by its kind, and at the first record the table is whole. A type, an expression and a pattern
-- are different records, as their sorts differ, so a store at one leaves the others; and a pattern's parts are higher records,
-- which have their entries.
-- Assumes nothing.
use Prim.Native.Nat.{ℕ, min, ◌+◌, ◌≤◌, ◌<◌}
use mathlib.Core.Bool.{true, false, ◌&&◌}
use mathlib.Core.List.{List}
use mathlib.Core.Path.{◌≡◌, refl, sym, ap, ◌∙◌}
use native.Mathlib.Omega.{arith}
use native.Mathlib.Decide.{ℕ_discrete, dec_lt}
use lib.Dec.{ltb}
use lib.ListN.{get_or, set, length-set}
use lib.Seq.{get_or-set_same, get_or-set_other}
use Rattle.picoella.specs.Language.{leaves}
use Rattle.records.specs.Words.{count, word}
use Rattle.records.specs.Kinds.{
  pattern,
  whole,
  constructor,
  parts,
  Sort,
  headers,
  types,
  expressions,
  patterns,
  leafs,
  no_sort,
  part,
  sort_number,
  same_sort,
}
use Rattle.records.specs.Says.{kind_at, sort_at}
use Rattle.records.specs.Trees.{type_at, TypeRecord, alternatives, tree_at, circuit}
use Rattle.records.specs.Written.{expression_records}
use Rattle.records.proofs.Tests.{never_both}
use Rattle.records.proofs.Table.{ask_of_kind}
use Rattle.records.proofs.Asked.{part-of-kind}
use Rattle.records.proofs.Trees.{alternatives-of}
use Rattle.records.proofs.Types.{few-leaves}
use Rattle.records.proofs.TypeRecords.{type-word}
use Rattle.structure.specs.LeafTable.{LeavesCounted}
use Rattle.structure.specs.Rules.{Passes}
use Rattle.structure.proofs.Passes.{written, well-named, types-fit}
use Rattle.typing.specs.Judging.{noted}
use Rattle.typing.specs.ExpressionWidth.{width}
use Rattle.verdict.specs.Scopes.{inputs}
use Rattle.verdict.specs.Widths.{pattern_leaves, pattern_entry, has_entry, Widths}
use Rattle.verdict.specs.CheckedTable.{PatternsFrom}
use Rattle.verdict.proofs.Stores.{notes, Stored}
use Rattle.verdict.proofs.Noted.{circuit-expressions, scope-noting, scope-noted, circuit-stored}

-- no record is of two sorts
two-sorts : (σ τ ρ : Sort) → σ ≡ τ → σ ≡ ρ → (sort_number τ ≡ sort_number ρ → ⊥) → ⊥
two-sorts σ τ ρ e f differ = differ (ap sort_number (sym e ∙ f))

no-entry : (σ : Sort) → has_entry σ ≡ false → (same_sort σ types ≡ false) × (σ ≡ expressions → ⊥)
no-entry σ e = (go σ e, λ f. never_both (has_entry σ) (rw f) e)
  where
    go : (σ : Sort) → has_entry σ ≡ false → same_sort σ types ≡ false
    go headers e = refl
    go types e = absurd (never_both true refl e)
    go expressions e = refl
    go patterns e = refl
    go leafs e = refl
    go no_sort e = refl

-- a type record has at most 64 leaves
few-of : {s : List ℕ} → Passes s → (t : ℕ) → TypeRecord s t → leaves (type_at s t) ≤ 64
few-of p t r = few-leaves (types-fit p) t r.there r.sort

-- after judging
module _ {s : List ℕ} {n : ℕ} {w : List ℕ} (p : Passes s) (counted : n ≡ count s) (c : LeavesCounted s n w) where
  stored : Stored (expression_records (circuit s)) (notes s (inputs s) (circuit s)) w (noted s (inputs s) (circuit s) w)
  stored = circuit-stored (written p) (well-named p) w c.long

  -- what is no expression record of the sheet keeps its entry
  kept : (x : ℕ) → (x < count s → sort_at s x ≡ expressions → ⊥) → get_or (noted s (inputs s) (circuit s) w) x 0 ≡ get_or w x 0
  kept x f = stored.kept x (λ m. let o = circuit-expressions (written p) x m in f o.there o.sort)

  type-kept : (t : ℕ) → TypeRecord s t → get_or (noted s (inputs s) (circuit s) w) t 0 ≡ leaves (type_at s t)
  type-kept t r =
      let few = few-of p t r in
      let h = r.there in
      kept t (λ h e. two-sorts (sort_at s t) types expressions r.sort e (λ z. omega arith))
      ∙ c.below t (omega arith)
      ∙ rw r.sort (omega arith)

  other-kept : (r : ℕ) → r < 4096 → (r < count s → has_entry (sort_at s r) ≡ false)
      → get_or (noted s (inputs s) (circuit s) w) r 0 ≡ 0
  other-kept r l f = kept r (λ h. (no-entry (sort_at s r) (f h)).1) ∙ go (dec_lt r n)
    where
      go : Dec (r < n) → get_or w r 0 ≡ 0
      go (yes h) = c.below r h ∙ rw (no-entry (sort_at s r) (f (omega arith))).0
      go (no h) = c.rest r (omega arith) l

  pub judged-widths : PatternsFrom s n (noted s (inputs s) (circuit s) w)
  judged-widths = record {
    long = stored.long ∙ c.long;
    types = type-kept;
    expressions = λ {q} {Γ} sc. stored.stored (record { at = q; leaves = width s Γ (tree_at s q) }) (scope-noted (written p) sc);
    waiting = λ q h e. kept q (λ l f. two-sorts (sort_at s q) patterns expressions e f (λ z. omega arith)) ∙ c.below q h ∙ rw e;
    patterns = λ q low h e. absurd (omega arith);
    elsewhere = other-kept;
  }

-- one record lower
module _ {s : List ℕ} (n m : ℕ) {table : List ℕ} (p : Passes s) (counted : n ≡ count s) (h : m < n) (o : PatternsFrom s (m + 1) table)
  where
    in-sheet : m < count s
    in-sheet = omega arith

    in_table : m < 4096
    in_table = let f = (written p).few in omega arith

    -- the pattern's entry is stored
    pub entry-stored : (v : ℕ) → sort_at s m ≡ patterns → v ≡ pattern_entry s m → PatternsFrom s m (set table m v)
    entry-stored v sort e = record {
      long = length-set table m v ∙ o.long;
      types = λ t r. other t (differs types r.sort (λ z. omega arith)) ∙ o.types t r;
      expressions = λ {q} sc. other q (differs expressions (scope-noting (written p) sc).own.sort (λ z. omega arith)) ∙ o.expressions sc;
      waiting = λ q l f. other q (λ z. omega arith) ∙ o.waiting q (omega arith) f;
      patterns = λ q low l f. filled q low l f (ℕ_discrete q m);
      elsewhere = λ r l f. other r (λ z. never_both (has_entry (sort_at s m)) (rw sort) (rw z at (f (omega arith)))) ∙ o.elsewhere r l f;
    }
      where
        other : (x : ℕ) → (x ≡ m → ⊥) → get_or (set table m v) x 0 ≡ get_or table x 0
        other x f = get_or-set_other table m x v 0 f

        differs : {x : ℕ} (σ : Sort) → sort_at s x ≡ σ → (sort_number σ ≡ sort_number patterns → ⊥) → x ≡ m → ⊥
        differs {x} σ f d z = two-sorts (sort_at s x) σ patterns f (rw z sort) d

        filled : (q : ℕ) → m ≤ q → q < count s → sort_at s q ≡ patterns → Dec (q ≡ m) → get_or (set table m v) q 0 ≡ pattern_entry s q
        filled q low l f (yes z) = let t = o.long in rw z (get_or-set_same table m v 0 (omega (arith, in_table)) ∙ e)
        filled q low l f (no z) = other q z ∙ o.patterns q (omega arith) l f

    -- a record that is no pattern
    pub unpatterned : (sort_at s m ≡ patterns → ⊥) → PatternsFrom s m table
    unpatterned other = record {
      long = o.long;
      types = o.types;
      expressions = o.expressions;
      waiting = λ q l f. o.waiting q (omega arith) f;
      patterns = λ q low l f. filled q low l f (ℕ_discrete q m);
      elsewhere = o.elsewhere;
    }
      where
        filled : (q : ℕ) → m ≤ q → q < count s → sort_at s q ≡ patterns → Dec (q ≡ m) → get_or table q 0 ≡ pattern_entry s q
        filled q low l f (yes z) = absurd (other (rw z at f))
        filled q low l f (no z) = o.patterns q (omega arith) l f

    -- a whole type: the entry of its type
    module _ (is_whole : kind_at s m ≡ pattern whole) (x : ℕ) (ex : x ≡ word s m 2) where
      pub whole_typed : TypeRecord s x
      whole_typed = rw ex (type-word (written p) m (pattern whole) in-sheet is_whole 2 refl (unfold ask_of_kind in refl))

      pub whole-in-table : x < 4096
      whole-in-table = let l = whole_typed.there in let f = (written p).few in omega arith

      pub whole-few : get_or table x 0 ≤ 65
      whole-few = let l = few-of p x whole_typed in let q = o.types x whole_typed in omega arith

      pub whole-widths : PatternsFrom s m (set table m (get_or table x 0))
      whole-widths = entry-stored (get_or table x 0) (rw is_whole)
          (let l = few-of p x whole_typed in
          o.types x whole_typed ∙ rw (alternatives-of (written p) m in-sheet (pattern whole) is_whole, ← ex) (omega arith))

    -- one constructor: one leaf
    pub constructor-widths : kind_at s m ≡ pattern constructor → PatternsFrom s m (set table m 1)
    constructor-widths f =
        entry-stored 1 (rw f) (rw (alternatives-of (written p) m in-sheet (pattern constructor) f))

    -- a pair of patterns: the entries of both
    module _ (is-parts : kind_at s m ≡ pattern parts) where
      -- what is known of a part
      record Part (x : ℕ) : Type 0 where
        there : x < count s
        entry : get_or table x 0 ≡ pattern_entry s x

      part_at : (j : ℕ) → (ltb 0 j && ltb j 6) ≡ true → ask_of_kind (pattern parts) j ≡ part patterns → (x : ℕ) → x ≡ word s m j → Part x
      part_at j t a x ex =
          let f = part-of-kind (written p) m (pattern parts) patterns in-sheet is-parts j t a in
          rw ex (record { there = f.1; entry = o.patterns (word s m j) (omega arith) f.1 f.2 })

      first_part : (x : ℕ) → x ≡ word s m 2 → Part x
      first_part = part_at 2 refl (unfold ask_of_kind in refl)

      second-part : (y : ℕ) → y ≡ word s m 3 → Part y
      second-part = part_at 3 refl (unfold ask_of_kind in refl)

      part-in-table : (x : ℕ) → Part x → x < 4096
      part-in-table x q = let l = q.there in let f = (written p).few in omega arith

      part-few : (x : ℕ) → Part x → get_or table x 0 ≤ 65
      part-few x q = let l = q.entry in omega arith

      pub first-in-table : (x : ℕ) → x ≡ word s m 2 → x < 4096
      first-in-table x ex = part-in-table x (first_part x ex)

      pub second-in-table : (y : ℕ) → y ≡ word s m 3 → y < 4096
      second-in-table y ey = part-in-table y (second-part y ey)

      pub first-width-few : (x : ℕ) → x ≡ word s m 2 → get_or table x 0 ≤ 65
      first-width-few x ex = part-few x (first_part x ex)

      pub second-width-few : (y : ℕ) → y ≡ word s m 3 → get_or table y 0 ≤ 65
      second-width-few y ey = part-few y (second-part y ey)

      pub parts-widths : (x y : ℕ) → x ≡ word s m 2 → y ≡ word s m 3
          → PatternsFrom s m (set table m (min 65 (get_or table x 0 + get_or table y 0)))
      parts-widths x y ex ey =
          entry-stored (min 65 (get_or table x 0 + get_or table y 0)) (rw is-parts)
          (rw (
            alternatives-of (written p) m in-sheet (pattern parts) is-parts,
            ← ex,
            ← ey,
            (first_part x ex).entry,
            (second-part y ey).entry,
          )
          (capped (pattern_leaves s (alternatives s x)) (pattern_leaves s (alternatives s y))))
        where
          capped : (a b : ℕ) → min 65 (min 65 a + min 65 b) ≡ min 65 (a + b)
          capped a b = omega arith

-- at the first record
pub whole-table : {s table : List ℕ} → PatternsFrom s 0 table → Widths s table
whole-table o = record {
  long = o.long;
  types = o.types;
  expressions = o.expressions;
  patterns = λ q h e. o.patterns q (omega arith) h e;
  elsewhere = o.elsewhere;
}
