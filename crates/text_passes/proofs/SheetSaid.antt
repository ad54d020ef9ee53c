-- Every record of a text's sheet says what the table asks, where no flat type has more than 255
-- constructors: code 3 does not come; and the header always does: code 2 never comes.
-- Assumes nothing.
use Prim.Native.Nat.{ℕ, zero, suc, ◌+◌, ◌≤◌, ◌<◌, min}
use mathlib.Core.Path.{◌≡◌, refl, sym, subst, ◌∙◌}
use mathlib.Core.Bool.{Bool, true, false, cond, ◌&&◌}
use mathlib.Core.List.{List, [], ◌∷◌, ◌++◌}
use native.Mathlib.Omega.{arith}
use borrow.Author.Tests.{lt-ltb, le-leb, eq-eqb, ltb-true, ltb-false}
use lib.Dec.{ltb}
use lib.ListN.{length, replicate, length-replicate}
use Rattle.records.specs.Words.{count, kind_word, word_a}
use Rattle.records.specs.Kinds.{types, expressions, patterns, leafs, row_of, kind_of, ask_of, is_flat, next_of, same_sort}
use Rattle.records.specs.SheetOf.{words, sheet_of}
use Rattle.records.specs.Says.{kind_at, sort_at, higher, meets, well_said}
use Rattle.picoella.specs.Language.{leaves}
use Rattle.structure.specs.Rules.{wrong_header, wrong_record}
use Rattle.grammar.specs.Tokens.{Token}
use Rattle.grammar.specs.Source.{identifier, Declaration, Constructors, PairOf, SourceConstant, OfConstructor, Undefined, ConstantPair}
use Rattle.grammar.specs.Source.{SourcePattern, Alone, PatternPair, Either, text}
use Rattle.grammar.specs.Source.{
  Expression,
  NameUse,
  UndefinedOf,
  PairExpression,
  FirstOf,
  SecondOf,
  LetExpression,
  LetRecExpression,
  IfExpression,
  DelayExpression,
}
use Rattle.grammar.specs.Grammar.{ReadsText}
use Rattle.name_rules.specs.Declared.{DeclaredName, is_among, is_declared, at_first, type_role, constructor_role}
use Rattle.name_rules.specs.Checks.{AllPass}
use Rattle.name_rules.specs.Constants.{letters, constant_type, constant_checks, constants_of_text}
use Rattle.name_rules.specs.Names.{is_one, after_declaration, after_all, bind, declaration_checks, declarations_checks}
use Rattle.name_rules.specs.Names.{pattern_checks, constant_names, expression_checks, name_checks, text_checks}
use Rattle.name_rules.specs.RecordsNeeded.{leaf_count_of, leaf_counts, pattern_records, constant_leaves, records_needed}
use Rattle.layout.specs.Resolved.{TypeEntry, type_meant, type_number, type_entries, after_entry, constructor_meant, constructor_entries, distance}
use Rattle.layout.specs.Distances.{constant_values}
use Rattle.layout.specs.Layout.{next_type, types_laid, leaves_laid, constant_laid, name_laid, number_or, pattern_laid, room_of, laid, text_records, sheet_of_text}
use Rattle.layout.proofs.Standing.{RecordIs, Stands, one-stands, sheet-stands, stands-append, sheet-count}
use Rattle.layout.proofs.ConstructorTables.{pass-both, passes, pass-rest, after-new, type-or-constructor}
use Rattle.layout.proofs.Tables.{TablesMeant, Known, no-type, after-known}
use Rattle.layout.proofs.Sizes.{types-length, leaves-length, pattern-length, constant-length, expression-length}
use Rattle.layout.proofs.Kept as Translation
use Rattle.layout.proofs.Kept.{names-good, in-its-sheet}
use Rattle.text_passes.specs.RefusedTypes.{over_counted}
use Rattle.text_passes.proofs.Nested.{leaves-some, values-some}
use Rattle.text_passes.proofs.RecordsSaid.{
  Said,
  higher-true,
  next-none,
  next-some,
  lower-type-word,
  wrong-flat,
  wrong-pair,
  said-constant,
  said-name,
  said-tuple,
  said-first,
  said-second,
  said-let,
  said-feedback,
  said-if,
  said-delay,
  said-whole,
  said-constructor,
  said-parts,
  said-leaf,
}
use Rattle.text_passes.proofs.TypesReady.{
  FewConstructors,
  first-or-later,
  types-sorted,
  NumbersBelow,
  no-numbers,
  ranged-number,
  after-ranged,
  type-in,
  Ready,
  constructor-in,
  held_in,
}

-- n records from r on
pub record AllSaid (s : List ℕ) (r n : ℕ) : Type 0 where
  pub each : (q : ℕ) → r ≤ q → q < r + n → Said s q

none_said : (s : List ℕ) (r : ℕ) → AllSaid s r 0
none_said s r = record { each = λ q low high. let no : ⊥ = omega (arith, low, high) in elim no [ ] }

one-said : {s : List ℕ} {r m : ℕ} (n : ℕ) → n ≡ suc m → Said s r → AllSaid s (suc r) m → AllSaid s r n
one-said {s} {r} {m} n e x t =
    record { each = λ q low high. first-or-later (Said s) r q low x (λ h. t.each q h (omega (arith, high, e))) }

two_said : {s : List ℕ} {r m n : ℕ} → AllSaid s r m → AllSaid s (r + m) n → AllSaid s r (m + n)
two_said {s} {r} {m} {n} x y = record { each = λ q low high. go q low high (ltb q (r + m)) refl }
  where
    go : (q : ℕ) → r ≤ q → q < r + (m + n) → (b : Bool) → ltb q (r + m) ≡ b → Said s q
    go q low high true e = x.each q low (ltb-true q (r + m) e)
    go q low high false e = let h = ltb-false q (r + m) e in y.each q h (omega (arith, high))

-- leaves of at most 255
pub data Small : List ℕ → Type 0 where
  none-small : Small []
  one-small : {v : ℕ} {vs : List ℕ} → v ≤ 255 → Small vs → Small (v ∷ vs)

small-append : {vs ws : List ℕ} → Small vs → Small ws → Small (vs ++ ws)
small-append none-small y = y
small-append (one-small h x) y = one-small h (small-append x y)

small-zeros : (n : ℕ) → Small (replicate n 0)
small-zeros zero = none-small
small-zeros (suc n) = one-small {v = 0} (omega arith) (small-zeros n)

pattern-some : (m : SourcePattern) → 1 ≤ pattern_records m
pattern-some (Alone n) = omega arith
pattern-some (PatternPair m n) = omega arith
pattern-some (Either m n) = let h = pattern-some m in omega arith

module _ (ds : List Declaration) where
  name-some : (b c : Bool) → 1 ≤ cond b 1 (cond c 2 1)
  name-some true c = omega arith
  name-some false true = omega arith
  name-some false false = omega arith

  pub room-some : (bound : List (List ℕ)) (e : Expression) → 1 ≤ room_of ds bound e
  room-some bound (NameUse n) = name-some (is_among (letters n) bound) (is_declared constructor_role (letters n) (after_all at_first ds))
  room-some bound (UndefinedOf t) = omega arith
  room-some bound (PairExpression e f) = omega arith
  room-some bound (FirstOf e) = omega arith
  room-some bound (SecondOf e) = omega arith
  room-some bound (LetExpression n e f) = omega arith
  room-some bound (LetRecExpression t n e f) = omega arith
  room-some bound (IfExpression e m f g) = omega arith
  room-some bound (DelayExpression c e) = omega arith

-- the sort of the first record
leaves-sort : (s : List ℕ) (r : ℕ) (vs : List ℕ) → 1 ≤ length vs → Stands s r (leaves_laid r vs) → sort_at s r ≡ leafs
unfolding kind_of row_of
leaves-sort s r [] h st = let no : ⊥ = omega arith in elim no [ ]
leaves-sort s r (v ∷ []) h (one-stands x st) = rw x.kind-is
leaves-sort s r (v ∷ w ∷ vs) h (one-stands x st) = rw x.kind-is

pattern-sort : (s : List ℕ) (ds : List Declaration) (next r : ℕ) (m : SourcePattern) → Stands s r (pattern_laid ds next r m) → sort_at s r ≡ patterns
unfolding kind_of row_of
pattern-sort s ds next r (Alone n) st = go (is_declared type_role (letters n) (after_all at_first ds)) _ _ _ st
  where
    go : (b : Bool) (t c k : ℕ) → Stands s r (cond b (words 48 next t 0 0 0 ∷ []) (words 49 next c k 0 0 ∷ [])) → sort_at s r ≡ patterns
    go true t c k (one-stands x st) = rw x.kind-is
    go false t c k (one-stands x st) = rw x.kind-is
pattern-sort s ds next r (PatternPair m n) (one-stands x st) = rw x.kind-is
pattern-sort s ds next r (Either m n) st =
    pattern-sort s ds (r + pattern_records m) r m
    (stands-append r (pattern_laid ds (r + pattern_records m) r m) (pattern_laid ds next (r + pattern_records m) n) st).0

pub expression-sort : (s : List ℕ) (ds : List Declaration) (bound : List (List ℕ)) (r : ℕ) (e : Expression) → Stands s r (laid ds bound r e)
    → sort_at s r ≡ expressions
unfolding kind_of row_of
expression-sort s ds bound r (NameUse n) st = go (is_among (letters n) bound) (is_declared constructor_role (letters n) (after_all at_first ds)) _ _ _ st
  where
    go : (a b : Bool) (k t v : ℕ)
        → Stands s r (cond a (words 33 0 k 0 0 0 ∷ []) (cond b (constant_laid t r (v ∷ [])) (words 33 0 k 0 0 0 ∷ []))) → sort_at s r ≡ expressions
    go true b k t v (one-stands x st) = rw x.kind-is
    go false true k t v (one-stands x st) = rw x.kind-is
    go false false k t v (one-stands x st) = rw x.kind-is
expression-sort s ds bound r (UndefinedOf t) (one-stands x st) = rw x.kind-is
expression-sort s ds bound r (PairExpression e f) (one-stands x st) = rw x.kind-is
expression-sort s ds bound r (FirstOf e) (one-stands x st) = rw x.kind-is
expression-sort s ds bound r (SecondOf e) (one-stands x st) = rw x.kind-is
expression-sort s ds bound r (LetExpression n e f) (one-stands x st) = rw x.kind-is
expression-sort s ds bound r (LetRecExpression t n e f) (one-stands x st) = rw x.kind-is
expression-sort s ds bound r (IfExpression e m f g) (one-stands x st) = rw x.kind-is
expression-sort s ds bound r (DelayExpression c e) (one-stands x st) = rw x.kind-is

leaves-said : {s : List ℕ} (r : ℕ) (vs : List ℕ) → 1 ≤ length vs → Small vs → r + length vs ≤ count s → Stands s r (leaves_laid r vs)
    → AllSaid s r (length vs)
leaves-said r [] enough small fits st = let no : ⊥ = omega arith in elim no [ ]
leaves-said {s} r (v ∷ []) enough (one-small h small) fits (one-stands x st) =
    one-said 1 (omega arith) (said-leaf x (next-none s r leafs) (le-leb v 255 h)) (none_said s (suc r))
leaves-said {s} r (v ∷ w ∷ vs) enough (one-small h small) fits (one-stands x st) =
    one-said (length (v ∷ w ∷ vs)) (omega arith)
    (said-leaf x
    (next-some s r (suc r) leafs (higher-true s r (suc r) leafs (omega arith) (omega arith) (leaves-sort s (suc r) (w ∷ vs) (omega arith) st)))
    (le-leb v 255 h))
    (leaves-said (suc r) (w ∷ vs) (omega arith) small (omega arith) st)

-- the types: a record is wrong exactly where its declaration has too many constructors
next-type : (s : List ℕ) (i : ℕ) (ds : List Declaration) → ((j : ℕ) → 0 < j → j < i + suc (length ds) → sort_at s j ≡ types)
    → i + suc (length ds) ≤ count s → meets s i (next_of types) (next_type i ds) ≡ true
next-type s i [] sorted fits = next-none s i types
next-type s i (d ∷ ds) sorted fits =
    next-some s i (suc i) types (higher-true s i (suc i) types (omega arith) (omega arith) (sorted (suc i) (omega arith) (omega arith)))

module _ {s : List ℕ} where
  types-wrong : (i : ℕ) (D : List DeclaredName) (T : List TypeEntry) (ds : List Declaration) → 0 < i → Known D T → NumbersBelow i T
      → ((j : ℕ) → 0 < j → j < i + length ds → sort_at s j ≡ types) → AllPass (declarations_checks D ds)
      → i + length ds ≤ count s → Stands s i (types_laid i T ds) → (k : ℕ) → k < length ds → wrong_record s (i + k) ≡ over_counted ds (suc k)
  unfolding over_counted
  types-wrong i D T [] past known r sorted good fits st k within = let no : ⊥ = omega arith in elim no [ ]
  types-wrong i D T (Constructors t c cs ∷ ds) past known r sorted good fits (one-stands x st) zero within =
      let e : i + 0 ≡ i = omega arith in rw e (wrong-flat past x (next-type s i ds sorted fits) (omega arith))
  types-wrong i D T (PairOf (identifier v q) (identifier a m) (identifier b n) ∷ ds) past known r sorted good fits (one-stands x st) zero within =
      let d = PairOf (identifier v q) (identifier a m) (identifier b n) in
      let both = pass-both (declaration_checks D d) (declarations_checks (after_declaration D d) ds) good in
      let parts = pass-rest both.0 in
      let f = ranged-number a r (known.named a (passes parts)) in
      let g = ranged-number b r (known.named b (passes (pass-rest parts))) in
      let e : i + 0 ≡ i = omega arith in
      rw e
      (wrong-pair x (next-type s i ds sorted fits)
      (lower-type-word s i (type_number T a) f.1 (sorted (type_number T a) f.0 (let h = f.1 in omega (arith, h))))
      (lower-type-word s i (type_number T b) g.1 (sorted (type_number T b) g.0 (let h = g.1 in omega (arith, h)))))
  types-wrong i D T (Constructors t c cs ∷ ds) past known r sorted good fits (one-stands x st) (suc k) within =
      let d = Constructors t c cs in
      let e : i + suc k ≡ suc i + k = omega arith in
      let both = pass-both (declaration_checks D d) (declarations_checks (after_declaration D d) ds) good in
      rw e
      (types-wrong (suc i) (after_declaration D d) (after_entry i T d) ds (omega arith) (after-known i D T d known) (after-ranged i T d past r)
      (λ j low high. sorted j low (omega (arith, high))) both.1 (omega arith) st k (omega arith))
  types-wrong i D T (PairOf t a b ∷ ds) past known r sorted good fits (one-stands x st) (suc k) within =
      let d = PairOf t a b in
      let e : i + suc k ≡ suc i + k = omega arith in
      let both = pass-both (declaration_checks D d) (declarations_checks (after_declaration D d) ds) good in
      rw e
      (types-wrong (suc i) (after_declaration D d) (after_entry i T d) ds (omega arith) (after-known i D T d known) (after-ranged i T d past r)
      (λ j low high. sorted j low (omega (arith, high))) both.1 (omega arith) st k (omega arith))

-- the expression
module _ {s : List ℕ} {ds : List Declaration} (T : TablesMeant s ds) (sorted : (j : ℕ) → 0 < j → j < 1 + length ds → sort_at s j ≡ types)
    (declared : AllPass (declarations_checks at_first ds)) (stand : Stands s 1 (types_laid 1 [] ds)) (few : FewConstructors ds) where
  type-said : (r : ℕ) (w : List ℕ) → length ds < r → is_declared type_role w (after_all at_first ds) ≡ true
      → (ltb (type_number (type_entries ds) w) r && same_sort (sort_at s (type_number (type_entries ds) w)) types) ≡ true
  type-said r w h d =
      let f = type-in ds declared w d in
      let g = f.1 in
      lower-type-word s r (type_number (type_entries ds) w) (omega (arith, g, h)) (sorted (type_number (type_entries ds) w) f.0 g)

  number-said : (r t : ℕ) → length ds < r → (0 < t) × (t < 1 + length ds) → (ltb t r && same_sort (sort_at s t) types) ≡ true
  number-said r t h f = let g = f.1 in lower-type-word s r t (omega (arith, g, h)) (sorted t f.0 g)

  is-flat : (t : ℕ) → kind_word s t ≡ 16 → is_flat (kind_at s t) ≡ true
  unfolding kind_of row_of
  is-flat t e = rw e

  ready : (w : List ℕ) → is_declared constructor_role w (after_all at_first ds) ≡ true → Ready s (1 + length ds) (constructor_meant (constructor_entries ds) w)
  ready w h = constructor-in ds few stand w h

  values-small : (c : SourceConstant) → AllPass (constant_names (after_all at_first ds) c) → Small (constant_values ds c)
  values-small (OfConstructor (identifier w p)) h =
      let x = ready w (passes h) in
      let a = x.within in
      let b = x.few in
      one-small {v = (constructor_meant (constructor_entries ds) w).number} (omega (arith, a, b)) none-small
  values-small (Undefined t) h = small-zeros (min 64 (leaves (type_meant (type_entries ds) (letters t))))
  values-small (ConstantPair p c d) h =
      let both = pass-both (constant_names (after_all at_first ds) c) (constant_names (after_all at_first ds) d) h in
      small-append (values-small c both.0) (values-small d both.1)

  pattern-said : (next r : ℕ) (m : SourcePattern) → AllPass (pattern_checks (after_all at_first ds) m) → length ds < r
      → r + pattern_records m ≤ count s → ((q : ℕ) → q < r + pattern_records m → meets s q (next_of patterns) next ≡ true)
      → Stands s r (pattern_laid ds next r m) → AllSaid s r (pattern_records m)
  pattern-said next r (Alone (identifier w p)) good low fits nexts st =
      go (is_declared type_role w (after_all at_first ds)) refl st
    where
      t : ℕ
      t = type_number (type_entries ds) w

      c : ℕ
      c = (constructor_meant (constructor_entries ds) w).type

      k : ℕ
      k = (constructor_meant (constructor_entries ds) w).number

      one : Said s r → AllSaid s r 1
      one x = one-said 1 (omega arith) x (none_said s (suc r))

      go : (b : Bool) → is_declared type_role w (after_all at_first ds) ≡ b
          → Stands s r (cond b (words 48 next t 0 0 0 ∷ []) (words 49 next c k 0 0 ∷ [])) → AllSaid s r 1
      go true e (one-stands x st) = one (said-whole x (nexts r (omega arith)) (type-said r w low e))
      go false e (one-stands x st) =
          let y = ready w (type-or-constructor w (after_all at_first ds) (passes good) e) in
          let f = y.before in
          let g = y.counted in
          let h = y.within in
          one
          (said-constructor x (nexts r (omega arith)) (rw (lt-ltb c r (omega (arith, f, low))) (is-flat c y.flat))
          (rw (lt-ltb 0 k y.positive) (le-leb k (word_a s c) (omega (arith, g, h)))))
  pattern-said next r (PatternPair m n) good low fits nexts (one-stands x st) =
      let D = after_all at_first ds in
      let both = pass-both (pattern_checks D m) (pattern_checks D n) good in
      let second = suc r + pattern_records m in
      let parted = stands-append (suc r) (pattern_laid ds 0 (suc r) m) (pattern_laid ds 0 second n) st in
      let l = pattern-length ds 0 (suc r) m in
      let there : Stands s second (pattern_laid ds 0 second n) = rw l at parted.1 in
      let a = pattern-some m in
      let b = pattern-some n in
      one-said (pattern_records (PatternPair m n)) (omega arith)
      (said-parts x (nexts r (omega arith))
      (higher-true s r (suc r) patterns (omega arith) (omega (arith, fits, a)) (pattern-sort s ds 0 (suc r) m parted.0))
      (higher-true s r second patterns (omega arith) (omega (arith, fits, b)) (pattern-sort s ds 0 second n there)))
      (two_said
      (pattern-said 0 (suc r) m both.0 (omega arith) (omega (arith, fits)) (λ q h. next-none s q patterns) parted.0)
      (pattern-said 0 second n both.1 (omega arith) (omega (arith, fits)) (λ q h. next-none s q patterns) there))
  pattern-said next r (Either m n) good low fits nexts st =
      let D = after_all at_first ds in
      let both = pass-both (pattern_checks D m) (pattern_checks D n) good in
      let p = pattern_records m in
      let parted = stands-append r (pattern_laid ds (r + p) r m) (pattern_laid ds next (r + p) n) st in
      let l = pattern-length ds (r + p) r m in
      let there : Stands s (r + p) (pattern_laid ds next (r + p) n) = rw l at parted.1 in
      let b = pattern-some n in
      let here : r + p < count s = omega (arith, fits, b) in
      two_said
      (pattern-said (r + p) r m both.0 low (omega (arith, fits))
      (λ q h. next-some s q (r + p) patterns (higher-true s q (r + p) patterns h here (pattern-sort s ds next (r + p) n there))) parted.0)
      (pattern-said next (r + p) n both.1 (omega (arith, low)) (omega (arith, fits)) (λ q h. nexts q (omega (arith, h))) there)

  constant-said : (t r : ℕ) (vs : List ℕ) → length ds < r → (0 < t) × (t < 1 + length ds) → 1 ≤ length vs → Small vs → r + suc (length vs) ≤ count s
      → Stands s r (constant_laid t r vs) → AllSaid s r (suc (length vs))
  constant-said t r vs low h enough small fits (one-stands x st) =
      one-said (suc (length vs)) (omega arith)
      (said-constant x (number-said r t low h)
      (higher-true s r (suc r) leafs (omega arith) (omega (arith, fits, enough)) (leaves-sort s (suc r) vs enough st)))
      (leaves-said (suc r) vs enough small (omega (arith, fits)) st)

  name-said : (bound : List (List ℕ)) (r : ℕ) (w : List ℕ) → length ds < r
      → r + cond (is_among w bound) 1 (cond (is_declared constructor_role w (after_all at_first ds)) 2 1) ≤ count s
      → Stands s r (name_laid ds bound r w)
      → AllSaid s r (cond (is_among w bound) 1 (cond (is_declared constructor_role w (after_all at_first ds)) 2 1))
  name-said bound r w low fits st = go (is_among w bound) (is_declared constructor_role w (after_all at_first ds)) refl fits st
    where
      t : ℕ
      t = (constructor_meant (constructor_entries ds) w).type

      v : ℕ
      v = (constructor_meant (constructor_entries ds) w).number

      go : (a b : Bool) → is_declared constructor_role w (after_all at_first ds) ≡ b → r + cond a 1 (cond b 2 1) ≤ count s
          → Stands s r
          (cond a (words 33 0 (distance w bound) 0 0 0 ∷ []) (cond b (constant_laid t r (v ∷ [])) (words 33 0 (distance w bound) 0 0 0 ∷ [])))
          → AllSaid s r (cond a 1 (cond b 2 1))
      go true b e fits (one-stands x st) = one-said 1 (omega arith) (said-name x) (none_said s (suc r))
      go false true e fits st =
          let y = ready w e in
          let f = y.within in
          let g = y.few in
          constant-said t r (v ∷ []) low (y.past, y.before) (omega arith) (one-small (omega (arith, f, g)) none-small) fits st
      go false false e fits (one-stands x st) = one-said 1 (omega arith) (said-name x) (none_said s (suc r))

  part_of : (bound : List (List ℕ)) (r q : ℕ) (e : Expression) → r < q → q + room_of ds bound e ≤ count s → Stands s q (laid ds bound q e)
      → higher s r expressions q ≡ true
  part_of bound r q e h fits st =
      let a = room-some ds bound e in higher-true s r q expressions h (omega (arith, fits, a)) (expression-sort s ds bound q e st)

  expression-said : (bound : List (List ℕ)) (r : ℕ) (e : Expression) → AllPass (expression_checks (after_all at_first ds) bound e)
      → AllPass (constant_checks ds e) → length ds < r → r + room_of ds bound e ≤ count s → Stands s r (laid ds bound r e)
      → AllSaid s r (room_of ds bound e)
  expression-said bound r (NameUse n) good held low fits st = name-said bound r (letters n) low fits st
  expression-said bound r (UndefinedOf (identifier w p)) good held low fits st =
      let n = leaf_count_of (leaf_counts [] ds) w in
      let c : n ≡ min 64 (leaves (type_meant (type_entries ds) w)) = T.leaf-counts w (passes good) in
      let enough = leaves-some (type_meant (type_entries ds) w) in
      let l = length-replicate {A = ℕ} n 0 in
      let e : suc (length {A = ℕ} (replicate n 0)) ≡ 1 + n = omega (arith, l) in
      subst (AllSaid s r) e
      (constant-said (type_number (type_entries ds) w) r (replicate n 0) low (type-in ds declared w (passes good)) (omega (arith, c, enough, l))
      (small-zeros n) (omega (arith, fits, l)) st)
  expression-said bound r (PairExpression e f) good held low fits (one-stands x st) =
      let D = after_all at_first ds in
      let both = pass-both (expression_checks D bound e) (expression_checks D bound f) good in
      let helds = pass-both (constant_checks ds e) (constant_checks ds f) held in
      let second = suc r + room_of ds bound e in
      let parted = stands-append (suc r) (laid ds bound (suc r) e) (laid ds bound second f) st in
      let l = expression-length T bound (suc r) e both.0 in
      let there : Stands s second (laid ds bound second f) = rw l at parted.1 in
      let a : suc r + room_of ds bound e ≤ count s = omega (arith, fits) in
      let b : second + room_of ds bound f ≤ count s = omega (arith, fits) in
      one-said (room_of ds bound (PairExpression e f)) (omega arith)
      (said-tuple x (part_of bound r (suc r) e (omega arith) a parted.0) (part_of bound r second f (omega arith) b there))
      (two_said (expression-said bound (suc r) e both.0 helds.0 (omega arith) a parted.0)
      (expression-said bound second f both.1 helds.1 (omega arith) b there))
  expression-said bound r (FirstOf e) good held low fits (one-stands x st) =
      let a : suc r + room_of ds bound e ≤ count s = omega (arith, fits) in
      one-said (room_of ds bound (FirstOf e)) (omega arith) (said-first x (part_of bound r (suc r) e (omega arith) a st))
      (expression-said bound (suc r) e good held (omega arith) a st)
  expression-said bound r (SecondOf e) good held low fits (one-stands x st) =
      let a : suc r + room_of ds bound e ≤ count s = omega (arith, fits) in
      one-said (room_of ds bound (SecondOf e)) (omega arith) (said-second x (part_of bound r (suc r) e (omega arith) a st))
      (expression-said bound (suc r) e good held (omega arith) a st)
  expression-said bound r (LetExpression n e f) good held low fits (one-stands x st) =
      let D = after_all at_first ds in
      let both = pass-both (expression_checks D bound e) (expression_checks D (bind n bound) f) (after-new D n good) in
      let helds = pass-both (constant_checks ds e) (constant_checks ds f) held in
      let second = suc r + room_of ds bound e in
      let parted = stands-append (suc r) (laid ds bound (suc r) e) (laid ds (bind n bound) second f) st in
      let l = expression-length T bound (suc r) e both.0 in
      let there : Stands s second (laid ds (bind n bound) second f) = rw l at parted.1 in
      let a : suc r + room_of ds bound e ≤ count s = omega (arith, fits) in
      let b : second + room_of ds (bind n bound) f ≤ count s = omega (arith, fits) in
      one-said (room_of ds bound (LetExpression n e f)) (omega arith)
      (said-let x (part_of bound r (suc r) e (omega arith) a parted.0) (part_of (bind n bound) r second f (omega arith) b there))
      (two_said (expression-said bound (suc r) e both.0 helds.0 (omega arith) a parted.0)
      (expression-said (bind n bound) second f both.1 helds.1 (omega arith) b there))
  expression-said bound r (LetRecExpression (identifier t p) n e f) good held low fits (one-stands x st) =
      let D = after_all at_first ds in
      let inner = bind n bound in
      let both = pass-both (expression_checks D inner e) (expression_checks D inner f) (after-new D n (pass-rest good)) in
      let helds = pass-both (constant_checks ds e) (constant_checks ds f) held in
      let second = suc r + room_of ds inner e in
      let parted = stands-append (suc r) (laid ds inner (suc r) e) (laid ds inner second f) st in
      let l = expression-length T inner (suc r) e both.0 in
      let there : Stands s second (laid ds inner second f) = rw l at parted.1 in
      let a : suc r + room_of ds inner e ≤ count s = omega (arith, fits) in
      let b : second + room_of ds inner f ≤ count s = omega (arith, fits) in
      one-said (room_of ds bound (LetRecExpression (identifier t p) n e f)) (omega arith)
      (said-feedback x (type-said r t low (passes good)) (part_of inner r (suc r) e (omega arith) a parted.0)
      (part_of inner r second f (omega arith) b there))
      (two_said (expression-said inner (suc r) e both.0 helds.0 (omega arith) a parted.0)
      (expression-said inner second f both.1 helds.1 (omega arith) b there))
  expression-said bound r (IfExpression e m f g) good held low fits (one-stands x st) =
      let D = after_all at_first ds in
      let one = pass-both ((expression_checks D bound e ++ pattern_checks D m) ++ expression_checks D bound f) (expression_checks D bound g) good in
      let two = pass-both (expression_checks D bound e ++ pattern_checks D m) (expression_checks D bound f) one.0 in
      let three = pass-both (expression_checks D bound e) (pattern_checks D m) two.0 in
      let last-held = pass-both (constant_checks ds e ++ constant_checks ds f) (constant_checks ds g) held in
      let helds = pass-both (constant_checks ds e) (constant_checks ds f) last-held.0 in
      let then = suc r + room_of ds bound e in
      let otherwise = then + room_of ds bound f in
      let last = otherwise + room_of ds bound g in
      let tested = stands-append (suc r) (laid ds bound (suc r) e)
      (laid ds bound then f ++ (laid ds bound otherwise g ++ pattern_laid ds 0 last m)) st in
      let la = expression-length T bound (suc r) e three.0 in
      let lb = expression-length T bound then f two.1 in
      let lc = expression-length T bound otherwise g one.1 in
      let after-tested : Stands s then (laid ds bound then f ++ (laid ds bound otherwise g ++ pattern_laid ds 0 last m)) = rw la at tested.1 in
      let chosen = stands-append then (laid ds bound then f) (laid ds bound otherwise g ++ pattern_laid ds 0 last m) after-tested in
      let after_then : Stands s otherwise (laid ds bound otherwise g ++ pattern_laid ds 0 last m) = rw lb at chosen.1 in
      let other = stands-append otherwise (laid ds bound otherwise g) (pattern_laid ds 0 last m) after_then in
      let after-else : Stands s last (pattern_laid ds 0 last m) = rw lc at other.1 in
      let a : suc r + room_of ds bound e ≤ count s = omega (arith, fits) in
      let b : then + room_of ds bound f ≤ count s = omega (arith, fits) in
      let c : otherwise + room_of ds bound g ≤ count s = omega (arith, fits) in
      let d : last + pattern_records m ≤ count s = omega (arith, fits) in
      let some_pattern = pattern-some m in
      one-said (room_of ds bound (IfExpression e m f g)) (omega arith)
      (said-if x (part_of bound r (suc r) e (omega arith) a tested.0) (part_of bound r then f (omega arith) b chosen.0)
      (part_of bound r otherwise g (omega arith) c other.0)
      (higher-true s r last patterns (omega arith) (omega (arith, d, some_pattern)) (pattern-sort s ds 0 last m after-else)))
      (two_said (expression-said bound (suc r) e three.0 helds.0 (omega arith) a tested.0)
      (two_said (expression-said bound then f two.1 helds.1 (omega arith) b chosen.0)
      (two_said (expression-said bound otherwise g one.1 last-held.1 (omega arith) c other.0)
      (pattern-said 0 last m three.1 (omega arith) d (λ q h. next-none s q patterns) after-else))))
  expression-said bound r (DelayExpression c e) good held low fits (one-stands x st) =
      let D = after_all at_first ds in
      let both = pass-both (constant_names D c) (expression_checks D bound e) good in
      let part = suc r + constant_leaves (leaf_counts [] ds) c in
      let parted = stands-append (suc r) (leaves_laid (suc r) (constant_values ds c)) (laid ds bound part e) st in
      let l = leaves-length (suc r) (constant_values ds c) in
      let m = constant-length T c both.0 in
      let enough = values-some ds c in
      let there : Stands s part (laid ds bound part e) = rw (l, m) at parted.1 in
      let room = room-some ds bound e in
      let b : part + room_of ds bound e ≤ count s = omega (arith, fits) in
      let a : suc r + length (constant_values ds c) ≤ count s = omega (arith, b, m) in
      let leaves-part : AllSaid s (suc r) (constant_leaves (leaf_counts [] ds) c) =
      rw m at (leaves-said (suc r) (constant_values ds c) enough (values-small c both.0) a parted.0) in
      one-said (room_of ds bound (DelayExpression c e)) (omega arith)
      (said-delay x (number-said r (number_or (type_entries ds) (constant_type ds c)) low (held_in ds declared c both.0 (passes held)))
      (higher-true s r (suc r) leafs (omega arith) (omega (arith, a, enough)) (leaves-sort s (suc r) (constant_values ds c) enough parted.0))
      (part_of bound r part e (omega arith) b there))
      (two_said leaves-part (expression-said bound part e both.1 (pass-rest held) (omega arith) b there))

header-passes : (s : List ℕ) (n a b c : ℕ) → RecordIs s 0 1 n a b c 0 → higher s 0 types n ≡ true → higher s 0 types a ≡ true
    → higher s 0 expressions b ≡ true → c ≡ count s → wrong_header s ≡ false
unfolding wrong_header well_said ask_of row_of kind_of
header-passes s n a b c x hn ha hb e = rw (x.kind-is, x.next_is, x.a-is, x.b-is, x.c-is, x.d-is, hn, ha, hb, eq-eqb c (count s) e)

-- what is said by the records of a text: its header, its types, and n records after them
pub record TextSaid (s : List ℕ) (ds : List Declaration) (n : ℕ) : Type 0 where
  pub header : wrong_header s ≡ false
  pub declared : (k : ℕ) → k < length ds → wrong_record s (1 + k) ≡ over_counted ds (suc k)
  pub expression : FewConstructors ds → AllSaid s (suc (length ds)) n

module _ (d : Declaration) (ds : List Declaration) (w : List ℕ) (p : ℕ) (e : Expression) where
  input-good : AllPass (text_checks (text d ds (identifier w p) e)) → is_declared type_role w (after_all at_first (d ∷ ds)) ≡ true
  input-good good =
      let names = (pass-both (name_checks (text d ds (identifier w p) e)) (constants_of_text (text d ds (identifier w p) e)) good).0 in
      let D = after_all at_first (d ∷ ds) in
      passes (pass-both (declarations_checks at_first (d ∷ ds)) (is_one type_role D (identifier w p) ∷ expression_checks D [] e) names).1

  held-good : AllPass (text_checks (text d ds (identifier w p) e)) → AllPass (constant_checks (d ∷ ds) e)
  held-good good = (pass-both (name_checks (text d ds (identifier w p) e)) (constants_of_text (text d ds (identifier w p) e)) good).1

  text-said : (s : List ℕ) → TablesMeant s (d ∷ ds) → AllPass (declarations_checks at_first (d ∷ ds))
      → AllPass (expression_checks (after_all at_first (d ∷ ds)) [] e) → AllPass (constant_checks (d ∷ ds) e)
      → is_declared type_role w (after_all at_first (d ∷ ds)) ≡ true
      → count s ≡ records_needed (text d ds (identifier w p) e) → Stands s 0 (text_records (text d ds (identifier w p) e))
      → TextSaid s (d ∷ ds) (room_of (d ∷ ds) [] e)
  text-said s T declared good held known c (one-stands x st) =
      let m = length (d ∷ ds) in
      let root = suc m in
      let room = room_of (d ∷ ds) [] e in
      let parted = stands-append 1 (types_laid 1 [] (d ∷ ds)) (laid (d ∷ ds) [] root e) st in
      let l = types-length 1 [] (d ∷ ds) in
      let after : 1 + m ≡ root = omega arith in
      let there : Stands s root (laid (d ∷ ds) [] root e) = rw (l, after) at parted.1 in
      let sorted : (j : ℕ) → 0 < j → j < 1 + m → sort_at s j ≡ types = λ j low high. types-sorted 1 [] (d ∷ ds) parted.0 j low high in
      let some-room = room-some (d ∷ ds) [] e in
      let a = type-in (d ∷ ds) declared w known in
      let b = a.1 in
      let fits : root + room ≤ count s = omega (arith, c) in
      let header =
      header-passes s 1 (type_number (type_entries (d ∷ ds)) w) root (records_needed (text d ds (identifier w p) e)) x
      (higher-true s 0 1 types (omega arith) (omega (arith, fits)) (sorted 1 (omega arith) (omega arith)))
      (higher-true s 0 (type_number (type_entries (d ∷ ds)) w) types a.0 (omega (arith, fits, b)) (sorted (type_number (type_entries (d ∷ ds)) w) a.0 b))
      (higher-true s 0 root expressions (omega arith) (omega (arith, fits, some-room)) (expression-sort s (d ∷ ds) [] root e there))
      (sym c) in
      record {
        header = header;
        declared = types-wrong 1 at_first [] (d ∷ ds) (omega arith) no-type no-numbers sorted declared (omega (arith, fits)) parted.0;
        expression = λ few. expression-said T sorted declared parted.0 few [] root e good held (omega arith) fits there;
      }

pub text-is-said : (ts : List Token) (d : Declaration) (ds : List Declaration) (w : List ℕ) (p : ℕ) (e : Expression)
    → ReadsText ts (text d ds (identifier w p) e) → AllPass (text_checks (text d ds (identifier w p) e))
    → TextSaid (sheet_of_text (text d ds (identifier w p) e)) (d ∷ ds) (room_of (d ∷ ds) [] e)
unfolding sheet_of_text
text-is-said ts d ds w p e rd good =
    let t = text d ds (identifier w p) e in
    let s = sheet_of (text_records t) in
    let c : count s ≡ records_needed t = sheet-count (text_records t) ∙ (Translation.kept).as_many_records ts t rd good in
    let names = names-good d ds w p e good in
    text-said d ds w p e s (in-its-sheet d ds w p e good).held names.0 names.1 (held-good d ds w p e good) (input-good d ds w p e good) c
    (sheet-stands (text_records t))
