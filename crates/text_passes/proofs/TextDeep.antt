-- The records of a text that are too deep: its expressions', as the text says them; no leaf,
-- pattern or type is.
-- Assumes nothing.
use Prim.Native.Nat.{ℕ, suc, ◌+◌, ◌≤◌, ◌<◌}
use mathlib.Core.Path.{◌≡◌, refl, ap, ap₂, sym, ◌∙◌}
use mathlib.Core.Bool.{Bool, true, false, cond, ◌||◌}
use mathlib.Core.List.{List, [], ◌∷◌, ◌++◌}
use mathlib.Core.Option.{Option, none, some}
use native.Mathlib.Omega.{arith}
use borrow.Author.Tests.{eq-eqb}
use lib.Dec.{ltb}
use lib.ListN.{length, replicate, length-replicate}
use Rattle.records.specs.Words.{count}
use Rattle.records.specs.Kinds.{types, row_of, kind_of, ask_of}
use Rattle.records.specs.SheetOf.{words}
use Rattle.records.specs.Says.{sort_at, names_at, namings}
use Rattle.answers.specs.Answers.{lowest}
use Rattle.structure.specs.Rules.{of_defining_part, too_deep}
use Rattle.grammar.specs.Tokens.{Token}
use Rattle.grammar.specs.Source.{Identifier, identifier, Declaration, SourcePattern, Alone, PatternPair, Either, Text, text}
use Rattle.grammar.specs.Source.{
  Expression,
  NameUse,
  UndefinedOf,
  PairExpression,
  FirstOf,
  SecondOf,
  LetExpression,
  LetRecExpression,
  IfExpression,
  DelayExpression,
}
use Rattle.grammar.specs.Grammar.{ReadsText}
use Rattle.name_rules.specs.Declared.{is_among, is_declared, at_first, type_role, constructor_role}
use Rattle.name_rules.specs.Checks.{AllPass}
use Rattle.name_rules.specs.Constants.{letters}
use Rattle.name_rules.specs.Names.{after_all, bind, pattern_checks, constant_names, expression_checks, text_checks}
use Rattle.name_rules.specs.RecordsNeeded.{leaf_count_of, leaf_counts, pattern_records, constant_leaves, records_needed}
use Rattle.layout.specs.Resolved.{distance}
use Rattle.layout.specs.Distances.{constant_values}
use Rattle.layout.specs.Layout.{types_laid, leaves_laid, constant_laid, name_laid, pattern_laid, room_of, laid, text_records, sheet_of_text}
use Rattle.layout.proofs.Standing.{RecordIs, Stands, one-stands, sheet-stands, stands-append}
use Rattle.layout.proofs.ConstructorTables.{pass-both, pass-rest, after-new}
use Rattle.layout.proofs.Tables.{TablesMeant}
use Rattle.layout.proofs.Sizes.{types-length, leaves-length, pattern-length, constant-length, expression-length}
use Rattle.layout.proofs.Kept as Translation
use Rattle.layout.proofs.Kept.{names-good, in-its-sheet}
use Rattle.text_passes.specs.TextDepths.{LaidExpression, expressions_laid, text_expressions, first_too_deep}
use Rattle.text_passes.proofs.NamedOnce.{records-counted, named_once}
use Rattle.text_passes.proofs.TypesReady.{types-sorted}
use Rattle.text_passes.proofs.SheetSaid.{room-some, expression-sort}
use Rattle.text_passes.proofs.Depths.{
  seek,
  or_later,
  later-none,
  seek-append,
  seek-lowest,
  seek-none,
  deep-append,
  one-naming,
  Lies,
  lies-deep,
  part_lies,
  root-lies,
}

-- a record of another sort is not too deep
type-shallow : (s : List ℕ) (r : ℕ) → sort_at s r ≡ types → too_deep s r ≡ false
unfolding too_deep
type-shallow s r e = rw e

leaf-shallow : {s : List ℕ} {r n a : ℕ} → RecordIs s r 64 n a 0 0 0 → too_deep s r ≡ false
unfolding too_deep kind_of row_of
leaf-shallow x = rw x.kind-is

whole-shallow : {s : List ℕ} {r n a : ℕ} → RecordIs s r 48 n a 0 0 0 → too_deep s r ≡ false
unfolding too_deep kind_of row_of
whole-shallow x = rw x.kind-is

constructor-shallow : {s : List ℕ} {r n a b : ℕ} → RecordIs s r 49 n a b 0 0 → too_deep s r ≡ false
unfolding too_deep kind_of row_of
constructor-shallow x = rw x.kind-is

parts-shallow : {s : List ℕ} {r n a b : ℕ} → RecordIs s r 50 n a b 0 0 → too_deep s r ≡ false
unfolding too_deep kind_of row_of
parts-shallow x = rw x.kind-is

header-shallow : {s : List ℕ} {r n a b c : ℕ} → RecordIs s r 1 n a b c 0 → too_deep s r ≡ false
unfolding too_deep kind_of row_of
header-shallow x = rw x.kind-is

-- which part a word names, and whether it is a defining part
module _ {s : List ℕ} {r : ℕ} where
  header-b : {n a b c : ℕ} → RecordIs s r 1 n a b c 0 → (names_at s b r 3 ≡ true) × (of_defining_part s (record { by = r; at = 3 }) ≡ false)
  unfolding kind_of ask_of row_of
  header-b {b = b} x = (rw (x.kind-is, x.b-is) (eq-eqb b b refl), rw x.kind-is)

  tuple-a : {a b : ℕ} → RecordIs s r 34 0 a b 0 0 → (names_at s a r 2 ≡ true) × (of_defining_part s (record { by = r; at = 2 }) ≡ false)
  unfolding kind_of ask_of row_of
  tuple-a {a} x = (rw (x.kind-is, x.a-is) (eq-eqb a a refl), rw x.kind-is)

  tuple-b : {a b : ℕ} → RecordIs s r 34 0 a b 0 0 → (names_at s b r 3 ≡ true) × (of_defining_part s (record { by = r; at = 3 }) ≡ false)
  unfolding kind_of ask_of row_of
  tuple-b {b = b} x = (rw (x.kind-is, x.b-is) (eq-eqb b b refl), rw x.kind-is)

  first-a : {a : ℕ} → RecordIs s r 35 0 a 0 0 0 → (names_at s a r 2 ≡ true) × (of_defining_part s (record { by = r; at = 2 }) ≡ false)
  unfolding kind_of ask_of row_of
  first-a {a} x = (rw (x.kind-is, x.a-is) (eq-eqb a a refl), rw x.kind-is)

  second-a : {a : ℕ} → RecordIs s r 36 0 a 0 0 0 → (names_at s a r 2 ≡ true) × (of_defining_part s (record { by = r; at = 2 }) ≡ false)
  unfolding kind_of ask_of row_of
  second-a {a} x = (rw (x.kind-is, x.a-is) (eq-eqb a a refl), rw x.kind-is)

  let-a : {a b : ℕ} → RecordIs s r 37 0 a b 0 0 → (names_at s a r 2 ≡ true) × (of_defining_part s (record { by = r; at = 2 }) ≡ false)
  unfolding kind_of ask_of row_of
  let-a {a} x = (rw (x.kind-is, x.a-is) (eq-eqb a a refl), rw x.kind-is)

  let-b : {a b : ℕ} → RecordIs s r 37 0 a b 0 0 → (names_at s b r 3 ≡ true) × (of_defining_part s (record { by = r; at = 3 }) ≡ false)
  unfolding kind_of ask_of row_of
  let-b {b = b} x = (rw (x.kind-is, x.b-is) (eq-eqb b b refl), rw x.kind-is)

  feedback-b : {a b c : ℕ} → RecordIs s r 38 0 a b c 0 → (names_at s b r 3 ≡ true) × (of_defining_part s (record { by = r; at = 3 }) ≡ true)
  unfolding kind_of ask_of row_of
  feedback-b {b = b} x = (rw (x.kind-is, x.b-is) (eq-eqb b b refl), rw x.kind-is)

  feedback-c : {a b c : ℕ} → RecordIs s r 38 0 a b c 0 → (names_at s c r 4 ≡ true) × (of_defining_part s (record { by = r; at = 4 }) ≡ false)
  unfolding kind_of ask_of row_of
  feedback-c {c = c} x = (rw (x.kind-is, x.c-is) (eq-eqb c c refl), rw x.kind-is)

  if-a : {a b c d : ℕ} → RecordIs s r 39 0 a b c d → (names_at s a r 2 ≡ true) × (of_defining_part s (record { by = r; at = 2 }) ≡ false)
  unfolding kind_of ask_of row_of
  if-a {a} x = (rw (x.kind-is, x.a-is) (eq-eqb a a refl), rw x.kind-is)

  if-b : {a b c d : ℕ} → RecordIs s r 39 0 a b c d → (names_at s b r 3 ≡ true) × (of_defining_part s (record { by = r; at = 3 }) ≡ false)
  unfolding kind_of ask_of row_of
  if-b {b = b} x = (rw (x.kind-is, x.b-is) (eq-eqb b b refl), rw x.kind-is)

  if-c : {a b c d : ℕ} → RecordIs s r 39 0 a b c d → (names_at s c r 4 ≡ true) × (of_defining_part s (record { by = r; at = 4 }) ≡ false)
  unfolding kind_of ask_of row_of
  if-c {c = c} x = (rw (x.kind-is, x.c-is) (eq-eqb c c refl), rw x.kind-is)

  delay-c : {a b c : ℕ} → RecordIs s r 40 0 a b c 0 → (names_at s c r 4 ≡ true) × (of_defining_part s (record { by = r; at = 4 }) ≡ false)
  unfolding kind_of ask_of row_of
  delay-c {c = c} x = (rw (x.kind-is, x.c-is) (eq-eqb c c refl), rw x.kind-is)

leaves-shallow : {s : List ℕ} (r : ℕ) (vs : List ℕ) → Stands s r (leaves_laid r vs) → seek (too_deep s) r (length vs) ≡ none
leaves-shallow r [] st = refl
leaves-shallow r (v ∷ []) (one-stands x st) = rw (leaf-shallow x)
leaves-shallow r (v ∷ w ∷ vs) (one-stands x st) = rw (leaf-shallow x) (leaves-shallow (suc r) (w ∷ vs) st)

both_none : (p : ℕ → Bool) (r m n : ℕ) → seek p r m ≡ none → seek p (r + m) n ≡ none → seek p r (m + n) ≡ none
both_none p r m n x y = seek-append p r m n ∙ rw (x, y)

pattern-shallow : {s : List ℕ} (ds : List Declaration) (next r : ℕ) (m : SourcePattern) → Stands s r (pattern_laid ds next r m)
    → seek (too_deep s) r (pattern_records m) ≡ none
pattern-shallow {s} ds next r (Alone n) st = go (is_declared type_role (letters n) (after_all at_first ds)) _ _ _ st
  where
    go : (b : Bool) (t c k : ℕ) → Stands s r (cond b (words 48 next t 0 0 0 ∷ []) (words 49 next c k 0 0 ∷ [])) → seek (too_deep s) r 1 ≡ none
    go true t c k (one-stands x st) = rw (whole-shallow x)
    go false t c k (one-stands x st) = rw (constructor-shallow x)
pattern-shallow {s} ds next r (PatternPair m n) (one-stands x st) =
    let p = pattern_records m in
    let q = pattern_records n in
    let parted = stands-append (suc r) (pattern_laid ds 0 (suc r) m) (pattern_laid ds 0 (suc r + p) n) st in
    let l = pattern-length ds 0 (suc r) m in
    let there : Stands s (suc r + p) (pattern_laid ds 0 (suc r + p) n) = rw l at parted.1 in
    let e : 1 + p + q ≡ suc (p + q) = omega arith in
    rw (e, parts-shallow x)
    (both_none (too_deep s) (suc r) p q (pattern-shallow ds 0 (suc r) m parted.0) (pattern-shallow ds 0 (suc r + p) n there))
pattern-shallow {s} ds next r (Either m n) st =
    let p = pattern_records m in
    let parted = stands-append r (pattern_laid ds (r + p) r m) (pattern_laid ds next (r + p) n) st in
    let l = pattern-length ds (r + p) r m in
    let there : Stands s (r + p) (pattern_laid ds next (r + p) n) = rw l at parted.1 in
    both_none (too_deep s) r p (pattern_records n) (pattern-shallow ds (r + p) r m parted.0) (pattern-shallow ds next (r + p) n there)

node : (p : ℕ → Bool) (r n m : ℕ) (b : Bool) (o : Option ℕ) → n ≡ suc m → p r ≡ b → seek p (suc r) m ≡ o → seek p r n ≡ cond b (some r) o
node p r n m b o e h x = rw (e, h, x)

two : (p : ℕ → Bool) (q m n : ℕ) (L M : List LaidExpression) → seek p q m ≡ first_too_deep L → seek p (q + m) n ≡ first_too_deep M
    → seek p q (m + n) ≡ first_too_deep (L ++ M)
two p q m n L M x y = seek-append p q m n ∙ ap₂ or_later x y ∙ sym (deep-append L M)

module _ {s : List ℕ} {ds : List Declaration} (T : TablesMeant s ds) (once : (q : ℕ) → 0 < q → q < count s → length (namings s q) ≡ 1) where
  down : {r k f : ℕ} (q w : ℕ) (b : Bool) → (names_at s q r w ≡ true) × (of_defining_part s (record { by = r; at = w }) ≡ b) → 0 < w → w ≤ 5
      → 0 < r → r < q → q < count s → Lies s r k f → Lies s q (suc k) (cond b (suc f) f)
  down {r} q w b x low high past above there lies =
      part_lies q w b (one-naming s q r w (once q (omega (arith, past, above)) there) x.0 low high (omega (arith, above, there))) above past lies x.1

  own : (bound : List (List ℕ)) (r k f : ℕ) (e : Expression) → Stands s r (laid ds bound r e) → Lies s r k f → too_deep s r ≡ (ltb 64 k || ltb 3 f)
  own bound r k f e st lies = lies-deep lies (expression-sort s ds bound r e st)

  name-deep : (bound : List (List ℕ)) (r k f : ℕ) (w : List ℕ) → Stands s r (name_laid ds bound r w) → too_deep s r ≡ (ltb 64 k || ltb 3 f)
      → seek (too_deep s) r (cond (is_among w bound) 1 (cond (is_declared constructor_role w (after_all at_first ds)) 2 1))
      ≡ cond (ltb 64 k || ltb 3 f) (some r) none
  name-deep bound r k f w st h = go (is_among w bound) (is_declared constructor_role w (after_all at_first ds)) (distance w bound) _ _ st
    where
      go : (a b : Bool) (i t v : ℕ)
          → Stands s r (cond a (words 33 0 i 0 0 0 ∷ []) (cond b (constant_laid t r (v ∷ [])) (words 33 0 i 0 0 0 ∷ [])))
          → seek (too_deep s) r (cond a 1 (cond b 2 1)) ≡ cond (ltb 64 k || ltb 3 f) (some r) none
      go true b i t v st = node (too_deep s) r 1 0 (ltb 64 k || ltb 3 f) none (omega arith) h refl
      go false true i t v (one-stands x st) =
          node (too_deep s) r 2 1 (ltb 64 k || ltb 3 f) none (omega arith) h (leaves-shallow (suc r) (v ∷ []) st)
      go false false i t v st = node (too_deep s) r 1 0 (ltb 64 k || ltb 3 f) none (omega arith) h refl

  deep-at : (bound : List (List ℕ)) (r k f : ℕ) (e : Expression) → AllPass (expression_checks (after_all at_first ds) bound e)
      → Stands s r (laid ds bound r e) → 0 < r → r + room_of ds bound e ≤ count s → Lies s r k f → too_deep s r ≡ (ltb 64 k || ltb 3 f)
      → seek (too_deep s) r (room_of ds bound e) ≡ first_too_deep (expressions_laid ds bound r k f e)
  deep-at bound r k f (NameUse n) good st past fits lies h = name-deep bound r k f (letters n) st h
  deep-at bound r k f (UndefinedOf (identifier w p)) good (one-stands x st) past fits lies h =
      let n = leaf_count_of (leaf_counts [] ds) w in
      let l = length-replicate {A = ℕ} n 0 in
      let none_in : seek (too_deep s) (suc r) n ≡ none = rw l at (leaves-shallow (suc r) (replicate n 0) st) in
      node (too_deep s) r (1 + n) n (ltb 64 k || ltb 3 f) none (omega arith) h none_in
  deep-at bound r k f (PairExpression e g) good (one-stands x st) past fits lies h =
      let D = after_all at_first ds in
      let both = pass-both (expression_checks D bound e) (expression_checks D bound g) good in
      let second = suc r + room_of ds bound e in
      let parted = stands-append (suc r) (laid ds bound (suc r) e) (laid ds bound second g) st in
      let l = expression-length T bound (suc r) e both.0 in
      let there : Stands s second (laid ds bound second g) = rw l at parted.1 in
      let i = room-some ds bound e in
      let j = room-some ds bound g in
      let one = down (suc r) 2 false (tuple-a x) (omega arith) (omega arith) past (omega arith) (omega (arith, fits, i)) lies in
      let two-lies = down second 3 false (tuple-b x) (omega arith) (omega arith) past (omega arith) (omega (arith, fits, j)) lies in
      node (too_deep s) r (room_of ds bound (PairExpression e g)) (room_of ds bound e + room_of ds bound g) (ltb 64 k || ltb 3 f) _ (omega arith) h
      (two (too_deep s) (suc r) (room_of ds bound e) (room_of ds bound g)
      (expressions_laid ds bound (suc r) (suc k) f e) (expressions_laid ds bound second (suc k) f g)
      (deep-at bound (suc r) (suc k) f e both.0 parted.0 (omega arith) (omega (arith, fits)) one (own bound (suc r) (suc k) f e parted.0 one))
      (deep-at bound second (suc k) f g both.1 there (omega arith) (omega (arith, fits)) two-lies (own bound second (suc k) f g there two-lies)))
  deep-at bound r k f (FirstOf e) good (one-stands x st) past fits lies h =
      let i = room-some ds bound e in
      let one = down (suc r) 2 false (first-a x) (omega arith) (omega arith) past (omega arith) (omega (arith, fits, i)) lies in
      node (too_deep s) r (room_of ds bound (FirstOf e)) (room_of ds bound e) (ltb 64 k || ltb 3 f) _ (omega arith) h
      (deep-at bound (suc r) (suc k) f e good st (omega arith) (omega (arith, fits)) one (own bound (suc r) (suc k) f e st one))
  deep-at bound r k f (SecondOf e) good (one-stands x st) past fits lies h =
      let i = room-some ds bound e in
      let one = down (suc r) 2 false (second-a x) (omega arith) (omega arith) past (omega arith) (omega (arith, fits, i)) lies in
      node (too_deep s) r (room_of ds bound (SecondOf e)) (room_of ds bound e) (ltb 64 k || ltb 3 f) _ (omega arith) h
      (deep-at bound (suc r) (suc k) f e good st (omega arith) (omega (arith, fits)) one (own bound (suc r) (suc k) f e st one))
  deep-at bound r k f (LetExpression n e g) good (one-stands x st) past fits lies h =
      let D = after_all at_first ds in
      let inner = bind n bound in
      let both = pass-both (expression_checks D bound e) (expression_checks D inner g) (after-new D n good) in
      let second = suc r + room_of ds bound e in
      let parted = stands-append (suc r) (laid ds bound (suc r) e) (laid ds inner second g) st in
      let l = expression-length T bound (suc r) e both.0 in
      let there : Stands s second (laid ds inner second g) = rw l at parted.1 in
      let i = room-some ds bound e in
      let j = room-some ds inner g in
      let one = down (suc r) 2 false (let-a x) (omega arith) (omega arith) past (omega arith) (omega (arith, fits, i)) lies in
      let two-lies = down second 3 false (let-b x) (omega arith) (omega arith) past (omega arith) (omega (arith, fits, j)) lies in
      node (too_deep s) r (room_of ds bound (LetExpression n e g)) (room_of ds bound e + room_of ds inner g) (ltb 64 k || ltb 3 f) _ (omega arith) h
      (two (too_deep s) (suc r) (room_of ds bound e) (room_of ds inner g)
      (expressions_laid ds bound (suc r) (suc k) f e) (expressions_laid ds inner second (suc k) f g)
      (deep-at bound (suc r) (suc k) f e both.0 parted.0 (omega arith) (omega (arith, fits)) one (own bound (suc r) (suc k) f e parted.0 one))
      (deep-at inner second (suc k) f g both.1 there (omega arith) (omega (arith, fits)) two-lies (own inner second (suc k) f g there two-lies)))
  deep-at bound r k f (LetRecExpression (identifier t p) n e g) good (one-stands x st) past fits lies h =
      let D = after_all at_first ds in
      let inner = bind n bound in
      let both = pass-both (expression_checks D inner e) (expression_checks D inner g) (after-new D n (pass-rest good)) in
      let second = suc r + room_of ds inner e in
      let parted = stands-append (suc r) (laid ds inner (suc r) e) (laid ds inner second g) st in
      let l = expression-length T inner (suc r) e both.0 in
      let there : Stands s second (laid ds inner second g) = rw l at parted.1 in
      let i = room-some ds inner e in
      let j = room-some ds inner g in
      let one = down (suc r) 3 true (feedback-b x) (omega arith) (omega arith) past (omega arith) (omega (arith, fits, i)) lies in
      let two-lies = down second 4 false (feedback-c x) (omega arith) (omega arith) past (omega arith) (omega (arith, fits, j)) lies in
      node (too_deep s) r (room_of ds bound (LetRecExpression (identifier t p) n e g)) (room_of ds inner e + room_of ds inner g)
      (ltb 64 k || ltb 3 f) _ (omega arith) h
      (two (too_deep s) (suc r) (room_of ds inner e) (room_of ds inner g)
      (expressions_laid ds inner (suc r) (suc k) (suc f) e) (expressions_laid ds inner second (suc k) f g)
      (deep-at inner (suc r) (suc k) (suc f) e both.0 parted.0
      (omega arith) (omega (arith, fits)) one (own inner (suc r) (suc k) (suc f) e parted.0 one))
      (deep-at inner second (suc k) f g both.1 there (omega arith) (omega (arith, fits)) two-lies (own inner second (suc k) f g there two-lies)))
  deep-at bound r k f (IfExpression e m g i) good (one-stands x st) past fits lies h =
      let D = after_all at_first ds in
      let one = pass-both ((expression_checks D bound e ++ pattern_checks D m) ++ expression_checks D bound g) (expression_checks D bound i) good in
      let two-Good = pass-both (expression_checks D bound e ++ pattern_checks D m) (expression_checks D bound g) one.0 in
      let three = pass-both (expression_checks D bound e) (pattern_checks D m) two-Good.0 in
      let a = room_of ds bound e in
      let b = room_of ds bound g in
      let c = room_of ds bound i in
      let then = suc r + a in
      let otherwise = then + b in
      let last = otherwise + c in
      let tested = stands-append (suc r) (laid ds bound (suc r) e) (laid ds bound then g ++ (laid ds bound otherwise i ++ pattern_laid ds 0 last m)) st in
      let la = expression-length T bound (suc r) e three.0 in
      let lb = expression-length T bound then g two-Good.1 in
      let lc = expression-length T bound otherwise i one.1 in
      let after-tested : Stands s then (laid ds bound then g ++ (laid ds bound otherwise i ++ pattern_laid ds 0 last m)) = rw la at tested.1 in
      let chosen = stands-append then (laid ds bound then g) (laid ds bound otherwise i ++ pattern_laid ds 0 last m) after-tested in
      let after_then : Stands s otherwise (laid ds bound otherwise i ++ pattern_laid ds 0 last m) = rw lb at chosen.1 in
      let other = stands-append otherwise (laid ds bound otherwise i) (pattern_laid ds 0 last m) after_then in
      let after-else : Stands s last (pattern_laid ds 0 last m) = rw lc at other.1 in
      let ra = room-some ds bound e in
      let rb = room-some ds bound g in
      let rc = room-some ds bound i in
      let x1 = down (suc r) 2 false (if-a x) (omega arith) (omega arith) past (omega arith) (omega (arith, fits, ra)) lies in
      let x2 = down then 3 false (if-b x) (omega arith) (omega arith) past (omega arith) (omega (arith, fits, rb)) lies in
      let x3 = down otherwise 4 false (if-c x) (omega arith) (omega arith) past (omega arith) (omega (arith, fits, rc)) lies in
      let d1 = deep-at bound (suc r) (suc k) f e three.0 tested.0 (omega arith) (omega (arith, fits)) x1 (own bound (suc r) (suc k) f e tested.0 x1) in
      let d2 = deep-at bound then (suc k) f g two-Good.1 chosen.0 (omega arith) (omega (arith, fits)) x2 (own bound then (suc k) f g chosen.0 x2) in
      let d3 = deep-at bound otherwise (suc k) f i one.1 other.0 (omega arith) (omega (arith, fits)) x3 (own bound otherwise (suc k) f i other.0 x3) in
      let q = pattern_records m in
      let d4 : seek (too_deep s) otherwise (c + q) ≡ first_too_deep (expressions_laid ds bound otherwise (suc k) f i) =
      seek-append (too_deep s) otherwise c q ∙ ap (or_later (seek (too_deep s) otherwise c)) (pattern-shallow ds 0 last m after-else)
      ∙ later-none (seek (too_deep s) otherwise c) ∙ d3 in
      node (too_deep s) r (room_of ds bound (IfExpression e m g i)) (a + (b + (c + q))) (ltb 64 k || ltb 3 f) _ (omega arith) h
      (two (too_deep s) (suc r) a (b + (c + q)) (expressions_laid ds bound (suc r) (suc k) f e)
      (expressions_laid ds bound then (suc k) f g ++ expressions_laid ds bound otherwise (suc k) f i) d1
      (two (too_deep s) then b (c + q) (expressions_laid ds bound then (suc k) f g) (expressions_laid ds bound otherwise (suc k) f i) d2 d4))
  deep-at bound r k f (DelayExpression c e) good (one-stands x st) past fits lies h =
      let D = after_all at_first ds in
      let both = pass-both (constant_names D c) (expression_checks D bound e) good in
      let n = constant_leaves (leaf_counts [] ds) c in
      let part = suc r + n in
      let parted = stands-append (suc r) (leaves_laid (suc r) (constant_values ds c)) (laid ds bound part e) st in
      let l = leaves-length (suc r) (constant_values ds c) in
      let m = constant-length T c both.0 in
      let there : Stands s part (laid ds bound part e) = rw (l, m) at parted.1 in
      let i = room-some ds bound e in
      let lies-there = down part 4 false (delay-c x) (omega arith) (omega arith) past (omega arith) (omega (arith, fits, i)) lies in
      let none_in : seek (too_deep s) (suc r) n ≡ none = rw m at (leaves-shallow (suc r) (constant_values ds c) parted.0) in
      node (too_deep s) r (room_of ds bound (DelayExpression c e)) (n + room_of ds bound e) (ltb 64 k || ltb 3 f) _ (omega arith) h
      (two (too_deep s) (suc r) n (room_of ds bound e) [] (expressions_laid ds bound part (suc k) f e) none_in
      (deep-at bound part (suc k) f e both.1 there (omega arith) (omega (arith, fits)) lies-there (own bound part (suc k) f e there lies-there)))

-- all records of a text
text-deep : (s : List ℕ) (d : Declaration) (ds : List Declaration) (n : Identifier) (e : Expression) → TablesMeant s (d ∷ ds)
    → ((q : ℕ) → 0 < q → q < count s → length (namings s q) ≡ 1) → AllPass (expression_checks (after_all at_first (d ∷ ds)) [] e)
    → count s ≡ records_needed (text d ds n e) → Stands s 0 (text_records (text d ds n e))
    → lowest (too_deep s) (count s) ≡ first_too_deep (text_expressions (text d ds n e))
text-deep s d ds n e T once good c (one-stands x st) =
    let m = length (d ∷ ds) in
    let root = suc m in
    let room = room_of (d ∷ ds) [] e in
    let parted = stands-append 1 (types_laid 1 [] (d ∷ ds)) (laid (d ∷ ds) [] root e) st in
    let l = types-length 1 [] (d ∷ ds) in
    let after : 1 + m ≡ root = omega arith in
    let there : Stands s root (laid (d ∷ ds) [] root e) = rw (l, after) at parted.1 in
    let i = room-some (d ∷ ds) [] e in
    let named = header-b x in
    let lies =
    root-lies root 3 (one-naming s root 0 3 (once root (omega arith) (omega (arith, c, i))) named.0 (omega arith) (omega arith) (omega (arith, c)))
    (omega arith) named.1 in
    let deep : seek (too_deep s) root room ≡ first_too_deep (text_expressions (text d ds n e)) =
    deep-at T once [] root 1 0 e good there (omega arith) (omega (arith, c)) lies (own T once [] root 1 0 e there lies) in
    let types-none : seek (too_deep s) 1 m ≡ none =
    seek-none (too_deep s) 1 m (λ q low high. type-shallow s q (types-sorted 1 [] (d ∷ ds) parted.0 q low high)) in
    let both : seek (too_deep s) 1 (m + room) ≡ seek (too_deep s) root room =
    seek-append (too_deep s) 1 m room ∙ ap (λ o. or_later o (seek (too_deep s) (1 + m) room)) types-none ∙ ap (λ q. seek (too_deep s) q room) after in
    let size : count s ≡ suc (m + room) = c ∙ omega arith in
    seek-lowest (too_deep s) (count s)
    ∙ node (too_deep s) 0 (count s) (m + room) false (seek (too_deep s) 1 (m + room)) size (header-shallow x) refl
    ∙ both ∙ deep

tables : (d : Declaration) (ds : List Declaration) (w : List ℕ) (p : ℕ) (e : Expression) → AllPass (text_checks (text d ds (identifier w p) e))
    → TablesMeant (sheet_of_text (text d ds (identifier w p) e)) (d ∷ ds)
unfolding sheet_of_text
tables d ds w p e good = (in-its-sheet d ds w p e good).held

stand : (t : Text) → Stands (sheet_of_text t) 0 (text_records t)
unfolding sheet_of_text
stand t = sheet-stands (text_records t)

pub deep-as : (ts : List Token) (d : Declaration) (ds : List Declaration) (w : List ℕ) (p : ℕ) (e : Expression)
    → ReadsText ts (text d ds (identifier w p) e) → AllPass (text_checks (text d ds (identifier w p) e))
    → lowest (too_deep (sheet_of_text (text d ds (identifier w p) e))) (count (sheet_of_text (text d ds (identifier w p) e)))
    ≡ first_too_deep (text_expressions (text d ds (identifier w p) e))
deep-as ts d ds w p e rd good =
    let t = text d ds (identifier w p) e in
    text-deep (sheet_of_text t) d ds (identifier w p) e (tables d ds w p e good) (named_once ts t rd good) (names-good d ds w p e good).1
    (records-counted t ∙ (Translation.kept).as_many_records ts t rd good) (stand t)
