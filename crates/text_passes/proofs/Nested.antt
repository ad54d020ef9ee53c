-- How the records of a text are nested: what a record's naming words name stands right after it,
-- each part where the one before ends. That each record is named once and the order of the walk
-- both follow.
-- Assumes nothing.
use Prim.Native.Nat.{ℕ, suc, ◌+◌, ◌-◌, ◌≤◌, min}
use mathlib.Core.Path.{◌≡◌, refl, sym, subst}
use mathlib.Core.Bool.{Bool, true, false, cond}
use mathlib.Core.List.{List, [], ◌∷◌, ◌++◌}
use native.Mathlib.Omega.{arith}
use lib.ListN.{length, replicate, length-append, length-replicate}
use Rattle.records.specs.Kinds.{row_of, ask_of}
use Rattle.records.specs.SheetOf.{words, sheet_of}
use Rattle.picoella.specs.Language.{Ty, Flat, TyTuple, leaves}
use Rattle.grammar.specs.Source.{Identifier, identifier, Declaration, Constructors, PairOf, SourceConstant, OfConstructor, Undefined, ConstantPair}
use Rattle.grammar.specs.Source.{SourcePattern, Alone, PatternPair, Either, text}
use Rattle.grammar.specs.Source.{
  Expression,
  NameUse,
  UndefinedOf,
  PairExpression,
  FirstOf,
  SecondOf,
  LetExpression,
  LetRecExpression,
  IfExpression,
  DelayExpression,
}
use Rattle.name_rules.specs.Declared.{is_among, is_declared, at_first, type_role, constructor_role}
use Rattle.name_rules.specs.Checks.{AllPass}
use Rattle.name_rules.specs.Constants.{letters}
use Rattle.name_rules.specs.Names.{after_all, bind, pattern_checks, constant_names, expression_checks, text_checks}
use Rattle.name_rules.specs.RecordsNeeded.{leaf_count_of, leaf_counts, pattern_records, constant_leaves}
use Rattle.layout.specs.Resolved.{TypeEntry, type_meant, type_entries, after_entry, distance}
use Rattle.layout.specs.Distances.{constant_values}
use Rattle.layout.specs.Layout.{types_laid, leaves_laid, constant_laid, name_laid, pattern_laid, room_of, laid, text_records, sheet_of_text}
use Rattle.layout.proofs.Standing.{RecordIs, Stands, one-stands, sheet-stands, stands-append}
use Rattle.layout.proofs.ConstructorTables.{pass-both, passes, pass-rest, after-new}
use Rattle.layout.proofs.Tables.{TablesMeant}
use Rattle.layout.proofs.Sizes.{types-length, leaves-length, pattern-length, constant-length, expression-length}
use Rattle.layout.proofs.Kept as Translation
use Rattle.layout.proofs.Kept.{names-good, in-its-sheet}
use Rattle.text_passes.specs.RecordWalk.{walk_order, named_by}

-- what each kind of record names
module _ {s : List ℕ} {r : ℕ} where
  pub by-header : {n a b c : ℕ} → RecordIs s r 1 n a b c 0 → named_by s r walk_order ≡ b ∷ n ∷ []
  unfolding ask_of row_of
  by-header x = rw (x.kind-is, x.next_is, x.b-is)

  pub by-flat : {n a : ℕ} → RecordIs s r 16 n a 0 0 0 → named_by s r walk_order ≡ n ∷ []
  unfolding ask_of row_of
  by-flat x = rw (x.kind-is, x.next_is)

  pub by-pair-type : {n a b : ℕ} → RecordIs s r 17 n a b 0 0 → named_by s r walk_order ≡ n ∷ []
  unfolding ask_of row_of
  by-pair-type x = rw (x.kind-is, x.next_is)

  pub by-constant : {a b : ℕ} → RecordIs s r 32 0 a b 0 0 → named_by s r walk_order ≡ b ∷ []
  unfolding ask_of row_of
  by-constant x = rw (x.kind-is, x.b-is)

  pub by_name : {a : ℕ} → RecordIs s r 33 0 a 0 0 0 → named_by s r walk_order ≡ []
  unfolding ask_of row_of
  by_name x = rw x.kind-is

  pub by-tuple : {a b : ℕ} → RecordIs s r 34 0 a b 0 0 → named_by s r walk_order ≡ a ∷ b ∷ []
  unfolding ask_of row_of
  by-tuple x = rw (x.kind-is, x.a-is, x.b-is)

  pub by_first : {a : ℕ} → RecordIs s r 35 0 a 0 0 0 → named_by s r walk_order ≡ a ∷ []
  unfolding ask_of row_of
  by_first x = rw (x.kind-is, x.a-is)

  pub by-second : {a : ℕ} → RecordIs s r 36 0 a 0 0 0 → named_by s r walk_order ≡ a ∷ []
  unfolding ask_of row_of
  by-second x = rw (x.kind-is, x.a-is)

  pub by-let : {a b : ℕ} → RecordIs s r 37 0 a b 0 0 → named_by s r walk_order ≡ a ∷ b ∷ []
  unfolding ask_of row_of
  by-let x = rw (x.kind-is, x.a-is, x.b-is)

  pub by-feedback : {a b c : ℕ} → RecordIs s r 38 0 a b c 0 → named_by s r walk_order ≡ b ∷ c ∷ []
  unfolding ask_of row_of
  by-feedback x = rw (x.kind-is, x.b-is, x.c-is)

  pub by_if : {a b c d : ℕ} → RecordIs s r 39 0 a b c d → named_by s r walk_order ≡ a ∷ b ∷ c ∷ d ∷ []
  unfolding ask_of row_of
  by_if x = rw (x.kind-is, x.a-is, x.b-is, x.c-is, x.d-is)

  pub by-delay : {a b c : ℕ} → RecordIs s r 40 0 a b c 0 → named_by s r walk_order ≡ b ∷ c ∷ []
  unfolding ask_of row_of
  by-delay x = rw (x.kind-is, x.b-is, x.c-is)

  pub by_whole : {n a : ℕ} → RecordIs s r 48 n a 0 0 0 → named_by s r walk_order ≡ n ∷ []
  unfolding ask_of row_of
  by_whole x = rw (x.kind-is, x.next_is)

  pub by-constructor : {n a b : ℕ} → RecordIs s r 49 n a b 0 0 → named_by s r walk_order ≡ n ∷ []
  unfolding ask_of row_of
  by-constructor x = rw (x.kind-is, x.next_is)

  pub by_parts : {n a b : ℕ} → RecordIs s r 50 n a b 0 0 → named_by s r walk_order ≡ a ∷ b ∷ n ∷ []
  unfolding ask_of row_of
  by_parts x = rw (x.kind-is, x.next_is, x.a-is, x.b-is)

  pub by-leaf : {n a : ℕ} → RecordIs s r 64 n a 0 0 0 → named_by s r walk_order ≡ n ∷ []
  unfolding ask_of row_of
  by-leaf x = rw (x.kind-is, x.next_is)

pub leaves-some : (τ : Ty) → 1 ≤ leaves τ
leaves-some (Flat r n) = omega arith
leaves-some (TyTuple σ τ) = let h = leaves-some σ in omega arith

pub values-some : (ds : List Declaration) (c : SourceConstant) → 1 ≤ length (constant_values ds c)
values-some ds (OfConstructor n) = omega arith
values-some ds (Undefined t) =
    let h = leaves-some (type_meant (type_entries ds) (letters t)) in
    let e = length-replicate {A = ℕ} (min 64 (leaves (type_meant (type_entries ds) (letters t)))) 0 in
    omega arith
values-some ds (ConstantPair p c d) =
    let h = values-some ds c in let e = length-append (constant_values ds c) (constant_values ds d) in omega arith

mutual
  pub data Nested (s : List ℕ) : (r n : ℕ) → Type 0 where
    nested : {r m : ℕ} {ws : List ℕ} → named_by s r walk_order ≡ ws → AllNested s (suc r) m ws → Nested s r (suc m)

  -- what the words name, one after the other from record p on, m records in all; a next of 0 names
  -- none
  pub data AllNested (s : List ℕ) : (p m : ℕ) → List ℕ → Type 0 where
    none-nested : {p : ℕ} → AllNested s p 0 []
    zero-nested : {p m : ℕ} {ws : List ℕ} → AllNested s p m ws → AllNested s p m (0 ∷ ws)
    part-nested : {p w n m k : ℕ} {ws : List ℕ} → w ≡ p → k ≡ n + m → Nested s p n → AllNested s (p + n) m ws → AllNested s p k (w ∷ ws)

one-nested : {s : List ℕ} {p n m : ℕ} {ws : List ℕ} → Nested s p n → AllNested s (p + n) m ws → AllNested s p (n + m) (p ∷ ws)
one-nested x more = part-nested refl refl x more

nests : {s : List ℕ} {r m : ℕ} {ws : List ℕ} (n : ℕ) → n ≡ suc m → AllNested s (suc r) m ws → named_by s r walk_order ≡ ws → Nested s r n
nests {s} {r} n e x named = subst (Nested s r) (sym e) (nested named x)

-- what a next leads to
data NextNested (s : List ℕ) : (next p k : ℕ) → Type 0 where
  no-next : {p : ℕ} → NextNested s 0 p 0
  a-next : {p k : ℕ} → Nested s p k → NextNested s p p k

as-last : {s : List ℕ} {next p k : ℕ} → NextNested s next p k → AllNested s p k (next ∷ [])
as-last no-next = zero-nested none-nested
as-last {s} {p = p} (a-next {k = k} x) = subst (λ m. AllNested s p m (p ∷ [])) (let e : k + 0 ≡ k = omega arith in e) (one-nested x none-nested)

module _ {s : List ℕ} where
  leaves-nest : (r : ℕ) (vs : List ℕ) → 1 ≤ length vs → Stands s r (leaves_laid r vs) → Nested s r (length vs)
  leaves-nest r [] enough st = let no : ⊥ = omega arith in elim no [ ]
  leaves-nest r (v ∷ []) enough (one-stands h st) = nests 1 (omega arith) (zero-nested none-nested) (by-leaf h)
  leaves-nest r (v ∷ w ∷ vs) enough (one-stands h st) =
      nests (length (v ∷ w ∷ vs)) (omega arith) (one-nested (leaves-nest (suc r) (w ∷ vs) (omega arith) st) none-nested) (by-leaf h)

  pub types-nest : (i : ℕ) (T : List TypeEntry) (ds : List Declaration) → 1 ≤ length ds → Stands s i (types_laid i T ds) → Nested s i (length ds)
  types-nest i T [] enough st = let no : ⊥ = omega arith in elim no [ ]
  types-nest i T (Constructors t c cs ∷ []) enough (one-stands h st) = nests 1 (omega arith) (zero-nested none-nested) (by-flat h)
  types-nest i T (PairOf t a b ∷ []) enough (one-stands h st) = nests 1 (omega arith) (zero-nested none-nested) (by-pair-type h)
  types-nest i T (Constructors t c cs ∷ d ∷ ds) enough (one-stands h st) =
      nests (suc (length (d ∷ ds))) (omega arith)
      (one-nested (types-nest (suc i) (after_entry i T (Constructors t c cs)) (d ∷ ds) (omega arith) st) none-nested) (by-flat h)
  types-nest i T (PairOf t a b ∷ d ∷ ds) enough (one-stands h st) =
      nests (suc (length (d ∷ ds))) (omega arith)
      (one-nested (types-nest (suc i) (after_entry i T (PairOf t a b)) (d ∷ ds) (omega arith) st) none-nested) (by-pair-type h)

  module _ (ds : List Declaration) where
    -- a pattern, with what the next of its last alternative leads to
    pattern-then : (next r : ℕ) (m : SourcePattern) → Stands s r (pattern_laid ds next r m) → (k : ℕ) → NextNested s next (r + pattern_records m) k
        → Nested s r (pattern_records m + k)
    pattern-then next r (Alone n) st k after =
        let e : r + 1 ≡ suc r = omega arith in
        nests (1 + k) (omega arith) (as-last (subst (λ p. NextNested s next p k) e after)) (go (is_declared type_role (letters n) (after_all at_first ds)) _ _ _ st)
      where
        go : (b : Bool) (t c i : ℕ) → Stands s r (cond b (words 48 next t 0 0 0 ∷ []) (words 49 next c i 0 0 ∷ [])) → named_by s r walk_order ≡ next ∷ []
        go true t c i (one-stands x st) = by_whole x
        go false t c i (one-stands x st) = by-constructor x
    pattern-then next r (PatternPair m n) (one-stands x st) k after =
        let p = pattern_records m in
        let q = pattern_records n in
        let second = suc r + p in
        let parted = stands-append (suc r) (pattern_laid ds 0 (suc r) m) (pattern_laid ds 0 second n) st in
        let l = pattern-length ds 0 (suc r) m in
        let there : Stands s second (pattern_laid ds 0 second n) = rw l at parted.1 in
        let none : (i : ℕ) → i + 0 ≡ i = λ i. omega arith in
        let one : Nested s (suc r) p = subst (Nested s (suc r)) (none p) (pattern-then 0 (suc r) m parted.0 0 no-next) in
        let two : Nested s second q = subst (Nested s second) (none q) (pattern-then 0 second n there 0 no-next) in
        let e : r + (1 + p + q) ≡ second + q = omega arith in
        nests (1 + p + q + k) (omega arith) (one-nested one (one-nested two (as-last (subst (λ i. NextNested s next i k) e after)))) (by_parts x)
    pattern-then next r (Either m n) st k after =
        let p = pattern_records m in
        let q = pattern_records n in
        let parted = stands-append r (pattern_laid ds (r + p) r m) (pattern_laid ds next (r + p) n) st in
        let l = pattern-length ds (r + p) r m in
        let there : Stands s (r + p) (pattern_laid ds next (r + p) n) = rw l at parted.1 in
        let e : r + (p + q) ≡ r + p + q = omega arith in
        let f : p + (q + k) ≡ p + q + k = omega arith in
        subst (Nested s r) f
        (pattern-then (r + p) r m parted.0 (q + k)
        (a-next (pattern-then next (r + p) n there k (subst (λ i. NextNested s next i k) e after))))

    pattern-nests : (r : ℕ) (m : SourcePattern) → Stands s r (pattern_laid ds 0 r m) → Nested s r (pattern_records m)
    pattern-nests r m st =
        let e : pattern_records m + 0 ≡ pattern_records m = omega arith in subst (Nested s r) e (pattern-then 0 r m st 0 no-next)

  module _ {ds : List Declaration} (T : TablesMeant s ds) where
    name-nests : (bound : List (List ℕ)) (r : ℕ) (w : List ℕ) → Stands s r (name_laid ds bound r w)
        → Nested s r (cond (is_among w bound) 1 (cond (is_declared constructor_role w (after_all at_first ds)) 2 1))
    name-nests bound r w st = go (is_among w bound) (is_declared constructor_role w (after_all at_first ds)) (distance w bound) _ _ st
      where
        go : (a b : Bool) (k t v : ℕ)
            → Stands s r (cond a (words 33 0 k 0 0 0 ∷ []) (cond b (constant_laid t r (v ∷ [])) (words 33 0 k 0 0 0 ∷ [])))
            → Nested s r (cond a 1 (cond b 2 1))
        go true b k t v (one-stands h st) = nests 1 (omega arith) none-nested (by_name h)
        go false true k t v (one-stands h st) =
            nests 2 (omega arith)
            (one-nested (leaves-nest (suc r) (_ ∷ []) (omega arith) st) none-nested) (by-constant h)
        go false false k t v (one-stands h st) = nests 1 (omega arith) none-nested (by_name h)

    pub expression-nests : (bound : List (List ℕ)) (r : ℕ) (e : Expression) → AllPass (expression_checks (after_all at_first ds) bound e)
        → Stands s r (laid ds bound r e) → Nested s r (room_of ds bound e)
    expression-nests bound r (NameUse n) good st = name-nests bound r (letters n) st
    expression-nests bound r (UndefinedOf (identifier w p)) good (one-stands h st) =
        let n = leaf_count_of (leaf_counts [] ds) w in
        let c : n ≡ min 64 (leaves (type_meant (type_entries ds) w)) = T.leaf-counts w (passes good) in
        let enough = leaves-some (type_meant (type_entries ds) w) in
        let l = length-replicate {A = ℕ} n 0 in
        let some : 1 ≤ length {A = ℕ} (replicate n 0) = omega (arith, c, enough, l) in
        let f : Nested s (suc r) n = rw l at (leaves-nest (suc r) (replicate n 0) some st) in
        nests (1 + n) (omega arith)
        (one-nested f none-nested) (by-constant h)
    expression-nests bound r (PairExpression e f) good (one-stands h st) =
        let D = after_all at_first ds in
        let both = pass-both (expression_checks D bound e) (expression_checks D bound f) good in
        let second = suc r + room_of ds bound e in
        let parted = stands-append (suc r) (laid ds bound (suc r) e) (laid ds bound second f) st in
        let l = expression-length T bound (suc r) e both.0 in
        let there : Stands s second (laid ds bound second f) = rw l at parted.1 in
        nests (room_of ds bound (PairExpression e f)) (omega arith)
        (one-nested (expression-nests bound (suc r) e both.0 parted.0)
        (one-nested (expression-nests bound second f both.1 there) none-nested)) (by-tuple h)
    expression-nests bound r (FirstOf e) good (one-stands h st) =
        nests (room_of ds bound (FirstOf e)) (omega arith)
        (one-nested (expression-nests bound (suc r) e good st) none-nested) (by_first h)
    expression-nests bound r (SecondOf e) good (one-stands h st) =
        nests (room_of ds bound (SecondOf e)) (omega arith)
        (one-nested (expression-nests bound (suc r) e good st) none-nested) (by-second h)
    expression-nests bound r (LetExpression n e f) good (one-stands h st) =
        let D = after_all at_first ds in
        let both = pass-both (expression_checks D bound e) (expression_checks D (bind n bound) f) (after-new D n good) in
        let second = suc r + room_of ds bound e in
        let parted = stands-append (suc r) (laid ds bound (suc r) e) (laid ds (bind n bound) second f) st in
        let l = expression-length T bound (suc r) e both.0 in
        let there : Stands s second (laid ds (bind n bound) second f) = rw l at parted.1 in
        nests (room_of ds bound (LetExpression n e f)) (omega arith)
        (one-nested (expression-nests bound (suc r) e both.0 parted.0)
        (one-nested (expression-nests (bind n bound) second f both.1 there) none-nested)) (by-let h)
    expression-nests bound r (LetRecExpression (identifier t p) n e f) good (one-stands h st) =
        let D = after_all at_first ds in
        let both = pass-both (expression_checks D (bind n bound) e) (expression_checks D (bind n bound) f) (after-new D n (pass-rest good)) in
        let second = suc r + room_of ds (bind n bound) e in
        let parted = stands-append (suc r) (laid ds (bind n bound) (suc r) e) (laid ds (bind n bound) second f) st in
        let l = expression-length T (bind n bound) (suc r) e both.0 in
        let there : Stands s second (laid ds (bind n bound) second f) = rw l at parted.1 in
        nests (room_of ds bound (LetRecExpression (identifier t p) n e f)) (omega arith)
        (one-nested (expression-nests (bind n bound) (suc r) e both.0 parted.0)
        (one-nested (expression-nests (bind n bound) second f both.1 there) none-nested)) (by-feedback h)
    expression-nests bound r (IfExpression e m f g) good (one-stands h st) =
        let D = after_all at_first ds in
        let one = pass-both ((expression_checks D bound e ++ pattern_checks D m) ++ expression_checks D bound f) (expression_checks D bound g) good in
        let two = pass-both (expression_checks D bound e ++ pattern_checks D m) (expression_checks D bound f) one.0 in
        let three = pass-both (expression_checks D bound e) (pattern_checks D m) two.0 in
        let then = suc r + room_of ds bound e in
        let otherwise = then + room_of ds bound f in
        let last = otherwise + room_of ds bound g in
        let tested = stands-append (suc r) (laid ds bound (suc r) e)
        (laid ds bound then f ++ (laid ds bound otherwise g ++ pattern_laid ds 0 last m)) st in
        let a = expression-length T bound (suc r) e three.0 in
        let b = expression-length T bound then f two.1 in
        let c = expression-length T bound otherwise g one.1 in
        let after-tested : Stands s then (laid ds bound then f ++ (laid ds bound otherwise g ++ pattern_laid ds 0 last m)) = rw a at tested.1 in
        let chosen = stands-append then (laid ds bound then f) (laid ds bound otherwise g ++ pattern_laid ds 0 last m) after-tested in
        let after_then : Stands s otherwise (laid ds bound otherwise g ++ pattern_laid ds 0 last m) = rw b at chosen.1 in
        let other = stands-append otherwise (laid ds bound otherwise g) (pattern_laid ds 0 last m) after_then in
        let after-else : Stands s last (pattern_laid ds 0 last m) = rw c at other.1 in
        let q = pattern-nests ds last m after-else in
        nests (room_of ds bound (IfExpression e m f g)) (omega arith)
        (one-nested (expression-nests bound (suc r) e three.0 tested.0)
        (one-nested (expression-nests bound then f two.1 chosen.0)
        (one-nested (expression-nests bound otherwise g one.1 other.0) (one-nested q none-nested)))) (by_if h)
    expression-nests bound r (DelayExpression c e) good (one-stands h st) =
        let D = after_all at_first ds in
        let both = pass-both (constant_names D c) (expression_checks D bound e) good in
        let part = suc r + constant_leaves (leaf_counts [] ds) c in
        let parted = stands-append (suc r) (leaves_laid (suc r) (constant_values ds c)) (laid ds bound part e) st in
        let l = leaves-length (suc r) (constant_values ds c) in
        let m = constant-length T c both.0 in
        let there : Stands s part (laid ds bound part e) = rw (l, m) at parted.1 in
        let q : Nested s (suc r) (constant_leaves (leaf_counts [] ds) c) =
        rw m at (leaves-nest (suc r) (constant_values ds c) (values-some ds c) parted.0) in
        nests (room_of ds bound (DelayExpression c e)) (omega arith)
        (one-nested q (one-nested (expression-nests bound part e both.1 there) none-nested)) (by-delay h)

-- a text: its header names the root and the first type, m types stand first, and then n records
pub record TextNested (s : List ℕ) (m n : ℕ) : Type 0 where
  pub header : named_by s 0 walk_order ≡ suc m ∷ 1 ∷ []
  pub types : Nested s 1 m
  pub expression : Nested s (suc m) n

nested-in : (s : List ℕ) (d : Declaration) (ds : List Declaration) (n : Identifier) (e : Expression) → TablesMeant s (d ∷ ds)
    → AllPass (expression_checks (after_all at_first (d ∷ ds)) [] e) → Stands s 0 (text_records (text d ds n e))
    → TextNested s (length (d ∷ ds)) (room_of (d ∷ ds) [] e)
nested-in s d ds n e T good (one-stands h st) =
    let m = length (d ∷ ds) in
    let root = suc m in
    let parted = stands-append 1 (types_laid 1 [] (d ∷ ds)) (laid (d ∷ ds) [] root e) st in
    let l = types-length 1 [] (d ∷ ds) in
    let after : 1 + m ≡ root = omega arith in
    let there : Stands s root (laid (d ∷ ds) [] root e) = rw (l, after) at parted.1 in
    record {
      header = by-header h;
      types = types-nest 1 [] (d ∷ ds) (omega arith) parted.0;
      expression = expression-nests T [] root e good there;
    }

pub text-nested : (d : Declaration) (ds : List Declaration) (w : List ℕ) (p : ℕ) (e : Expression)
    → AllPass (text_checks (text d ds (identifier w p) e))
    → TextNested (sheet_of_text (text d ds (identifier w p) e)) (length (d ∷ ds)) (room_of (d ∷ ds) [] e)
unfolding sheet_of_text
text-nested d ds w p e good =
    let t = text d ds (identifier w p) e in
    nested-in (sheet_of (text_records t)) d ds (identifier w p) e (in-its-sheet d ds w p e good).held (names-good d ds w p e good).1
    (sheet-stands (text_records t))
