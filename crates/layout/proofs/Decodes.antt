-- The records of a text decode to its expression with distances, whether the sheet is accepted or not. By induction on the reading: each
-- production has its record, and the records of its parts stand where that record says.
-- Assumes nothing.
use Prim.Native.Nat.{ℕ, zero, suc, ◌+◌, ◌≤◌, min}
use mathlib.Core.Path.{◌≡◌, refl, ap, ap₂, sym, ◌∙◌}
use mathlib.Core.Bool.{Bool, true, false, cond, ◌&&◌}
use mathlib.Core.List.{List, [], ◌∷◌, ◌++◌, map}
use mathlib.Core.Option.{Option, some}
use native.Mathlib.Omega.{arith}
use lib.ListN.{length, replicate, length-append, length-replicate}
use Rattle.picoella.specs.Language.{Ty, Flat, TyTuple, leaves, Expr}
use Rattle.picoella.specs.Language as Language
use Rattle.records.specs.Words.{count, word_a}
use Rattle.records.specs.Kinds.{row_of, kind_of}
use Rattle.records.specs.SheetOf.{Record, words, sheet_of}
use Rattle.records.specs.Trees.{type_at, Tree, chain_within, chain, alternatives_within, alternatives, tree_within, tree_at, circuit}
use Rattle.records.specs.Decoding.{leaf_values, pattern_of, expression_of, all_patterns, is_all_there, when_there, decode}
use Rattle.grammar.specs.Tokens.{Token}
use Rattle.grammar.specs.Source.{Identifier, identifier, Declaration, SourceConstant, OfConstructor, Undefined, ConstantPair}
use Rattle.grammar.specs.Source.{SourcePattern, Text, text}
use Rattle.grammar.specs.Source.{
  Expression,
  NameUse,
  UndefinedOf,
  PairExpression,
  FirstOf,
  SecondOf,
  LetExpression,
  LetRecExpression,
  IfExpression,
  DelayExpression,
}
use Rattle.grammar.specs.Grammar.{
  ReadsExpression,
  reads_named,
  reads_undefined_of,
  reads_pair,
  reads_first,
  reads_second,
  reads_let,
  reads_let_rec,
  reads_if,
  reads_delay,
}
use Rattle.name_rules.specs.Declared.{is_among, is_declared, at_first, type_role, constructor_role}
use Rattle.name_rules.specs.Checks.{AllPass}
use Rattle.name_rules.specs.Constants.{letters, constant_type}
use Rattle.name_rules.specs.Names.{after_all, bind, pattern_checks, constant_names, expression_checks}
use Rattle.name_rules.specs.RecordsNeeded.{leaf_count_of, leaf_counts, pattern_records, constant_leaves}
use Rattle.layout.specs.Resolved.{
  type_meant,
  type_entries,
  type_number,
  Meant,
  constructor_meant,
  constructor_entries,
  distance,
}
use Rattle.layout.specs.Distances.{constant_values, type_or, as_constant, name_meant, by_distances, unplaced, undefined_leaves_of}
use Rattle.layout.specs.Layout.{leaves_laid, constant_laid, name_laid, pattern_laid, number_or, room_of, laid}
use Rattle.layout.proofs.Standing.{RecordIs, Stands, none-stand, one-stands, stands-append}
use Rattle.layout.proofs.ConstructorTables.{pass-both, passes, pass-rest, after-new}
use Rattle.layout.proofs.Tables.{TablesMeant}
use Rattle.layout.proofs.Sizes.{leaves-length, pattern-length, constant-length, expression-length}
use Rattle.layout.proofs.PatternsRead.{chain-read, SaysPattern, pattern-read}

-- a tree that says an expression, but for the places of delays
pub record SaysExpression (s : List ℕ) (x : Tree) (e : Expr) : Type 0 where
  pub all : is_all_there x ≡ true
  pub reads : unplaced (expression_of s x) ≡ e

module _ {s : List ℕ} where
  -- a constant of one or more leaves
  constant-read : {τ : Ty} (f r t : ℕ) (vs : List ℕ) → type_at s t ≡ τ → 1 ≤ length vs → length vs ≤ count s → Stands s r (constant_laid t r vs)
      → SaysExpression s (tree_within s (suc f) r) (Language.Const τ vs)
  unfolding tree_within kind_of row_of chain
  constant-read {τ} f r t vs e enough h (one-stands x st) =
      record {
        all = rw x.kind-is;
        reads = rw (x.kind-is, x.a-is, x.b-is, e) (ap (Language.Const τ) (chain-read (count s) (suc r) vs enough h st));
      }

  name-read : (f r k : ℕ) → RecordIs s r 33 0 k 0 0 0 → SaysExpression s (tree_within s (suc f) r) (Language.Var k)
  unfolding tree_within kind_of row_of
  name-read f r k x = record { all = rw x.kind-is; reads = rw (x.kind-is, x.a-is) }

  tuple-read : {d e : Expr} (f r a b : ℕ) → RecordIs s r 34 0 a b 0 0 → SaysExpression s (tree_within s f a) d
      → SaysExpression s (tree_within s f b) e → SaysExpression s (tree_within s (suc f) r) (Language.Tuple d e)
  unfolding tree_within kind_of row_of
  tuple-read f r a b x y z =
      record {
        all = rw (x.kind-is, x.a-is, x.b-is, y.all, z.all);
        reads = rw (x.kind-is, x.a-is, x.b-is, y.reads, z.reads);
      }

  first_read : {d : Expr} (f r a : ℕ) → RecordIs s r 35 0 a 0 0 0 → SaysExpression s (tree_within s f a) d
      → SaysExpression s (tree_within s (suc f) r) (Language.Index1 d)
  unfolding tree_within kind_of row_of
  first_read f r a x y =
      record { all = rw (x.kind-is, x.a-is, y.all); reads = rw (x.kind-is, x.a-is, y.reads) }

  second-read : {d : Expr} (f r a : ℕ) → RecordIs s r 36 0 a 0 0 0 → SaysExpression s (tree_within s f a) d
      → SaysExpression s (tree_within s (suc f) r) (Language.Index2 d)
  unfolding tree_within kind_of row_of
  second-read f r a x y =
      record { all = rw (x.kind-is, x.a-is, y.all); reads = rw (x.kind-is, x.a-is, y.reads) }

  let-read : {d e : Expr} (f r a b : ℕ) → RecordIs s r 37 0 a b 0 0 → SaysExpression s (tree_within s f a) d
      → SaysExpression s (tree_within s f b) e → SaysExpression s (tree_within s (suc f) r) (Language.Let d e)
  unfolding tree_within kind_of row_of
  let-read f r a b x y z =
      record {
        all = rw (x.kind-is, x.a-is, x.b-is, y.all, z.all);
        reads = rw (x.kind-is, x.a-is, x.b-is, y.reads, z.reads);
      }

  feedback-read : {τ : Ty} {d e : Expr} (f r t a b : ℕ) → type_at s t ≡ τ → RecordIs s r 38 0 t a b 0
      → SaysExpression s (tree_within s f a) d → SaysExpression s (tree_within s f b) e
      → SaysExpression s (tree_within s (suc f) r) (Language.LetRec τ d e)
  unfolding tree_within kind_of row_of
  feedback-read f r t a b h x y z =
      record {
        all = rw (x.kind-is, x.b-is, x.c-is, y.all, z.all);
        reads = rw (x.kind-is, x.a-is, x.b-is, x.c-is, h, y.reads, z.reads);
      }

  if-read : {c d e : Expr} {p : Language.Pattern} (f r a b o q : ℕ) → RecordIs s r 39 0 a b o q → SaysExpression s (tree_within s f a) c
      → SaysPattern s (alternatives_within s (count s) q) p → SaysExpression s (tree_within s f b) d → SaysExpression s (tree_within s f o) e
      → SaysExpression s (tree_within s (suc f) r) (Language.If c p d e)
  unfolding tree_within kind_of row_of alternatives
  if-read f r a b o q x y m z u =
      record {
        all = rw (x.kind-is, x.a-is, x.b-is, x.c-is, x.d-is, y.all, m.all, z.all, u.all);
        reads = rw (x.kind-is, x.a-is, x.b-is, x.c-is, x.d-is, y.reads, m.reads, z.reads, u.reads);
      }

  delay-read : {τ : Ty} {d : Expr} (f r t c : ℕ) (vs : List ℕ) → type_at s t ≡ τ → 1 ≤ length vs → length vs ≤ count s
      → RecordIs s r 40 0 t (suc r) c 0 → Stands s (suc r) (leaves_laid (suc r) vs) → SaysExpression s (tree_within s f c) d
      → SaysExpression s (tree_within s (suc f) r) (Language.Delay [] τ vs d)
  unfolding tree_within kind_of row_of chain
  delay-read f r t c vs h enough l x st y =
      record {
        all = rw (x.kind-is, x.c-is, y.all);
        reads = rw (x.kind-is, x.a-is, x.b-is, x.c-is, h, y.reads, chain-read (count s) (suc r) vs enough l st);
      }

leaves-some : (τ : Ty) → 1 ≤ leaves τ
leaves-some (Flat r n) = omega arith
leaves-some (TyTuple σ τ) = let h = leaves-some σ in omega arith

module _ (ds : List Declaration) where
  name-some : (b c : Bool) → 1 ≤ cond b 1 (cond c 2 1)
  name-some true c = omega arith
  name-some false true = omega arith
  name-some false false = omega arith

  room-some : (bound : List (List ℕ)) (e : Expression) → 1 ≤ room_of ds bound e
  room-some bound (NameUse n) = name-some (is_among (letters n) bound) (is_declared constructor_role (letters n) (after_all at_first ds))
  room-some bound (UndefinedOf t) = omega arith
  room-some bound (PairExpression e f) = omega arith
  room-some bound (FirstOf e) = omega arith
  room-some bound (SecondOf e) = omega arith
  room-some bound (LetExpression n e f) = omega arith
  room-some bound (LetRecExpression t n e f) = omega arith
  room-some bound (IfExpression e m f g) = omega arith
  room-some bound (DelayExpression c e) = omega arith

  values-some : (c : SourceConstant) → 1 ≤ length (constant_values ds c)
  values-some (OfConstructor n) = omega arith
  values-some (Undefined t) =
      let h = leaves-some (type_meant (type_entries ds) (letters t)) in
      let e = length-replicate {A = ℕ} (min 64 (leaves (type_meant (type_entries ds) (letters t)))) 0 in
      omega arith
  values-some (ConstantPair p c d) =
      let h = values-some c in let e = length-append (constant_values ds c) (constant_values ds d) in omega arith

module _ {s : List ℕ} {ds : List Declaration} (T : TablesMeant s ds) where
  -- a name: one that a LET takes, a constructor, or `input`
  named-read : (f r : ℕ) (bound : List (List ℕ)) (w : List ℕ) → 1 ≤ count s → Stands s r (name_laid ds bound r w)
      → SaysExpression s (tree_within s (suc f) r) (name_meant ds bound w)
  named-read f r bound w few st =
      go (is_among w bound) (is_declared constructor_role w (after_all at_first ds)) st
    where
      c : Meant
      c = constructor_meant (constructor_entries ds) w

      go : (a b : Bool)
          → Stands s r
          (cond a (words 33 0 (distance w bound) 0 0 0 ∷ [])
          (cond b (constant_laid c.type r (c.number ∷ [])) (words 33 0 (distance w bound) 0 0 0 ∷ [])))
          → SaysExpression s (tree_within s (suc f) r)
          (cond a (Language.Var (distance w bound)) (cond b (as_constant c) (Language.Var (distance w bound))))
      go true b (one-stands x st) = name-read f r (distance w bound) x
      go false true st = constant-read f r c.type (c.number ∷ []) (T.constructors w) (omega arith) few st
      go false false (one-stands x st) = name-read f r (distance w bound) x

  pub expression-read : {a b : List Token} {e : Expression} (bound : List (List ℕ)) → ReadsExpression a e b → (fuel r : ℕ)
      → room_of ds bound e ≤ fuel → room_of ds bound e ≤ count s → Stands s r (laid ds bound r e)
      → AllPass (expression_checks (after_all at_first ds) bound e) → SaysExpression s (tree_within s fuel r) (by_distances ds bound e)
  expression-read {e = e} bound rd zero r h few st good =
      let enough = room-some ds bound e in let no : ⊥ = omega arith in elim no [ ]
  expression-read bound (reads_named {p} {w}) (suc f) r h few st good =
      let enough = room-some ds bound (NameUse (identifier w p)) in named-read f r bound w (omega arith) st
  expression-read bound (reads_undefined_of {q} {w = w}) (suc f) r h few st good =
      let τ = type_meant (type_entries ds) w in
      let n = leaf_count_of (leaf_counts [] ds) w in
      let c : n ≡ min 64 (leaves τ) = T.leaf-counts w (passes good) in
      let enough = leaves-some τ in
      let l = length-replicate {A = ℕ} n 0 in
      let read = constant-read f r (type_number (type_entries ds) w) (replicate n 0) (T.types w) (omega arith) (omega arith) st in
      rw c at read
  expression-read bound (reads_pair {e = e} {f = g} rd re) (suc f) r h few (one-stands x st) good =
      let D = after_all at_first ds in
      let checked = pass-both (expression_checks D bound e) (expression_checks D bound g) good in
      let second = suc r + room_of ds bound e in
      let parted = stands-append (suc r) (laid ds bound (suc r) e) (laid ds bound second g) st in
      let l = expression-length T bound (suc r) e checked.0 in
      let there : Stands s second (laid ds bound second g) = rw l at parted.1 in
      tuple-read f r (suc r) second x
      (expression-read bound rd f (suc r) (omega arith) (omega arith) parted.0 checked.0)
      (expression-read bound re f second (omega arith) (omega arith) there checked.1)
  expression-read bound (reads_first rd) (suc f) r h few (one-stands x st) good =
      first_read f r (suc r) x (expression-read bound rd f (suc r) (omega arith) (omega arith) st good)
  expression-read bound (reads_second rd) (suc f) r h few (one-stands x st) good =
      second-read f r (suc r) x (expression-read bound rd f (suc r) (omega arith) (omega arith) st good)
  expression-read bound (reads_let {s = i} {w = w} {e = e} {f = g} rd re) (suc f) r h few (one-stands x st) good =
      let D = after_all at_first ds in
      let checked = pass-both (expression_checks D bound e) (expression_checks D (w ∷ bound) g) (pass-rest good) in
      let second = suc r + room_of ds bound e in
      let parted = stands-append (suc r) (laid ds bound (suc r) e) (laid ds (w ∷ bound) second g) st in
      let l = expression-length T bound (suc r) e checked.0 in
      let there : Stands s second (laid ds (w ∷ bound) second g) = rw l at parted.1 in
      let-read f r (suc r) second x
      (expression-read bound rd f (suc r) (omega arith) (omega arith) parted.0 checked.0)
      (expression-read (w ∷ bound) re f second (omega arith) (omega arith) there checked.1)
  expression-read bound (reads_let_rec {m = m} {n = n} {e = e} {f = g} rd re) (suc f) r h few (one-stands x st) good =
      let D = after_all at_first ds in
      let checked = pass-both (expression_checks D (n ∷ bound) e) (expression_checks D (n ∷ bound) g) (pass-rest (pass-rest good)) in
      let second = suc r + room_of ds (n ∷ bound) e in
      let parted = stands-append (suc r) (laid ds (n ∷ bound) (suc r) e) (laid ds (n ∷ bound) second g) st in
      let l = expression-length T (n ∷ bound) (suc r) e checked.0 in
      let there : Stands s second (laid ds (n ∷ bound) second g) = rw l at parted.1 in
      feedback-read f r (type_number (type_entries ds) m) (suc r) second (T.types m) x
      (expression-read (n ∷ bound) rd f (suc r) (omega arith) (omega arith) parted.0 checked.0)
      (expression-read (n ∷ bound) re f second (omega arith) (omega arith) there checked.1)
  expression-read bound (reads_if {e = e} {f = g} {g = k} {m = m} rd rm re rf) (suc f) r h few (one-stands x st) good =
      let D = after_all at_first ds in
      let one = pass-both ((expression_checks D bound e ++ pattern_checks D m) ++ expression_checks D bound g) (expression_checks D bound k) good in
      let two = pass-both (expression_checks D bound e ++ pattern_checks D m) (expression_checks D bound g) one.0 in
      let three = pass-both (expression_checks D bound e) (pattern_checks D m) two.0 in
      let then = suc r + room_of ds bound e in
      let otherwise = then + room_of ds bound g in
      let last = otherwise + room_of ds bound k in
      let tested =
      stands-append (suc r) (laid ds bound (suc r) e)
      (laid ds bound then g ++ (laid ds bound otherwise k ++ pattern_laid ds 0 last m)) st in
      let a = expression-length T bound (suc r) e three.0 in
      let b = expression-length T bound then g two.1 in
      let c = expression-length T bound otherwise k one.1 in
      let after-tested : Stands s then (laid ds bound then g ++ (laid ds bound otherwise k ++ pattern_laid ds 0 last m)) =
      rw a at tested.1 in
      let chosen = stands-append then (laid ds bound then g) (laid ds bound otherwise k ++ pattern_laid ds 0 last m) after-tested in
      let after_then : Stands s otherwise (laid ds bound otherwise k ++ pattern_laid ds 0 last m) = rw b at chosen.1 in
      let other = stands-append otherwise (laid ds bound otherwise k) (pattern_laid ds 0 last m) after_then in
      let after-else : Stands s last (pattern_laid ds 0 last m) = rw c at other.1 in
      if-read f r (suc r) then otherwise last x
      (expression-read bound rd f (suc r) (omega arith) (omega arith) tested.0 three.0)
      (pattern-read T rm (count s) last (omega arith) after-else three.1)
      (expression-read bound re f then (omega arith) (omega arith) chosen.0 two.1)
      (expression-read bound rf f otherwise (omega arith) (omega arith) other.0 one.1)
  expression-read bound (reads_delay {c = c} {e = e} rc rd) (suc f) r h few (one-stands x st) good =
      let D = after_all at_first ds in
      let checked = pass-both (constant_names D c) (expression_checks D bound e) good in
      let part = suc r + constant_leaves (leaf_counts [] ds) c in
      let parted = stands-append (suc r) (leaves_laid (suc r) (constant_values ds c)) (laid ds bound part e) st in
      let l = leaves-length (suc r) (constant_values ds c) in
      let m = constant-length T c checked.0 in
      let enough = values-some ds c in
      let there : Stands s part (laid ds bound part e) = rw (l, m) at parted.1 in
      delay-read f r (number_or (type_entries ds) (constant_type ds c)) part (constant_values ds c) (T.perhaps (constant_type ds c))
      enough (omega arith) x parted.0 (expression-read bound rd f part (omega arith) (omega arith) there checked.1)
