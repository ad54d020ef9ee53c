-- As many records are laid as are counted, where the names are good.
-- Assumes nothing.
use Prim.Native.Nat.{ℕ, suc, ◌+◌, min}
use mathlib.Core.Path.{◌≡◌, refl, ap, ap₂, sym, ◌∙◌}
use mathlib.Core.Bool.{Bool, true, false, cond}
use mathlib.Core.List.{List, [], ◌∷◌, ◌++◌}
use native.Mathlib.Omega.{arith}
use lib.ListN.{length, replicate, length-append, length-replicate}
use Rattle.records.specs.SheetOf.{Record, words}
use Rattle.picoella.specs.Language.{leaves}
use Rattle.grammar.specs.Source.{Identifier, identifier, Declaration, Constructors, PairOf, SourceConstant, OfConstructor, Undefined, ConstantPair}
use Rattle.grammar.specs.Source.{SourcePattern, Alone, PatternPair, Either, Text, text}
use Rattle.grammar.specs.Source.{
  Expression,
  NameUse,
  UndefinedOf,
  PairExpression,
  FirstOf,
  SecondOf,
  LetExpression,
  LetRecExpression,
  IfExpression,
  DelayExpression,
}
use Rattle.name_rules.specs.Declared.{is_among, is_declared, at_first, type_role, constructor_role}
use Rattle.name_rules.specs.Checks.{AllPass}
use Rattle.name_rules.specs.Constants.{letters}
use Rattle.name_rules.specs.Names.{after_all, bind, is_one, is_new, pattern_checks, constant_names, expression_checks}
use Rattle.name_rules.specs.RecordsNeeded.{leaf_count_of, leaf_counts, pattern_records, constant_leaves}
use Rattle.layout.specs.Resolved.{TypeEntry, type_meant, type_entries, constructor_meant, constructor_entries, distance, after_entry}
use Rattle.layout.specs.Distances.{constant_values}
use Rattle.layout.specs.Layout.{types_laid, leaves_laid, room_of, pattern_laid, name_laid, constant_laid, laid}
use Rattle.layout.proofs.ConstructorTables.{pass-both, passes, pass-rest, after-new}
use Rattle.layout.proofs.Tables.{TablesMeant}

pub types-length : (i : ℕ) (T : List TypeEntry) (ds : List Declaration) → length (types_laid i T ds) ≡ length ds
types-length i T [] = refl
types-length i T (Constructors t c cs ∷ ds) = ap suc (types-length (suc i) (after_entry i T (Constructors t c cs)) ds)
types-length i T (PairOf t a b ∷ ds) = ap suc (types-length (suc i) (after_entry i T (PairOf t a b)) ds)

pub leaves-length : (r : ℕ) (vs : List ℕ) → length (leaves_laid r vs) ≡ length vs
leaves-length r [] = refl
leaves-length r (v ∷ []) = refl
leaves-length r (v ∷ w ∷ vs) = ap suc (leaves-length (suc r) (w ∷ vs))

either-length : (b : Bool) (xs ys : List Record) → length (cond b xs ys) ≡ cond b (length xs) (length ys)
either-length true xs ys = refl
either-length false xs ys = refl

either-one : (b : Bool) → ◌≡◌ {A = ℕ} (cond b 1 1) 1
either-one true = refl
either-one false = refl

module _ (ds : List Declaration) where
  pub pattern-length : (next r : ℕ) (m : SourcePattern) → length (pattern_laid ds next r m) ≡ pattern_records m
  pattern-length next r (Alone n) =
      either-length (is_declared type_role (letters n) (after_all at_first ds)) (_ ∷ []) (_ ∷ [])
      ∙ either-one (is_declared type_role (letters n) (after_all at_first ds))
  pattern-length next r (PatternPair m n) =
      let f = pattern-length 0 (suc r) m in
      let g = pattern-length 0 (suc r + pattern_records m) n in
      rw (length-append, f, g) (omega arith)
  pattern-length next r (Either m n) =
      let f = pattern-length (r + pattern_records m) r m in
      let g = pattern-length next (r + pattern_records m) n in
      rw (length-append, f, g)

module _ {s : List ℕ} {ds : List Declaration} (T : TablesMeant s ds) where
  pub constant-length : (c : SourceConstant) → AllPass (constant_names (after_all at_first ds) c)
      → length (constant_values ds c) ≡ constant_leaves (leaf_counts [] ds) c
  constant-length (OfConstructor n) h = refl
  constant-length (Undefined (identifier w p)) h =
      length-replicate (min 64 (leaves (type_meant (type_entries ds) w))) 0 ∙ sym (T.leaf-counts w (passes h))
  constant-length (ConstantPair p c d) h =
      let both = pass-both (constant_names (after_all at_first ds) c) (constant_names (after_all at_first ds) d) h in
      let f = constant-length c both.0 in
      let g = constant-length d both.1 in
      rw (length-append, f, g)

  pub expression-length : (bound : List (List ℕ)) (r : ℕ) (e : Expression) → AllPass (expression_checks (after_all at_first ds) bound e)
      → length (laid ds bound r e) ≡ room_of ds bound e
  expression-length bound r (NameUse n) h =
      either-length (is_among (letters n) bound) (_ ∷ []) (cond (is_declared constructor_role (letters n) (after_all at_first ds)) _ _)
      ∙ ap (cond (is_among (letters n) bound) 1)
      (either-length (is_declared constructor_role (letters n) (after_all at_first ds)) (_ ∷ _ ∷ []) (_ ∷ []))
  expression-length bound r (UndefinedOf t) h =
      let n = leaf_count_of (leaf_counts [] ds) (letters t) in
      let e = leaves-length (suc r) (replicate n 0) ∙ length-replicate n 0 in
      rw e (omega arith)
  expression-length bound r (PairExpression e f) h =
      let both = pass-both (expression_checks (after_all at_first ds) bound e) (expression_checks (after_all at_first ds) bound f) h in
      let x = expression-length bound (suc r) e both.0 in
      let y = expression-length bound (suc r + room_of ds bound e) f both.1 in
      rw (length-append, x, y) (omega arith)
  expression-length bound r (FirstOf e) h = let x = expression-length bound (suc r) e h in rw x (omega arith)
  expression-length bound r (SecondOf e) h = let x = expression-length bound (suc r) e h in rw x (omega arith)
  expression-length bound r (LetExpression n e f) h =
      let both =
      pass-both (expression_checks (after_all at_first ds) bound e) (expression_checks (after_all at_first ds) (bind n bound) f) (after-new (after_all at_first ds) n h) in
      let x = expression-length bound (suc r) e both.0 in
      let y = expression-length (bind n bound) (suc r + room_of ds bound e) f both.1 in
      rw (length-append, x, y) (omega arith)
  expression-length bound r (LetRecExpression (identifier t p) n e f) h =
      let both =
      pass-both (expression_checks (after_all at_first ds) (bind n bound) e) (expression_checks (after_all at_first ds) (bind n bound) f)
      (after-new (after_all at_first ds) n (pass-rest h)) in
      let x = expression-length (bind n bound) (suc r) e both.0 in
      let y = expression-length (bind n bound) (suc r + room_of ds (bind n bound) e) f both.1 in
      rw (length-append, x, y) (omega arith)
  expression-length bound r (IfExpression e m f g) h =
      let D = after_all at_first ds in
      let one =
      pass-both ((expression_checks D bound e ++ pattern_checks D m) ++ expression_checks D bound f) (expression_checks D bound g) h in
      let two = pass-both (expression_checks D bound e ++ pattern_checks D m) (expression_checks D bound f) one.0 in
      let three = pass-both (expression_checks D bound e) (pattern_checks D m) two.0 in
      let then = suc r + room_of ds bound e in
      let otherwise = then + room_of ds bound f in
      let x = expression-length bound (suc r) e three.0 in
      let y = expression-length bound then f two.1 in
      let z = expression-length bound otherwise g one.1 in
      let p = pattern-length ds 0 (otherwise + room_of ds bound g) m in
      simp (length-append, x, y, z, p) (omega arith)
  expression-length bound r (DelayExpression c e) h =
      let both = pass-both (constant_names (after_all at_first ds) c) (expression_checks (after_all at_first ds) bound e) h in
      let x = constant-length c both.0 in
      let y = expression-length bound (suc r + constant_leaves (leaf_counts [] ds) c) e both.1 in
      rw (length-append, leaves-length, x, y) (omega arith)
