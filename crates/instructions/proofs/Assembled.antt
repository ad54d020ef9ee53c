-- What the instructions of a text whose names are good are assembled to.
-- Assumes nothing.
use Prim.Native.Nat.{ℕ, ◌+◌}
use native.Mathlib.Omega.{arith}
use mathlib.Core.Path.{◌≡◌, refl, sym, ap, ap₂, ◌∙◌}
use mathlib.Core.Bool.{Bool, true, false, cond}
use mathlib.Core.List.{List, [], ◌∷◌, ◌++◌}
use mathlib.Core.Option.{Option, none}
use mathlib.Core.Logic.{◌⊎◌, inl, inr}
use Rattle.grammar.specs.Source.{Identifier, identifier, Declaration, SourceConstant, OfConstructor, Undefined, ConstantPair}
use Rattle.grammar.specs.Source.{text}
use Rattle.grammar.specs.Source.{
  Expression,
  NameUse,
  UndefinedOf,
  PairExpression,
  FirstOf,
  SecondOf,
  LetExpression,
  LetRecExpression,
  IfExpression,
  DelayExpression,
}
use Rattle.name_rules.specs.Declared.{is_among, is_declared, type_role, constructor_role, at_first}
use Rattle.name_rules.specs.Checks.{check_at, AllPass, first_bad_place}
use Rattle.name_rules.specs.Constants.{letters, constant_type, is_typed, constant_place, constant_checks, constants_of_text}
use Rattle.name_rules.specs.Names.{after_all, bind, is_one, declarations_checks, pattern_checks, constant_names, expression_checks, name_checks}
use Rattle.name_rules.specs.RecordsNeeded.{leaf_counts, pattern_records, constant_leaves}
use Rattle.layout.specs.Resolved.{type_number, type_entries, distance}
use Rattle.layout.specs.Layout.{number_or, room_of}
use Rattle.layout.proofs.ConstructorTables.{pass-both, passes, pass-rest, after-new}
use Rattle.instructions.specs.Instruction.{
  Instruction,
  use_name,
  use_constant,
  open_pair,
  open_let,
  open_if,
  open_delay,
  take_first,
  take_second,
  close,
  close_if,
  open_rec,
  begin_pattern,
  end_constant,
  input_has,
  constant_has,
}
use Rattle.instructions.specs.TextOrder.{
  declaration_instructions,
  number_of_type,
  constructor_in,
  constant_instructions,
  pattern_instructions,
  value_instruction,
  expression_instructions,
  text_instructions,
}
use Rattle.instructions.specs.Assembly.{assembly, nothing_assembled, first_untyped, assemble_one, assemble_all}
use Rattle.instructions.specs.RecordOrder.{declared_types, constant_onto, pattern_in_order, expression_onto, text_code}
use Rattle.instructions.proofs.LeavesNumbered.{leaves-numbered}
use Rattle.instructions.proofs.TypeNumbers.{constructor-typed, constant-has}
use Rattle.instructions.proofs.AssembledParts.{run-both, declarations-run, or_place, or-none, bad-both, place_after, last_place, typed-passed, pattern-run, pattern-onto, patterns-below, constant-run}

module _ (ds : List Declaration) (good : AllPass (declarations_checks at_first ds)) (i : ℕ) where
  -- the first constant without a type
  delay-place : (c : SourceConstant) → AllPass (constant_names (after_all at_first ds) c) → (p : ℕ)
      → (is_typed (constant_type ds c) ≡ true) ⊎ (place_after [] p c ≡ constant_place c)
  delay-place (OfConstructor (identifier w q)) h p = inl (constructor-typed ds good w (passes h))
  delay-place (Undefined t) h p = inl refl
  delay-place (ConstantPair q c d) h p = inr refl

  finished : (C W : List Instruction) (p : ℕ) {r k : ℕ} {u v : Option ℕ} → r ≡ k → u ≡ v
      → assembly (declared_types ds) i C W [] p r u ≡ assembly (declared_types ds) i C W [] p k v
  finished C W p e f = ap₂ (assembly (declared_types ds) i C W [] p) e f

  name-run : (bound : List (List ℕ)) (w : List ℕ) (C W : List Instruction) (p r : ℕ) (u : Option ℕ)
      → assemble_one (assembly (declared_types ds) i C W [] p r u) (value_instruction ds bound w)
      ≡ assembly (declared_types ds) i (value_instruction ds bound w ∷ C) W [] p (cond (is_among w bound) 1 (cond (is_declared constructor_role w (after_all at_first ds)) 2 1) + r) u
  name-run bound w C W p r u = go (is_among w bound) (is_declared constructor_role w (after_all at_first ds)) (distance w bound) (constructor_in ds w).type (constructor_in ds w).number
    where
      go : (b c : Bool) (k t n : ℕ)
          → assemble_one (assembly (declared_types ds) i C W [] p r u) (cond b (use_name k) (cond c (use_constant t n) (use_name k)))
          ≡ assembly (declared_types ds) i (cond b (use_name k) (cond c (use_constant t n) (use_name k)) ∷ C) W [] p (cond b 1 (cond c 2 1) + r) u
      go true c k t n = refl
      go false true k t n = refl
      go false false k t n = refl

  expression-run : (bound : List (List ℕ)) (e : Expression) → AllPass (expression_checks (after_all at_first ds) bound e) → (C W : List Instruction) (p r : ℕ)
      (u : Option ℕ)
      → assemble_all (assembly (declared_types ds) i C W [] p r u) (expression_instructions ds bound e)
      ≡ assembly (declared_types ds) i (expression_onto ds bound e C) W [] (last_place p e) (room_of ds bound e + r)
      (or_place u (first_bad_place (constant_checks ds e)))
  expression-run bound (NameUse n) h C W p r u = name-run bound (letters n) C W p r u ∙ finished _ W p refl (sym (or-none u))
  expression-run bound (UndefinedOf t) h C W p r u = finished _ W p (ap (λ k. 1 + k + r) (leaves-numbered ds (letters t))) (sym (or-none u))
  expression-run bound (PairExpression e f) h C W p r u =
      let D = after_all at_first ds in
      let both = pass-both (expression_checks D bound e) (expression_checks D bound f) h in
      run-both _ (expression_instructions ds bound e) (expression_instructions ds bound f ++ close ∷ [])
      (expression-run bound e both.0 (open_pair ∷ C) W p (1 + r) u)
      (run-both _ (expression_instructions ds bound f) (close ∷ [])
      (expression-run bound f both.1 (expression_onto ds bound e (open_pair ∷ C)) W (last_place p e) (room_of ds bound e + (1 + r))
      (or_place u (first_bad_place (constant_checks ds e))))
      (finished _ W _ (omega arith) (bad-both u (constant_checks ds e) (constant_checks ds f))))
  expression-run bound (FirstOf e) h C W p r u =
      run-both _ (expression_instructions ds bound e) (take_first ∷ []) (expression-run bound e h C W p r u) (finished _ W _ (omega arith) refl)
  expression-run bound (SecondOf e) h C W p r u =
      run-both _ (expression_instructions ds bound e) (take_second ∷ []) (expression-run bound e h C W p r u) (finished _ W _ (omega arith) refl)
  expression-run bound (LetExpression n e f) h C W p r u =
      let D = after_all at_first ds in
      let both = pass-both (expression_checks D bound e) (expression_checks D (bind n bound) f) (after-new D n h) in
      run-both _ (expression_instructions ds bound e) (expression_instructions ds (bind n bound) f ++ close ∷ [])
      (expression-run bound e both.0 (open_let ∷ C) W p (1 + r) u)
      (run-both _ (expression_instructions ds (bind n bound) f) (close ∷ [])
      (expression-run (bind n bound) f both.1 (expression_onto ds bound e (open_let ∷ C)) W (last_place p e) (room_of ds bound e + (1 + r))
      (or_place u (first_bad_place (constant_checks ds e))))
      (finished _ W _ (omega arith) (bad-both u (constant_checks ds e) (constant_checks ds f))))
  expression-run bound (LetRecExpression (identifier t q) n e f) h C W p r u =
      let D = after_all at_first ds in
      let both = pass-both (expression_checks D (bind n bound) e) (expression_checks D (bind n bound) f) (after-new D n (pass-rest h)) in
      let rec = open_rec (number_of_type ds t) in
      run-both _ (expression_instructions ds (bind n bound) e) (expression_instructions ds (bind n bound) f ++ close ∷ [])
      (expression-run (bind n bound) e both.0 (rec ∷ C) W p (1 + r) u)
      (run-both _ (expression_instructions ds (bind n bound) f) (close ∷ [])
      (expression-run (bind n bound) f both.1 (expression_onto ds (bind n bound) e (rec ∷ C)) W (last_place p e) (room_of ds (bind n bound) e + (1 + r))
      (or_place u (first_bad_place (constant_checks ds e))))
      (finished _ W _ (omega arith) (bad-both u (constant_checks ds e) (constant_checks ds f))))
  expression-run bound (IfExpression e m f g) h C W p r u =
      let D = after_all at_first ds in
      let one = pass-both ((expression_checks D bound e ++ pattern_checks D m) ++ expression_checks D bound f) (expression_checks D bound g) h in
      let two = pass-both (expression_checks D bound e ++ pattern_checks D m) (expression_checks D bound f) one.0 in
      let three = pass-both (expression_checks D bound e) (pattern_checks D m) two.0 in
      let bad : Expression → Option ℕ = λ x. first_bad_place (constant_checks ds x) in
      let tested = expression_onto ds bound e (open_if ∷ C) in
      let then = expression_onto ds bound f tested in
      let wait = pattern_in_order ds m (begin_pattern ∷ W) in
      let r1 = room_of ds bound e + (1 + r) in
      let r2 = pattern_records m + r1 in
      let r3 = room_of ds bound f + r2 in
      let u1 = or_place u (bad e) in
      let u2 = or_place u1 (bad f) in
      let otherwise = expression_onto ds bound g then in
      run-both _ (expression_instructions ds bound e)
      (begin_pattern ∷ (pattern_instructions ds m ++ (expression_instructions ds bound f ++ (expression_instructions ds bound g ++ close_if ∷ []))))
      (expression-run bound e three.0 (open_if ∷ C) W p (1 + r) u)
      (run-both _ (pattern_instructions ds m) (expression_instructions ds bound f ++ (expression_instructions ds bound g ++ close_if ∷ []))
      (pattern-run ds good i m tested (begin_pattern ∷ W) [] (last_place p e) r1 u1)
      (run-both _ (expression_instructions ds bound f) (expression_instructions ds bound g ++ close_if ∷ [])
      (expression-run bound f two.1 tested wait (last_place p e) r2 u1)
      (run-both _ (expression_instructions ds bound g) (close_if ∷ [])
      (expression-run bound g one.1 then wait (last_place (last_place p e) f) r3 u2)
      (ap₂ (λ X Z. assembly (declared_types ds) i (close ∷ X) Z [] (last_place (last_place (last_place p e) f) g) (room_of ds bound g + r3) (or_place u2 (bad g)))
      (pattern-onto ds good i m (begin_pattern ∷ W) otherwise) (patterns-below ds good i m (begin_pattern ∷ W))
      ∙ finished (close ∷ pattern_in_order ds m (begin_pattern ∷ otherwise)) W (last_place (last_place (last_place p e) f) g) (omega arith)
      (ap (λ x. or_place x (bad g)) (bad-both u (constant_checks ds e) (constant_checks ds f))
      ∙ bad-both u (constant_checks ds e ++ constant_checks ds f) (constant_checks ds g))))))
  expression-run bound (DelayExpression c e) h C W p r u =
      let D = after_all at_first ds in
      let both = pass-both (constant_names D c) (expression_checks D bound e) h in
      let t = number_or (type_entries ds) (constant_type ds c) in
      let q = place_after [] p c in
      let r1 = constant_leaves (leaf_counts [] ds) c + (1 + r) in
      run-both _ (constant_instructions ds c) (end_constant ∷ (expression_instructions ds bound e ++ close ∷ []))
      (constant-run ds good i c both.0 (open_delay ∷ C) W [] p (1 + r) u)
      (run-both _ (expression_instructions ds bound e) (close ∷ [])
      (expression-run bound e both.1 (constant_has t ∷ constant_onto ds c (open_delay ∷ C)) W q r1 (first_untyped u t q))
      (finished _ W _ (omega arith)
      (ap (λ x. or_place x (first_bad_place (constant_checks ds e)))
      (typed-passed (type_entries ds) (constant_type ds c) u q (constant_place c) (constant-has ds good c both.0) (delay-place c both.0 p))
      ∙ bad-both u (check_at (constant_place c) (is_typed (constant_type ds c)) ∷ []) (constant_checks ds e))))

-- all parts that the records are made of
pub text-assembled : (d : Declaration) (ds : List Declaration) (n : Identifier) (e : Expression) → AllPass (name_checks (text d ds n e))
    → assemble_all nothing_assembled (text_instructions (text d ds n e))
    ≡ assembly (declared_types (d ∷ ds)) (type_number (type_entries (d ∷ ds)) (letters n)) (text_code (text d ds n e)) [] [] (last_place 0 e) (room_of (d ∷ ds) [] e)
    (first_bad_place (constants_of_text (text d ds n e)))
text-assembled d ds (identifier w q) e h =
    let D = after_all at_first (d ∷ ds) in
    let both = pass-both (declarations_checks at_first (d ∷ ds)) (is_one type_role D (identifier w q) ∷ expression_checks D [] e) h in
    let i = type_number (type_entries (d ∷ ds)) w in
    run-both _ (declaration_instructions 1 [] (d ∷ ds)) (input_has i ∷ expression_instructions (d ∷ ds) [] e)
    (declarations-run 1 [] (d ∷ ds) [] 0 [] [] [] 0 0 none)
    (expression-run (d ∷ ds) both.0 i [] e (pass-rest both.1) [] [] 0 0 none
    ∙ finished (d ∷ ds) both.0 i (text_code (text d ds (identifier w q) e)) [] (last_place 0 e) (omega arith) refl)
