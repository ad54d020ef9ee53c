-- Declarations, patterns and constants of a text whose names are good, one list of instructions after another.
-- Assumes nothing.
use Prim.Native.Nat.{ℕ, zero, suc, ◌+◌, ◌<◌}
use native.Mathlib.Omega.{arith}
use mathlib.Core.Path.{◌≡◌, refl, sym, ap, ap₂, ◌∙◌}
use mathlib.Core.Bool.{Bool, true, false, cond}
use mathlib.Core.List.{List, [], ◌∷◌, ◌++◌}
use mathlib.Core.Option.{Option, none, some}
use mathlib.Core.Logic.{◌⊎◌, inl, inr}
use lib.ListN.{length}
use Rattle.grammar.specs.Source.{Identifier, Declaration, Constructors, PairOf, SourceConstant, OfConstructor, Undefined, ConstantPair}
use Rattle.grammar.specs.Source.{SourcePattern, Alone, PatternPair, Either}
use Rattle.grammar.specs.Source.{
  Expression,
  NameUse,
  UndefinedOf,
  PairExpression,
  FirstOf,
  SecondOf,
  LetExpression,
  LetRecExpression,
  IfExpression,
  DelayExpression,
}
use Rattle.name_rules.specs.Declared.{is_declared, type_role, at_first}
use Rattle.name_rules.specs.Checks.{PlacedCheck, check_at, AllPass, first_bad_place}
use Rattle.name_rules.specs.Constants.{letters, constant_type, is_typed}
use Rattle.name_rules.specs.Names.{after_all, declarations_checks, constant_names}
use Rattle.name_rules.specs.RecordsNeeded.{leaf_counts, pattern_records, constant_leaves}
use Rattle.layout.specs.Resolved.{TypeEntry, after_entry, type_number, type_entries}
use Rattle.layout.specs.Layout.{number_or}
use Rattle.layout.proofs.ConstructorTables.{pass-both}
use Rattle.instructions.specs.Instruction.{
  Instruction,
  open_parts,
  next_part,
  close_parts,
  next_alternative,
  match_type,
  match_one,
  close_constant,
}
use Rattle.instructions.specs.TextOrder.{
  count_each,
  declaration_instructions,
  number_of_type,
  constructor_in,
  constant_instructions,
  pattern_instructions,
}
use Rattle.instructions.specs.Assembly.{
  DeclaredType,
  flat_type,
  paired_type,
  Assembly,
  assembly,
  pattern_onto,
  patterns_below,
  outermost,
  first_untyped,
  assemble_one,
  assemble_all,
}
use Rattle.instructions.specs.RecordOrder.{types_onto, declared_types, constant_onto, pattern_in_order}
use Rattle.instructions.proofs.LeavesNumbered.{leaves-numbered}
use Rattle.instructions.proofs.TypeNumbers.{HasNumber, constructor-numbered, constant-has, pair-numbered}

-- one list of instructions after another
pub run-append : (A : Assembly) (xs ys : List Instruction) → assemble_all A (xs ++ ys) ≡ assemble_all (assemble_all A xs) ys
run-append A [] ys = refl
run-append A (x ∷ xs) ys = run-append (assemble_one A x) xs ys

pub run-both : (A : Assembly) {B Z : Assembly} (xs ys : List Instruction) → assemble_all A xs ≡ B → assemble_all B ys ≡ Z → assemble_all A (xs ++ ys) ≡ Z
run-both A xs ys p q = run-append A xs ys ∙ ap (λ X. assemble_all X ys) p ∙ q

-- declarations
counted-each : (n : ℕ) (T : List DeclaredType) (i : ℕ) (C W : List Instruction) (Y : List ℕ) (p r : ℕ) (u : Option ℕ) (cs : List Identifier)
    (rest : List Instruction)
    → assemble_all (assembly (flat_type n ∷ T) i C W Y p r u) (count_each cs rest) ≡ assemble_all (assembly (flat_type (n + length cs) ∷ T) i C W Y p r u) rest
counted-each n T i C W Y p r u [] rest =
    let e : n ≡ n + 0 = omega arith in ap (λ k. assemble_all (assembly (flat_type k ∷ T) i C W Y p r u) rest) e
counted-each n T i C W Y p r u (c ∷ cs) rest =
    let e : suc n + length cs ≡ n + suc (length cs) = omega arith in
    counted-each (suc n) T i C W Y p r u cs rest ∙ ap (λ k. assemble_all (assembly (flat_type k ∷ T) i C W Y p r u) rest) e

pub declarations-run : (k : ℕ) (E : List TypeEntry) (ds : List Declaration) (T : List DeclaredType) (i : ℕ) (C W : List Instruction) (Y : List ℕ) (p r : ℕ)
    (u : Option ℕ)
    → assemble_all (assembly T i C W Y p r u) (declaration_instructions k E ds) ≡ assembly (types_onto k E ds T) i C W Y p r u
declarations-run k E [] T i C W Y p r u = refl
declarations-run k E (Constructors t c cs ∷ ds) T i C W Y p r u =
    let d = Constructors t c cs in
    let e : 0 + length (c ∷ cs) ≡ length (c ∷ cs) = omega arith in
    counted-each 0 T i C W Y p r u (c ∷ cs) (declaration_instructions (suc k) (after_entry k E d) ds)
    ∙ ap (λ n. assemble_all (assembly (flat_type n ∷ T) i C W Y p r u) (declaration_instructions (suc k) (after_entry k E d) ds)) e
    ∙ declarations-run (suc k) (after_entry k E d) ds (flat_type (length (c ∷ cs)) ∷ T) i C W Y p r u
declarations-run k E (PairOf t a b ∷ ds) T i C W Y p r u =
    declarations-run (suc k) (after_entry k E (PairOf t a b)) ds (paired_type (type_number E (letters a)) (type_number E (letters b)) ∷ T) i C W Y p r u

-- the first of two places
abbrev pub or_place : Option ℕ → Option ℕ → Option ℕ
or_place none v = v
or_place (some p) v = some p

pub or-none : (u : Option ℕ) → or_place u none ≡ u
or-none none = refl
or-none (some p) = refl

pub or-places : (u v w : Option ℕ) → or_place (or_place u v) w ≡ or_place u (or_place v w)
or-places none v w = refl
or-places (some p) v w = refl

pub bad-append : (cs es : List PlacedCheck) → first_bad_place (cs ++ es) ≡ or_place (first_bad_place cs) (first_bad_place es)
bad-append [] es = refl
bad-append (check_at p true ∷ cs) es = bad-append cs es
bad-append (check_at p false ∷ cs) es = refl

-- of one list of checks after another
pub bad-both : (u : Option ℕ) (cs es : List PlacedCheck) → or_place (or_place u (first_bad_place cs)) (first_bad_place es) ≡ or_place u (first_bad_place (cs ++ es))
bad-both u cs es = or-places u (first_bad_place cs) (first_bad_place es) ∙ ap (or_place u) (sym (bad-append cs es))

-- the place that is kept after a constant, and after an expression
abbrev pub place_after : List ℕ → ℕ → SourceConstant → ℕ
place_after Y p (OfConstructor n) = p
place_after Y p (Undefined t) = p
place_after Y p (ConstantPair q c d) = outermost Y p q

abbrev pub last_place : ℕ → Expression → ℕ
last_place p (NameUse n) = p
last_place p (UndefinedOf t) = p
last_place p (PairExpression e f) = last_place (last_place p e) f
last_place p (FirstOf e) = last_place p e
last_place p (SecondOf e) = last_place p e
last_place p (LetExpression n e f) = last_place (last_place p e) f
last_place p (LetRecExpression t n e f) = last_place (last_place p e) f
last_place p (IfExpression e m f g) = last_place (last_place (last_place p e) f) g
last_place p (DelayExpression c e) = last_place (place_after [] p c) e

place_inside : (y : ℕ) (Y : List ℕ) (p : ℕ) (c : SourceConstant) → place_after (y ∷ Y) p c ≡ p
place_inside y Y p (OfConstructor n) = refl
place_inside y Y p (Undefined t) = refl
place_inside y Y p (ConstantPair q c d) = refl

not-untyped : (u : Option ℕ) (t p : ℕ) → 0 < t → first_untyped u t p ≡ u
not-untyped none zero p h = absurd (omega arith)
not-untyped none (suc t) p h = refl
not-untyped (some q) t p h = refl

pub typed-passed : (E : List TypeEntry) (x : Option (List ℕ)) (u : Option ℕ) (p q : ℕ) → HasNumber E x → (is_typed x ≡ true) ⊎ (p ≡ q)
    → first_untyped u (number_or E x) p ≡ or_place u (first_bad_place (check_at q (is_typed x) ∷ []))
typed-passed E (some w) u p q h k = not-untyped u (type_number E w) p h ∙ sym (or-none u)
typed-passed E none (some o) p q h k = refl
typed-passed E none none p q h (inl e) = absurd (let z : ◌≡◌ {A = ℕ} 0 1 = cc in omega arith)
typed-passed E none none p q h (inr e) = ap some e

module _ (ds : List Declaration) (good : AllPass (declarations_checks at_first ds)) (i : ℕ) where
  -- patterns wait
  pub pattern-run : (m : SourcePattern) (C W : List Instruction) (Y : List ℕ) (p r : ℕ) (u : Option ℕ)
      → assemble_all (assembly (declared_types ds) i C W Y p r u) (pattern_instructions ds m) ≡ assembly (declared_types ds) i C (pattern_in_order ds m W) Y p (pattern_records m + r) u
  pattern-run (Alone n) C W Y p r u = go (is_declared type_role (letters n) (after_all at_first ds))
    where
      go : (b : Bool)
          → assemble_one (assembly (declared_types ds) i C W Y p r u)
          (cond b (match_type (number_of_type ds (letters n))) (match_one (constructor_in ds (letters n)).type (constructor_in ds (letters n)).number))
          ≡ assembly (declared_types ds) i C
          (cond b (match_type (number_of_type ds (letters n))) (match_one (constructor_in ds (letters n)).type (constructor_in ds (letters n)).number) ∷ W)
          Y p (1 + r) u
      go true = refl
      go false = refl
  pattern-run (PatternPair m n) C W Y p r u =
      let e : pattern_records n + (pattern_records m + (1 + r)) ≡ 1 + pattern_records m + pattern_records n + r = omega arith in
      run-both _ (pattern_instructions ds m) (next_part ∷ (pattern_instructions ds n ++ close_parts ∷ []))
      (pattern-run m C (open_parts ∷ W) Y p (1 + r) u)
      (run-both _ (pattern_instructions ds n) (close_parts ∷ [])
      (pattern-run n C (next_part ∷ pattern_in_order ds m (open_parts ∷ W)) Y p (pattern_records m + (1 + r)) u)
      (ap (λ k. assembly (declared_types ds) i C (pattern_in_order ds (PatternPair m n) W) Y p k u) e))
  pattern-run (Either m n) C W Y p r u =
      let e : pattern_records n + (pattern_records m + r) ≡ pattern_records m + pattern_records n + r = omega arith in
      run-both _ (pattern_instructions ds m) (next_alternative ∷ pattern_instructions ds n)
      (pattern-run m C W Y p r u)
      (pattern-run n C (next_alternative ∷ pattern_in_order ds m W) Y p (pattern_records m + r) u
      ∙ ap (λ k. assembly (declared_types ds) i C (pattern_in_order ds (Either m n) W) Y p k u) e)

  -- and go behind the branches
  pub pattern-onto : (m : SourcePattern) (W C : List Instruction) → pattern_onto (pattern_in_order ds m W) C ≡ pattern_in_order ds m (pattern_onto W C)
  pattern-onto (Alone n) W C = go (is_declared type_role (letters n) (after_all at_first ds))
    where
      go : (b : Bool)
          → pattern_onto (cond b (match_type (number_of_type ds (letters n))) (match_one (constructor_in ds (letters n)).type (constructor_in ds (letters n)).number) ∷ W) C
          ≡ cond b (match_type (number_of_type ds (letters n))) (match_one (constructor_in ds (letters n)).type (constructor_in ds (letters n)).number) ∷ pattern_onto W C
      go true = refl
      go false = refl
  pattern-onto (PatternPair m n) W C =
      ap (λ X. close_parts ∷ X)
      (pattern-onto n (next_part ∷ pattern_in_order ds m (open_parts ∷ W)) C ∙ ap (λ X. pattern_in_order ds n (next_part ∷ X)) (pattern-onto m (open_parts ∷ W) C))
  pattern-onto (Either m n) W C =
      pattern-onto n (next_alternative ∷ pattern_in_order ds m W) C ∙ ap (λ X. pattern_in_order ds n (next_alternative ∷ X)) (pattern-onto m W C)

  pub patterns-below : (m : SourcePattern) (W : List Instruction) → patterns_below (pattern_in_order ds m W) ≡ patterns_below W
  patterns-below (Alone n) W = go (is_declared type_role (letters n) (after_all at_first ds))
    where
      go : (b : Bool)
          → patterns_below (cond b (match_type (number_of_type ds (letters n))) (match_one (constructor_in ds (letters n)).type (constructor_in ds (letters n)).number) ∷ W)
          ≡ patterns_below W
      go true = refl
      go false = refl
  patterns-below (PatternPair m n) W =
      patterns-below n (next_part ∷ pattern_in_order ds m (open_parts ∷ W)) ∙ patterns-below m (open_parts ∷ W)
  patterns-below (Either m n) W = patterns-below n (next_alternative ∷ pattern_in_order ds m W) ∙ patterns-below m W

  -- the constant of a DELAY
  pub constant-run : (c : SourceConstant) → AllPass (constant_names (after_all at_first ds) c) → (C W : List Instruction) (Y : List ℕ) (p r : ℕ) (u : Option ℕ)
      → assemble_all (assembly (declared_types ds) i C W Y p r u) (constant_instructions ds c)
      ≡ assembly (declared_types ds) i (constant_onto ds c C) W (number_or (type_entries ds) (constant_type ds c) ∷ Y) (place_after Y p c) (constant_leaves (leaf_counts [] ds) c + r) u
  constant-run (OfConstructor n) h C W Y p r u =
      ap (λ k. assembly (declared_types ds) i (constant_onto ds (OfConstructor n) C) W (k ∷ Y) p (1 + r) u) (constructor-numbered ds good (letters n))
  constant-run (Undefined t) h C W Y p r u =
      ap (λ k. assembly (declared_types ds) i (constant_onto ds (Undefined t) C) W (number_or (type_entries ds) (some (letters t)) ∷ Y) p (k + r) u) (leaves-numbered ds (letters t))
  constant-run (ConstantPair q c d) h C W Y p r u =
      let both = pass-both (constant_names (after_all at_first ds) c) (constant_names (after_all at_first ds) d) h in
      let L = leaf_counts [] ds in
      let a = number_or (type_entries ds) (constant_type ds c) in
      let o = outermost Y p q in
      let e : constant_leaves L d + (constant_leaves L c + r) ≡ constant_leaves L c + constant_leaves L d + r = omega arith in
      run-both _ (constant_instructions ds c) (constant_instructions ds d ++ close_constant ∷ [])
      (constant-run c both.0 C W (0 ∷ Y) o r u
      ∙ ap (λ k. assembly (declared_types ds) i (constant_onto ds c C) W (a ∷ 0 ∷ Y) k (constant_leaves L c + r) u) (place_inside 0 Y o c))
      (run-both _ (constant_instructions ds d) (close_constant ∷ [])
      (constant-run d both.1 (constant_onto ds c C) W (a ∷ 0 ∷ Y) o (constant_leaves L c + r) u)
      (ap₂ (λ k l. assembly (declared_types ds) i (constant_onto ds d (constant_onto ds c C)) W (k ∷ Y) l (constant_leaves L d + (constant_leaves L c + r)) u)
      (pair-numbered ds good (constant_type ds c) (constant_type ds d) (constant-has ds good c both.0) (constant-has ds good d both.1))
      (place_inside a (0 ∷ Y) o d)
      ∙ ap (λ k. assembly (declared_types ds) i (constant_onto ds d (constant_onto ds c C)) W (number_or (type_entries ds) (constant_type ds (ConstantPair q c d)) ∷ Y) o k u) e))
