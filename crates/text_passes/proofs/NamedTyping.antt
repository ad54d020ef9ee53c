-- The static semantics over names and the one over distances agree: a type name stands for one
-- type, and where no pair type is refused two names do not stand for the same.
-- Assumes nothing.
use Prim.Native.Nat.{ℕ, zero, suc, ◌+◌, ◌≤◌, min}
use mathlib.Core.Path.{◌≡◌, refl, ap, ap₂, sym, subst, ◌∙◌}
use mathlib.Core.Bool.{Bool, true, false, cond}
use mathlib.Core.List.{List, [], ◌∷◌, ◌++◌}
use mathlib.Core.Option.{Option, none, some}
use native.Mathlib.Omega.{arith}
use lib.ListN.{length, replicate}
use Rattle.picoella.specs.Language.{Ty, Flat, TyTuple, leaves, within_none, within_leaf, OfType, Expr, Const, Var, Delay, Typed, Named, here, there}
use Rattle.picoella.specs.Language.{Pattern, Whole, Constructor, Parts, Bar, HasType, p_whole, p_constructor, p_parts, p_bar}
use Rattle.picoella.specs.Language.{t_const, t_var, t_tuple, t_index1, t_index2, t_let, t_letrec, t_if, t_delay}
use Rattle.meaning.proofs.Order.{within-append, undefined-typed}
use Rattle.grammar.specs.Source.{Identifier, identifier, Declaration, Constructors, PairOf, SourceConstant, OfConstructor, Undefined, ConstantPair}
use Rattle.grammar.specs.Source.{SourcePattern, Alone, PatternPair, Either}
use Rattle.grammar.specs.Source.{
  Expression,
  NameUse,
  UndefinedOf,
  PairExpression,
  FirstOf,
  SecondOf,
  LetExpression,
  LetRecExpression,
  IfExpression,
  DelayExpression,
}
use Rattle.name_rules.specs.Declared.{
  Role,
  a_type,
  a_constructor,
  the_input,
  DeclaredName,
  declared_as,
  same_name,
  is_among,
  input,
  is_declared,
  type_role,
  constructor_role,
  value_roles,
  at_first,
}
use Rattle.name_rules.specs.Checks.{AllPass}
use Rattle.name_rules.specs.Constants.{letters, type_of_constructor, first_pair_type, pair_type_of, constant_type, is_typed, constant_checks}
use Rattle.name_rules.specs.Names.{after_all, declarations_checks, pattern_checks, constant_names, expression_checks}
use Rattle.name_rules.proofs.SameName.{same-equal}
use Rattle.layout.specs.Resolved.{TypeEntry, type_meant, type_entries, constructor_meant, constructor_entries, distance}
use Rattle.layout.specs.Distances.{type_or, as_constant, as_pattern, undefined_leaves_of, constant_values, pattern_meant, name_meant, by_distances}
use Rattle.layout.proofs.ConstructorTables.{pass-both, passes, pass-rest, after-new, type-or-constructor, a-constructor}
use Rattle.layout.proofs.Tables.{is_named, no-type, none-matched, types-known}
use Rattle.text_meaning.proofs.ConstantsStand.{constructor-of, pair-of}
use Rattle.text_meaning.proofs.NamesStand.{constructor-has-number}
use Rattle.text_meaning.proofs.Begins.{value-or-input, input-no-constructor}
use Rattle.text_passes.specs.RefusedTypes.{declaration_at}
use Rattle.text_passes.specs.NamedTypes.{type_name_of}
use Rattle.text_passes.specs.NamedTypes.{
  TypedName,
  typed_name,
  nearest_type,
  PairDeclared,
  declared_here,
  declared_later,
  PatternTyped,
  whole_name_typed,
  one_typed,
  parts_typed,
  either_typed,
  NameTyped,
  bound_typed,
  made_typed,
  unknown_typed,
  couple_typed,
  first_part_typed,
  second_part_typed,
  let_typed,
  rec_typed,
  if_typed,
  delay_typed,
}
use Rattle.text_passes.proofs.TypesReady.{constructor-in-table}
use Rattle.text_passes.proofs.BadPlaces.{entry-typed}

-- a name is not declared as both
one-role : (w : List ℕ) (D : List DeclaredName) → is_declared constructor_role w D ≡ true → is_declared type_role w D ≡ false
one-role w [] h = absurd (let no : ◌≡◌ {A = ℕ} 0 1 = cc in omega arith)
one-role w (declared_as v x ∷ D) h = go (same_name w v) x (one-role w D) h
  where
    go : (b : Bool) (x : Role) → (is_declared constructor_role w D ≡ true → is_declared type_role w D ≡ false)
        → cond b (constructor_role x) (is_declared constructor_role w D) ≡ true → cond b (type_role x) (is_declared type_role w D) ≡ false
    go true a_type f h = sym h
    go true a_constructor f h = refl
    go true the_input f h = refl
    go false x f h = f h

-- a declared pair and its declaration
pub pair-at : {ds : List Declaration} {t u v : List ℕ} → PairDeclared ds t u v
    → (k : ℕ) × (p : ℕ) × (q : ℕ) × (r : ℕ) × (declaration_at ds (suc k) ≡ some (PairOf (identifier t p) (identifier u q) (identifier v r)))
pair-at (declared_here {p = p} {q = q} {r = r}) = (0, p, q, r, refl)
pair-at (declared_later x) = let y = pair-at x in (suc y.0, y.1, y.2, y.3, y.4)

at_pair : (ds : List Declaration) (k : ℕ) {t u v : List ℕ} {p q r : ℕ}
    → declaration_at ds (suc k) ≡ some (PairOf (identifier t p) (identifier u q) (identifier v r)) → PairDeclared ds t u v
at_pair [] k h = absurd (let no : ◌≡◌ {A = ℕ} 0 1 = cc in omega arith)
at_pair (d ∷ ds) zero {t} {u} {v} {p} {q} {r} h =
    let same : PairOf (identifier t p) (identifier u q) (identifier v r) ≡ d = cc in
    subst (λ x. PairDeclared (x ∷ ds) t u v) same declared_here
at_pair (d ∷ ds) (suc k) h = declared_later (at_pair ds k h)

-- types of patterns and expressions, by their form
whole_is : {σ τ : Ty} → HasType (Whole σ) τ → σ ≡ τ
whole_is p_whole = refl

constructor_is : {r n k : ℕ} {τ : Ty} → HasType (Constructor r n k) τ → τ ≡ Flat r n
constructor_is p_constructor = refl

parts_are : {p q : Pattern} {τ : Ty} → HasType (Parts p q) τ → (σ : Ty) × (ρ : Ty) × (τ ≡ TyTuple σ ρ) × HasType p σ × HasType q ρ
parts_are (p_parts {σ = σ} {τ = ρ} x y) = (σ, ρ, refl, x, y)

both-are : {p q : Pattern} {τ : Ty} → HasType (Bar p q) τ → HasType p τ × HasType q τ
both-are (p_bar x y) = (x, y)

const-is : {D : Ty → Type 0} {Γ : List Ty} {σ τ : Ty} {v : List ℕ} → Typed D Γ (Const σ v) τ → σ ≡ τ
const-is (t_const h) = refl

delay-is : {D : Ty → Type 0} {Γ : List Ty} {ls v : List ℕ} {σ τ : Ty} {e : Expr} → Typed D Γ (Delay ls σ v e) τ → (σ ≡ τ) × Typed D Γ e τ
delay-is (t_delay h x) = (refl, x)

var-is : {D : Ty → Type 0} {Γ : List Ty} {k : ℕ} {τ : Ty} → Typed D Γ (Var k) τ → Named Γ k τ
var-is (t_var h) = h

one-named : {Γ : List Ty} {k : ℕ} {σ τ : Ty} → Named Γ k σ → Named Γ k τ → σ ≡ τ
one-named here here = refl
one-named (there x) (there y) = one-named x y

-- the first pair type of two is declared as one
first-declared : (ds : List Declaration) (t u v : List ℕ) → first_pair_type ds u v ≡ some t → PairDeclared ds t u v
first-declared [] t u v e = absurd (let no : ◌≡◌ {A = ℕ} 0 1 = cc in omega arith)
first-declared (Constructors n c cs ∷ ds) t u v e = declared_later (first-declared ds t u v e)
first-declared (PairOf (identifier n p) (identifier a q) (identifier b r) ∷ ds) t u v e =
    go (same_name u a) (same_name v b) (same-equal u a) (same-equal v b) (first-declared ds t u v) e
  where
    go : (x y : Bool) → (x ≡ true → u ≡ a) → (y ≡ true → v ≡ b) → (first_pair_type ds u v ≡ some t → PairDeclared ds t u v)
        → cond (cond x y false) (some n) (first_pair_type ds u v) ≡ some t
        → PairDeclared (PairOf (identifier n p) (identifier a q) (identifier b r) ∷ ds) t u v
    go true true f g more e =
        let same : n ≡ t = cc in
        subst (λ z. PairDeclared (PairOf (identifier n p) (identifier a q) (identifier b r) ∷ ds) z u v) same
        (subst (λ z. PairDeclared (PairOf (identifier n p) (identifier a q) (identifier b r) ∷ ds) n z v) (sym (f refl))
        (subst (λ z. PairDeclared (PairOf (identifier n p) (identifier a q) (identifier b r) ∷ ds) n a z) (sym (g refl)) declared_here))
    go true false f g more e = declared_later (more e)
    go false y f g more e = declared_later (more e)

-- what is known of the types of a text: names and types are one to one, and no type is too large
pub record TypesKnown (A : List Declaration) : Type 0 where
  pub good : AllPass (declarations_checks at_first A)
  pub one : (t u : List ℕ) → is_named t (type_entries A) ≡ true → is_named u (type_entries A) ≡ true
      → type_meant (type_entries A) t ≡ type_meant (type_entries A) u → t ≡ u
  pub small : (t : List ℕ) → leaves (type_meant (type_entries A) t) ≤ 64
  pub flats : (k : ℕ) (n c : Identifier) (cs : List Identifier) → declaration_at A (suc k) ≡ some (Constructors n c cs)
      → type_meant (type_entries A) (letters n) ≡ Flat (suc k) (length (c ∷ cs))
  pub pairs : (k : ℕ) (n a b : Identifier) → declaration_at A (suc k) ≡ some (PairOf n a b)
      → (type_meant (type_entries A) (letters n) ≡ TyTuple (type_meant (type_entries A) (letters a)) (type_meant (type_entries A) (letters b)))
      × (is_named (letters a) (type_entries A) ≡ true)
      × (is_named (letters b) (type_entries A) ≡ true)
      × (is_named (letters n) (type_entries A) ≡ true)
  pub numbered : (t : List ℕ) → is_named t (type_entries A) ≡ true
      → (k : ℕ) × (c : Declaration) × (declaration_at A (suc k) ≡ some c) × (type_name_of c ≡ t)

module _ (A : List Declaration) (K : TypesKnown A) where
  abbrev U : List TypeEntry
  U = type_entries A

  abbrev M : List ℕ → Ty
  M t = type_meant (type_entries A) t

  abbrev D : List DeclaredName
  D = after_all at_first A

  pub type-in-table : (w : List ℕ) → is_declared type_role w D ≡ true → is_named w U ≡ true
  type-in-table w h = (types-known 1 at_first [] [] A no-type none-matched K.good).0.named w h

  pub pair-means : {t u v : List ℕ} → PairDeclared A t u v
      → (M t ≡ TyTuple (M u) (M v)) × (is_named u U ≡ true) × (is_named v U ≡ true) × (is_named t U ≡ true)
  pair-means {t} {u} {v} x =
      let y = pair-at x in K.pairs y.0 (identifier t y.1) (identifier u y.2) (identifier v y.3) y.4

  pub record PartsOf (t : List ℕ) (σ τ : Ty) : Type 0 where
    pub first : List ℕ
    pub second : List ℕ
    pub declared : PairDeclared A t first second
    pub first-is : M first ≡ σ
    pub second_is : M second ≡ τ
    pub first-named : is_named first U ≡ true
    pub second-named : is_named second U ≡ true

  pub parts-of : (t : List ℕ) (σ τ : Ty) → is_named t U ≡ true → M t ≡ TyTuple σ τ → PartsOf t σ τ
  parts-of t σ τ h e = let n = K.numbered t h in go n.0 n.1 n.2 n.3
    where
      go : (k : ℕ) (c : Declaration) → declaration_at A (suc k) ≡ some c → type_name_of c ≡ t → PartsOf t σ τ
      go k (Constructors n c cs) at same =
          let f = K.flats k n c cs at in
          let g : M (letters n) ≡ M t = ap (type_meant (type_entries A)) same in
          absurd (let no : ◌≡◌ {A = ℕ} 0 1 = cc in omega arith)
      go k (PairOf (identifier n p) (identifier a q) (identifier b r)) at same =
          let f = K.pairs k (identifier n p) (identifier a q) (identifier b r) at in
          let f0 = f.0 in
          let g : M n ≡ M t = ap (type_meant (type_entries A)) same in
          let both : TyTuple (M a) (M b) ≡ TyTuple σ τ = sym f0 ∙ g ∙ e in
          let ea : M a ≡ σ = cc in
          let eb : M b ≡ τ = cc in
          record {
            first = a;
            second = b;
            declared = subst (λ z. PairDeclared A z a b) same (at_pair A k at);
            first-is = ea;
            second_is = eb;
            first-named = f.1;
            second-named = f.2;
          }

  -- a constructor and its type
  constructor-some : (w : List ℕ) → is_declared constructor_role w D ≡ true
      → (t : List ℕ) × (type_of_constructor A w ≡ some t)
  constructor-some w h = go (type_of_constructor A w) refl (entry-typed w 1 A (a-constructor w A h))
    where
      go : (o : Option (List ℕ)) → type_of_constructor A w ≡ o → is_typed o ≡ true → (t : List ℕ) × (type_of_constructor A w ≡ some t)
      go none e x = absurd (let no : ◌≡◌ {A = ℕ} 0 1 = cc in omega arith)
      go (some t) e x = (t, e)

  abbrev flat_of : List ℕ → Ty
  flat_of w = Flat (constructor_meant (constructor_entries A) w).type (constructor_meant (constructor_entries A) w).constructors

  constructor-means : (w t : List ℕ) → type_of_constructor A w ≡ some t → M t ≡ flat_of w
  constructor-means w t e = constructor-of A K.good w t e

  constructor-fits : (w : List ℕ) → is_declared constructor_role w D ≡ true → OfType (flat_of w) ((constructor_meant (constructor_entries A) w).number ∷ [])
  constructor-fits w h =
      let n = constructor-has-number A w h in
      let a = n.number_is in
      let b = n.within in
      let few : (constructor_meant (constructor_entries A) w).number ≤ (constructor_meant (constructor_entries A) w).constructors = omega (arith, a, b) in
      within_leaf few within_none

  -- patterns
  pattern-sound : {m : SourcePattern} {u : List ℕ} → PatternTyped A m u → HasType (pattern_meant A m) (M u)
  pattern-sound (whole_name_typed h) = rw h p_whole
  pattern-sound (one_typed {w = w} {t = t} h e) =
      rw (one-role w D h)
      (subst (λ τ. HasType (as_pattern (constructor_meant (constructor_entries A) w)) τ) (sym (constructor-means w t e)) p_constructor)
  pattern-sound (parts_typed {t = t} {m = m} {n = n} d x y) =
      subst (λ τ. HasType (Parts (pattern_meant A m) (pattern_meant A n)) τ) (sym (pair-means d).0) (p_parts (pattern-sound x) (pattern-sound y))
  pattern-sound (either_typed x y) = p_bar (pattern-sound x) (pattern-sound y)

  pattern-complete : (m : SourcePattern) (u : List ℕ) → AllPass (pattern_checks D m) → is_named u U ≡ true → HasType (pattern_meant A m) (M u)
      → PatternTyped A m u
  pattern-complete (Alone (identifier w p)) u good n h = go (is_declared type_role w D) refl h
    where
      go : (b : Bool) → is_declared type_role w D ≡ b
          → HasType (cond b (Whole (M w)) (as_pattern (constructor_meant (constructor_entries A) w))) (M u) → PatternTyped A (Alone (identifier w p)) u
      go true e x = subst (PatternTyped A (Alone (identifier w p))) (K.one w u (type-in-table w e) n (whole_is x)) (whole_name_typed e)
      go false e x =
          let c = type-or-constructor w D (passes good) e in
          let t = constructor-some w c in
          let same = K.one t.0 u (constructor-in-table 1 [] A w t.0 t.1) n (constructor-means w t.0 t.1 ∙ sym (constructor_is x)) in
          subst (PatternTyped A (Alone (identifier w p))) same (one_typed c t.1)
  pattern-complete (PatternPair m n) u good h x =
      let both = pass-both (pattern_checks D m) (pattern_checks D n) good in
      let y = parts_are x in
      let z = parts-of u y.0 y.1 h y.2 in
      parts_typed z.declared
      (pattern-complete m z.first both.0 z.first-named (subst (HasType (pattern_meant A m)) (sym z.first-is) y.3))
      (pattern-complete n z.second both.1 z.second-named (subst (HasType (pattern_meant A n)) (sym z.second_is) y.4))
  pattern-complete (Either m n) u good h x =
      let both = pass-both (pattern_checks D m) (pattern_checks D n) good in
      let y = both-are x in
      either_typed (pattern-complete m u both.0 h y.0) (pattern-complete n u both.1 h y.1)

  -- constants
  undefined-fits : (t : List ℕ) → OfType (M t) (undefined_leaves_of (M t))
  undefined-fits t =
      let s = K.small t in
      let e : min 64 (leaves (M t)) ≡ leaves (M t) = omega arith in
      subst (λ n. OfType (M t) (replicate n 0)) (sym e) (undefined-typed (M t))

  constant-fits : (c : SourceConstant) (t : List ℕ) → AllPass (constant_names D c) → constant_type A c ≡ some t → OfType (M t) (constant_values A c)
  constant-fits (OfConstructor (identifier w p)) t good e =
      subst (λ τ. OfType τ (constant_values A (OfConstructor (identifier w p)))) (sym (constructor-means w t e)) (constructor-fits w (passes good))
  constant-fits (Undefined (identifier w p)) t good e =
      let same : w ≡ t = cc in subst (λ z. OfType (M z) (undefined_leaves_of (M w))) same (undefined-fits w)
  constant-fits (ConstantPair p c d) t good e =
      let both = pass-both (constant_names D c) (constant_names D d) good in
      go (constant_type A c) (constant_type A d) refl refl e
      (λ u h. constant-fits c u both.0 h) (λ u h. constant-fits d u both.1 h)
    where
      go : (x y : Option (List ℕ)) → constant_type A c ≡ x → constant_type A d ≡ y → pair_type_of A x y ≡ some t
          → ((u : List ℕ) → constant_type A c ≡ some u → OfType (M u) (constant_values A c))
          → ((u : List ℕ) → constant_type A d ≡ some u → OfType (M u) (constant_values A d))
          → OfType (M t) (constant_values A c ++ constant_values A d)
      go none y ex ey e f g = absurd (let no : ◌≡◌ {A = ℕ} 0 1 = cc in omega arith)
      go (some u) none ex ey e f g = absurd (let no : ◌≡◌ {A = ℕ} 0 1 = cc in omega arith)
      go (some u) (some v) ex ey e f g =
          subst (λ τ. OfType τ (constant_values A c ++ constant_values A d)) (sym (pair-of A K.good u v t e)) (within-append (f u ex) (g v ey))

  constant-named : (c : SourceConstant) (t : List ℕ) → AllPass (constant_names D c) → constant_type A c ≡ some t → is_named t U ≡ true
  constant-named (OfConstructor (identifier w p)) t good e = constructor-in-table 1 [] A w t e
  constant-named (Undefined (identifier w p)) t good e = let same : w ≡ t = cc in subst (λ z. is_named z U ≡ true) same (type-in-table w (passes good))
  constant-named (ConstantPair p c d) t good e = go (constant_type A c) (constant_type A d) e
    where
      go : (x y : Option (List ℕ)) → pair_type_of A x y ≡ some t → is_named t U ≡ true
      go none y e = absurd (let no : ◌≡◌ {A = ℕ} 0 1 = cc in omega arith)
      go (some u) none e = absurd (let no : ◌≡◌ {A = ℕ} 0 1 = cc in omega arith)
      go (some u) (some v) e = (pair-means (first-declared A t u v e)).3

  -- the names in scope with their types, the nearest first; the last is `input`
  pub data InScope : List TypedName → List (List ℕ) → List Ty → Type 0 where
    scope-input : {t : List ℕ} → is_named t U ≡ true → InScope (typed_name input t ∷ []) [] (M t ∷ [])
    scope-name : {w t : List ℕ} {Γ : List TypedName} {bound : List (List ℕ)} {Δ : List Ty}
        → is_named t U ≡ true → InScope Γ bound Δ → InScope (typed_name w t ∷ Γ) (w ∷ bound) (M t ∷ Δ)

  found-named : {Γ : List TypedName} {bound : List (List ℕ)} {Δ : List Ty} → InScope Γ bound Δ → (w t : List ℕ) → nearest_type Γ w ≡ some t
      → Named Δ (distance w bound) (M t) × (is_named t U ≡ true)
  found-named (scope-input {t = u} n) w t e = go (same_name w input) e
    where
      go : (b : Bool) → cond b (some u) none ≡ some t → Named (M u ∷ []) 0 (M t) × (is_named t U ≡ true)
      go true e = let same : u ≡ t = cc in subst (λ z. Named (M u ∷ []) 0 (M z) × (is_named z U ≡ true)) same (here, n)
      go false e = absurd (let no : ◌≡◌ {A = ℕ} 0 1 = cc in omega arith)
  found-named (scope-name {w = v} {t = u} {Γ = Γ} {bound = bound} {Δ = Δ} n x) w t e = go (same_name w v) (λ h. found-named x w t h) e
    where
      go : (b : Bool) → (nearest_type Γ w ≡ some t → Named Δ (distance w bound) (M t) × (is_named t U ≡ true))
          → cond b (some u) (nearest_type Γ w) ≡ some t
          → Named (M u ∷ Δ) (cond b 0 (suc (distance w bound))) (M t) × (is_named t U ≡ true)
      go true f e = let same : u ≡ t = cc in subst (λ z. Named (M u ∷ Δ) 0 (M z) × (is_named z U ≡ true)) same (here, n)
      go false f e = let r = f e in (there r.0, r.1)

  -- a name in scope is bound by a LET or is `input`; one that is not is neither
  bound-or-input : {Γ : List TypedName} {bound : List (List ℕ)} {Δ : List Ty} → InScope Γ bound Δ → (w t : List ℕ) → nearest_type Γ w ≡ some t
      → is_among w bound ≡ false → same_name w input ≡ true
  bound-or-input (scope-input {t = u} n) w t e h = go (same_name w input) e
    where
      go : (b : Bool) → cond b (some u) none ≡ some t → b ≡ true
      go true e = refl
      go false e = absurd (let no : ◌≡◌ {A = ℕ} 0 1 = cc in omega arith)
  bound-or-input (scope-name {w = v} {t = u} {Γ = Γ} {bound = bound} n x) w t e h = go (same_name w v) (λ f g. bound-or-input x w t f g) e h
    where
      go : (b : Bool) → (nearest_type Γ w ≡ some t → is_among w bound ≡ false → same_name w input ≡ true)
          → cond b (some u) (nearest_type Γ w) ≡ some t → cond b true (is_among w bound) ≡ false → same_name w input ≡ true
      go true f e h = absurd (let no : ◌≡◌ {A = ℕ} 0 1 = cc in omega arith)
      go false f e h = f e h

  not_found : {Γ : List TypedName} {bound : List (List ℕ)} {Δ : List Ty} → InScope Γ bound Δ → (w : List ℕ) → nearest_type Γ w ≡ none
      → (is_among w bound ≡ false) × (same_name w input ≡ false)
  not_found (scope-input {t = u} n) w e = go (same_name w input) e
    where
      go : (b : Bool) → cond b (some u) none ≡ none → (false ≡ false) × (b ≡ false)
      go true e = absurd (let no : ◌≡◌ {A = ℕ} 0 1 = cc in omega arith)
      go false e = (refl, refl)
  not_found (scope-name {w = v} {t = u} {Γ = Γ} {bound = bound} n x) w e = go (same_name w v) (λ h. not_found x w h) e
    where
      go : (b : Bool) → (nearest_type Γ w ≡ none → (is_among w bound ≡ false) × (same_name w input ≡ false))
          → cond b (some u) (nearest_type Γ w) ≡ none → (cond b true (is_among w bound) ≡ false) × (same_name w input ≡ false)
      go true f e = absurd (let no : ◌≡◌ {A = ℕ} 0 1 = cc in omega arith)
      go false f e = f e

  as-var : {Γ : List TypedName} {bound : List (List ℕ)} {Δ : List Ty} → InScope Γ bound Δ → (w t : List ℕ) → nearest_type Γ w ≡ some t
      → name_meant A bound w ≡ Var (distance w bound)
  as-var {bound = bound} x w t e = go (is_among w bound) (is_declared constructor_role w D) refl refl
    where
      go : (a b : Bool) → is_among w bound ≡ a → is_declared constructor_role w D ≡ b
          → cond a (Var (distance w bound)) (cond b (as_constant (constructor_meant (constructor_entries A) w)) (Var (distance w bound)))
          ≡ Var (distance w bound)
      go true b p q = refl
      go false false p q = refl
      go false true p q =
          let same : w ≡ input = same-equal w input (bound-or-input x w t e p) in
          let f : is_declared constructor_role w D ≡ false =
          subst (λ z. is_declared constructor_role z D ≡ false) (sym same) (input-no-constructor A K.good) in
          absurd (let no : ◌≡◌ {A = ℕ} 0 1 = cc in omega arith)

  as-made : {Γ : List TypedName} {bound : List (List ℕ)} {Δ : List Ty} → InScope Γ bound Δ → (w : List ℕ) → nearest_type Γ w ≡ none
      → is_declared constructor_role w D ≡ true → name_meant A bound w ≡ as_constant (constructor_meant (constructor_entries A) w)
  as-made x w e h = rw ((not_found x w e).0, h)

  module _ (C : Ty → Type 0) (declared : (t u v : List ℕ) → PairDeclared A t u v → C (TyTuple (M u) (M v)))
      (of-names : (u v : List ℕ) → is_named u U ≡ true → is_named v U ≡ true → C (TyTuple (M u) (M v)) → (t : List ℕ) × PairDeclared A t u v) where
    pub name-sound : {Γ : List TypedName} {bound : List (List ℕ)} {Δ : List Ty} {e : Expression} {t : List ℕ} → NameTyped A Γ e t
        → AllPass (expression_checks D bound e) → InScope Γ bound Δ → (Typed C Δ (by_distances A bound e) (M t)) × (is_named t U ≡ true)
    name-sound {Δ = Δ} (bound_typed {w = w} {t = t} e) good x =
        let f = found-named x w t e in
        (subst (λ g. Typed C Δ g (M t)) (sym (as-var x w t e)) (t_var f.0), f.1)
    name-sound {Δ = Δ} (made_typed {w = w} {t = t} e h c) good x = (
      subst (λ g. Typed C Δ g (M t)) (sym (as-made x w e h))
          (subst (λ τ. Typed C Δ (as_constant (constructor_meant (constructor_entries A) w)) τ) (sym (constructor-means w t c)) (t_const (constructor-fits w h))),
      constructor-in-table 1 [] A w t c,
    )
    name-sound (unknown_typed {t = t}) good x = (t_const (undefined-fits t), type-in-table t (passes good))
    name-sound {bound = bound} {Δ = Δ} (couple_typed {t = t} {u = u} {v = v} {e = e} {f = f} y z d) good x =
        let both = pass-both (expression_checks D bound e) (expression_checks D bound f) good in
        let a = name-sound y both.0 x in
        let b = name-sound z both.1 x in
        let m = pair-means d in (
          subst (λ τ. Typed C Δ (by_distances A bound (PairExpression e f)) τ) (sym m.0) (t_tuple a.0 b.0 (declared t u v d)),
          m.3,
        )
    name-sound {bound = bound} {Δ = Δ} (first_part_typed {e = e} y d) good x =
        let m = pair-means d in
        (t_index1 (subst (λ τ. Typed C Δ (by_distances A bound e) τ) m.0 (name-sound y good x).0), m.1)
    name-sound {bound = bound} {Δ = Δ} (second_part_typed {e = e} y d) good x =
        let m = pair-means d in
        (t_index2 (subst (λ τ. Typed C Δ (by_distances A bound e) τ) m.0 (name-sound y good x).0), m.2)
    name-sound {bound = bound} (let_typed {w = w} {p = p} {e = e} {f = f} y z) good x =
        let both = pass-both (expression_checks D bound e) (expression_checks D (w ∷ bound) f) (after-new D (identifier w p) good) in
        let a = name-sound y both.0 x in
        let b = name-sound z both.1 (scope-name a.1 x) in
        (t_let a.0 b.0, b.1)
    name-sound {bound = bound} (rec_typed {u = u} {w = w} {p = p} {e = e} {f = f} y z) good x =
        let both = pass-both (expression_checks D (w ∷ bound) e) (expression_checks D (w ∷ bound) f) (after-new D (identifier w p) (pass-rest good)) in
        let n = type-in-table u (passes good) in
        let a = name-sound y both.0 (scope-name n x) in
        let b = name-sound z both.1 (scope-name n x) in
        (t_letrec a.0 b.0, b.1)
    name-sound {bound = bound} (if_typed {m = m} {e = e} {f = f} {g = g} y q z r) good x =
        let one = pass-both ((expression_checks D bound e ++ pattern_checks D m) ++ expression_checks D bound f) (expression_checks D bound g) good in
        let two = pass-both (expression_checks D bound e ++ pattern_checks D m) (expression_checks D bound f) one.0 in
        let three = pass-both (expression_checks D bound e) (pattern_checks D m) two.0 in
        let b = name-sound z two.1 x in
        (t_if (name-sound y three.0 x).0 (pattern-sound q) b.0 (name-sound r one.1 x).0, b.1)
    name-sound {bound = bound} {Δ = Δ} (delay_typed {t = t} {c = c} {e = e} h y) good x =
        let both = pass-both (constant_names D c) (expression_checks D bound e) good in
        let a = name-sound y both.1 x in
        (rw h (t_delay (constant-fits c t both.0 h) a.0), a.1)

    pub record NameFound (Γ : List TypedName) (e : Expression) (τ : Ty) : Type 0 where
      pub type : List ℕ
      pub known : is_named type U ≡ true
      pub means : M type ≡ τ
      pub typed : NameTyped A Γ e type

    pub name-found : (e : Expression) {Γ : List TypedName} {bound : List (List ℕ)} {Δ : List Ty} {τ : Ty} → AllPass (expression_checks D bound e)
        → AllPass (constant_checks A e) → InScope Γ bound Δ → Typed C Δ (by_distances A bound e) τ → NameFound Γ e τ
    name-found (NameUse (identifier w p)) {Γ} {bound} {Δ} {τ} good held x y = go (nearest_type Γ w) refl
      where
        go : (o : Option (List ℕ)) → nearest_type Γ w ≡ o → NameFound Γ (NameUse (identifier w p)) τ
        go (some t) e =
            let f = found-named x w t e in
            let v = var-is (subst (λ g. Typed C Δ g τ) (as-var x w t e) y) in
            record { type = t; known = f.1; means = one-named f.0 v; typed = bound_typed e }
        go none e =
            let n = not_found x w e in
            let h : is_declared value_roles w D ≡ true = rw n.0 at (passes good) in
            let c = constructor-role (is_declared constructor_role w D) refl h n.1 in
            let t = constructor-some w c in
            let k = const-is (subst (λ g. Typed C Δ g τ) (as-made x w e c) y) in
            record {
              type = t.0;
              known = constructor-in-table 1 [] A w t.0 t.1;
              means = constructor-means w t.0 t.1 ∙ k;
              typed = made_typed e c t.1;
            }
          where
            constructor-role : (b : Bool) → is_declared constructor_role w D ≡ b → is_declared value_roles w D ≡ true → same_name w input ≡ false
                → is_declared constructor_role w D ≡ true
            constructor-role true e h n = e
            constructor-role false e h n = let f = value-or-input A w h e in absurd (let no : ◌≡◌ {A = ℕ} 0 1 = cc in omega arith)
    name-found (UndefinedOf (identifier t p)) good held x y =
        record { type = t; known = type-in-table t (passes good); means = const-is y; typed = unknown_typed }
    name-found (PairExpression e f) {bound = bound} good held x (t_tuple {σ = σ} {τ = ρ} y z d) =
        let both = pass-both (expression_checks D bound e) (expression_checks D bound f) good in
        let helds = pass-both (constant_checks A e) (constant_checks A f) held in
        let a = name-found e both.0 helds.0 x y in
        let b = name-found f both.1 helds.1 x z in
        let t = of-names a.type b.type a.known b.known (subst C (ap₂ TyTuple (sym a.means) (sym b.means)) d) in
        let m = pair-means t.1 in
        record { type = t.0; known = m.3; means = m.0 ∙ ap₂ TyTuple a.means b.means; typed = couple_typed a.typed b.typed t.1 }
    name-found (FirstOf e) good held x (t_index1 {σ = σ} {τ = ρ} y) =
        let a = name-found e good held x y in
        let q = parts-of a.type σ ρ a.known a.means in
        record { type = q.first; known = q.first-named; means = q.first-is; typed = first_part_typed a.typed q.declared }
    name-found (SecondOf e) good held x (t_index2 {σ = σ} {τ = ρ} y) =
        let a = name-found e good held x y in
        let q = parts-of a.type σ ρ a.known a.means in
        record { type = q.second; known = q.second-named; means = q.second_is; typed = second_part_typed a.typed q.declared }
    name-found (LetExpression (identifier w p) e f) {Γ} {bound} {Δ} good held x (t_let {σ = σ} {τ = ρ} y z) =
        let both = pass-both (expression_checks D bound e) (expression_checks D (w ∷ bound) f) (after-new D (identifier w p) good) in
        let helds = pass-both (constant_checks A e) (constant_checks A f) held in
        let a = name-found e both.0 helds.0 x y in
        let b = name-found f both.1 helds.1 (scope-name a.known x)
        (subst (λ κ. Typed C (κ ∷ Δ) (by_distances A (w ∷ bound) f) ρ) (sym a.means) z) in
        record { type = b.type; known = b.known; means = b.means; typed = let_typed a.typed b.typed }
    name-found (LetRecExpression (identifier u q) (identifier w p) e f) {Γ} {bound} good held x (t_letrec y z) =
        let both = pass-both (expression_checks D (w ∷ bound) e) (expression_checks D (w ∷ bound) f) (after-new D (identifier w p) (pass-rest good)) in
        let helds = pass-both (constant_checks A e) (constant_checks A f) held in
        let n = type-in-table u (passes good) in
        let a = name-found e both.0 helds.0 (scope-name n x) y in
        let b = name-found f both.1 helds.1 (scope-name n x) z in
        let same = K.one a.type u a.known n a.means in
        record { type = b.type; known = b.known; means = b.means; typed = rec_typed (subst (NameTyped A (typed_name w u ∷ Γ) e) same a.typed) b.typed }
    name-found (IfExpression e m f g) {Γ} {bound} good held x (t_if {σ = σ} y q z r) =
        let one = pass-both ((expression_checks D bound e ++ pattern_checks D m) ++ expression_checks D bound f) (expression_checks D bound g) good in
        let two = pass-both (expression_checks D bound e ++ pattern_checks D m) (expression_checks D bound f) one.0 in
        let three = pass-both (expression_checks D bound e) (pattern_checks D m) two.0 in
        let last-held = pass-both (constant_checks A e ++ constant_checks A f) (constant_checks A g) held in
        let helds = pass-both (constant_checks A e) (constant_checks A f) last-held.0 in
        let a = name-found e three.0 helds.0 x y in
        let b = name-found f two.1 helds.1 x z in
        let c = name-found g one.1 last-held.1 x r in
        let same = K.one c.type b.type c.known b.known (c.means ∙ sym b.means) in
        record {
          type = b.type;
          known = b.known;
          means = b.means;
          typed =
              if_typed a.typed (pattern-complete m a.type three.1 a.known (subst (HasType (pattern_meant A m)) (sym a.means) q)) b.typed
              (subst (NameTyped A Γ g) same c.typed);
        }
    name-found (DelayExpression c e) {Γ} {bound} {Δ} {τ} good held x y =
        let both = pass-both (constant_names D c) (expression_checks D bound e) good in
        go (constant_type A c) refl (passes held) y (λ z. name-found e both.1 (pass-rest held) x z)
      where
        go : (o : Option (List ℕ)) → constant_type A c ≡ o → is_typed o ≡ true
            → Typed C Δ (Delay [] (type_or (type_entries A) o) (constant_values A c) (by_distances A bound e)) τ
            → (Typed C Δ (by_distances A bound e) τ → NameFound Γ e τ) → NameFound Γ (DelayExpression c e) τ
        go none h t y f = absurd (let no : ◌≡◌ {A = ℕ} 0 1 = cc in omega arith)
        go (some t) h k y f =
            let d = delay-is y in
            let a = f d.1 in
            let n = constant-named c t (pass-both (constant_names D c) (expression_checks D bound e) good).0 h in
            let same = K.one a.type t a.known n (a.means ∙ sym d.0) in
            record { type = t; known = n; means = d.0; typed = delay_typed h (subst (NameTyped A Γ e) same a.typed) }
