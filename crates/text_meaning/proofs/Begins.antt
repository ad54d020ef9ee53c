-- The circuit of a text is related to the text's expression with distances: a name that a LET takes is at its distance, one that is no
-- constructor is `input`, and no constructor is.
-- Assumes nothing.
use Prim.Native.Nat.{ℕ, zero, suc, min}
use mathlib.Core.Path.{◌≡◌, refl, ap, ap₂, sym, subst, ◌∙◌}
use mathlib.Core.Bool.{Bool, true, false, cond, not}
use mathlib.Core.List.{List, [], ◌∷◌, ◌++◌}
use native.Mathlib.Omega.{arith}
use Rattle.picoella.specs.Language.{Ty, leaves, Expr, Const, Var, Tuple, Index1, Index2, Let, LetRec, If, Delay}
use Rattle.grammar.specs.Source.{Identifier, identifier, Declaration, Constructors, PairOf}
use Rattle.grammar.specs.Source.{
  Expression,
  NameUse,
  UndefinedOf,
  PairExpression,
  FirstOf,
  SecondOf,
  LetExpression,
  LetRecExpression,
  IfExpression,
  DelayExpression,
}
use Rattle.name_rules.specs.Declared.{
  Role,
  a_type,
  a_constructor,
  the_input,
  DeclaredName,
  declared_as,
  same_name,
  is_among,
  input,
  is_taken,
  is_declared,
  value_roles,
  constructor_role,
  at_first,
}
use Rattle.name_rules.specs.Checks.{AllPass}
use Rattle.name_rules.specs.Constants.{letters, constant_checks}
use Rattle.name_rules.specs.Names.{
  add,
  add_all,
  bind,
  constructor_checks,
  declaration_checks,
  declarations_checks,
  after_declaration,
  after_all,
  pattern_checks,
  constant_names,
  expression_checks,
}
use Rattle.name_rules.proofs.SameName.{equal-same, same-equal}
use Rattle.layout.specs.Resolved.{type_meant, type_entries, constructor_meant, constructor_entries, distance}
use Rattle.layout.specs.Distances.{as_constant, name_meant, by_distances, unplaced}
use Rattle.layout.proofs.ConstructorTables.{pass-both, passes, pass-rest, after-new}
use Rattle.text_meaning.specs.Circuits.{NamedCircuit, Uses, circuit_of}
use Rattle.text_meaning.proofs.Naming.{KnownType}
use Rattle.text_meaning.proofs.Related.{BoundAt, at-input, at_here, at_there, NotIn, not-input, not-here, Related, related-name, related-constructor, related-always, related-pair, related-first, related-second, related-let, related-feedback, related-if, related-delay}
use Rattle.text_meaning.proofs.NamesStand.{all-differ, constructor-has-number, type-known, unknown-is}
use Rattle.text_meaning.proofs.TakenNames.{new-name}
use Rattle.text_meaning.proofs.ConstantsStand.{constructor-stands, constructor-known, unknown-stands, held-stands}

-- a declared value that is no constructor is `input`
record OnlyInput (D : List DeclaredName) : Type 0 where
  only : (w : List ℕ) → is_declared value_roles w D ≡ true → is_declared constructor_role w D ≡ false → same_name w input ≡ true

only-more : (D : List DeclaredName) (v : List ℕ) (r : Role) → value_roles r ≡ constructor_role r → OnlyInput D → OnlyInput (declared_as v r ∷ D)
only-more D v r e h = record { only = λ w. go w (same_name w v) }
  where
    go : (w : List ℕ) (b : Bool) → cond b (value_roles r) (is_declared value_roles w D) ≡ true
        → cond b (constructor_role r) (is_declared constructor_role w D) ≡ false → same_name w input ≡ true
    go w true x y = absurd (let no : ◌≡◌ {A = ℕ} 0 1 = cc in omega arith)
    go w false x y = h.only w x y

only-all : (D : List DeclaredName) (cs : List Identifier) → OnlyInput D → OnlyInput (add_all cs D)
only-all D [] h = h
only-all D (identifier v p ∷ cs) h = only-all (add a_constructor (identifier v p) D) cs (only-more D v a_constructor refl h)

only-after : (D : List DeclaredName) (d : Declaration) → OnlyInput D → OnlyInput (after_declaration D d)
only-after D (Constructors (identifier v p) c cs) h = only-all (add a_type (identifier v p) D) (c ∷ cs) (only-more D v a_type refl h)
only-after D (PairOf (identifier v p) a b) h = only-more D v a_type refl h

only-input : (D : List DeclaredName) (ds : List Declaration) → OnlyInput D → OnlyInput (after_all D ds)
only-input D [] h = h
only-input D (d ∷ ds) h = only-input (after_declaration D d) ds (only-after D d h)

only-at-first : OnlyInput at_first
only-at-first = record { only = λ w x y. go (same_name w input) x }
  where
    go : (b : Bool) → cond b true false ≡ true → b ≡ true
    go true e = refl
    go false e = e

-- `input` is taken, and is no constructor
record InputTaken (D : List DeclaredName) : Type 0 where
  taken : is_taken input D ≡ true
  no-constructor : is_declared constructor_role input D ≡ false

taken_more : (D : List DeclaredName) (v : List ℕ) (r : Role) → not (is_taken v D) ≡ true → InputTaken D → InputTaken (declared_as v r ∷ D)
taken_more D v r new h =
    let e = new-name input v D h.taken new in
    record { taken = rw e h.taken; no-constructor = rw e h.no-constructor }

taken-all : (D : List DeclaredName) (cs : List Identifier) → AllPass (constructor_checks D cs) → InputTaken D → InputTaken (add_all cs D)
taken-all D [] good h = h
taken-all D (identifier v p ∷ cs) good h =
    taken-all (add a_constructor (identifier v p) D) cs (pass-rest good) (taken_more D v a_constructor (passes good) h)

taken-after : (D : List DeclaredName) (d : Declaration) → AllPass (declaration_checks D d) → InputTaken D → InputTaken (after_declaration D d)
taken-after D (Constructors (identifier v p) c cs) good h =
    taken-all (add a_type (identifier v p) D) (c ∷ cs) (pass-rest good) (taken_more D v a_type (passes good) h)
taken-after D (PairOf (identifier v p) a b) good h = taken_more D v a_type (passes good) h

input-taken : (D : List DeclaredName) (ds : List Declaration) → AllPass (declarations_checks D ds) → InputTaken D → InputTaken (after_all D ds)
input-taken D [] good h = h
input-taken D (d ∷ ds) good h =
    let both = pass-both (declaration_checks D d) (declarations_checks (after_declaration D d) ds) good in
    input-taken (after_declaration D d) ds both.1 (taken-after D d both.0 h)

taken-at-first : InputTaken at_first
taken-at-first = record { taken = refl; no-constructor = refl }

pub value-or-input : (ds : List Declaration) (w : List ℕ) → is_declared value_roles w (after_all at_first ds) ≡ true
    → is_declared constructor_role w (after_all at_first ds) ≡ false → same_name w input ≡ true
value-or-input ds w = (only-input at_first ds only-at-first).only w

pub input-no-constructor : (ds : List Declaration) → AllPass (declarations_checks at_first ds)
    → is_declared constructor_role input (after_all at_first ds) ≡ false
input-no-constructor ds good = (input-taken at_first ds good taken-at-first).no-constructor

not-the-input : (D : List DeclaredName) → InputTaken D → (w : List ℕ) → is_declared constructor_role w D ≡ true → same_name w input ≡ false
not-the-input D h w c = go (same_name w input) (same-equal w input)
  where
    go : (b : Bool) → (b ≡ true → w ≡ input) → b ≡ false
    go false e = refl
    go true e =
        let f : is_declared constructor_role input D ≡ true = subst (λ x. is_declared constructor_role x D ≡ true) (e refl) c in
        let g = h.no-constructor in
        absurd (let no : ◌≡◌ {A = ℕ} 0 1 = cc in omega arith)

-- where a name is in scope
at-distance : (w : List ℕ) (bound : List (List ℕ)) → is_among w bound ≡ true → BoundAt bound w (distance w bound)
at-distance w [] h = absurd (let no : ◌≡◌ {A = ℕ} 0 1 = cc in omega arith)
at-distance w (v ∷ bound) h = go (same_name w v) refl (at-distance w bound) h
  where
    go : (b : Bool) → same_name w v ≡ b → (is_among w bound ≡ true → BoundAt bound w (distance w bound)) → cond b true (is_among w bound) ≡ true
        → BoundAt (v ∷ bound) w (cond b 0 (suc (distance w bound)))
    go true e f h = at_here e
    go false e f h = at_there e (f h)

input-at : (w : List ℕ) (bound : List (List ℕ)) → is_among w bound ≡ false → same_name w input ≡ true → BoundAt bound w (distance w bound)
input-at w [] h i = at-input i
input-at w (v ∷ bound) h i = go (same_name w v) refl (λ n. input-at w bound n i) h
  where
    go : (b : Bool) → same_name w v ≡ b → (is_among w bound ≡ false → BoundAt bound w (distance w bound)) → cond b true (is_among w bound) ≡ false
        → BoundAt (v ∷ bound) w (cond b 0 (suc (distance w bound)))
    go true e f h = absurd (let no : ◌≡◌ {A = ℕ} 0 1 = cc in omega arith)
    go false e f h = at_there e (f h)

not_in : (w : List ℕ) (bound : List (List ℕ)) → is_among w bound ≡ false → same_name w input ≡ false → NotIn bound w
not_in w [] h i = not-input i
not_in w (v ∷ bound) h i = go (same_name w v) refl (λ n. not_in w bound n i) h
  where
    go : (b : Bool) → same_name w v ≡ b → (is_among w bound ≡ false → NotIn bound w) → cond b true (is_among w bound) ≡ false → NotIn (v ∷ bound) w
    go true e f h = absurd (let no : ◌≡◌ {A = ℕ} 0 1 = cc in omega arith)
    go false e f h = not-here e (f h)

module _ {ds : List Declaration} (good : AllPass (declarations_checks at_first ds)) where
  name-related : (bound : List (List ℕ)) (w : List ℕ) → cond (is_among w bound) true (is_declared value_roles w (after_all at_first ds)) ≡ true
      → Related ds bound (name_meant ds bound w) (Uses w)
  name-related bound w h = go (is_among w bound) (is_declared constructor_role w (after_all at_first ds)) refl refl h
    where
      go : (a b : Bool) → is_among w bound ≡ a → is_declared constructor_role w (after_all at_first ds) ≡ b
          → cond a true (is_declared value_roles w (after_all at_first ds)) ≡ true
          → Related ds bound
          (cond a (Var (distance w bound)) (cond b (as_constant (constructor_meant (constructor_entries ds) w)) (Var (distance w bound)))) (Uses w)
      go true b e f h = related-name (at-distance w bound e)
      go false true e f h =
          let m = constructor_meant (constructor_entries ds) w in
          related-constructor
          (not_in w bound e (not-the-input (after_all at_first ds) (input-taken at_first ds good taken-at-first) w f)) f
          (constructor-stands good w m (constructor-has-number ds w f) (constructor-known good w f))
      go false false e f h = related-name (input-at w bound e ((only-input at_first ds only-at-first).only w h f))

  pub circuit-related : (bound : List (List ℕ)) (e : Expression) → AllPass (expression_checks (after_all at_first ds) bound e)
      → AllPass (constant_checks ds e) → Related ds bound (by_distances ds bound e) (circuit_of ds e)
  circuit-related bound (NameUse (identifier w p)) h k = name-related bound w (passes h)
  circuit-related bound (UndefinedOf (identifier w p)) h k =
      related-always (unknown-stands good w (min 64 (leaves (type_meant (type_entries ds) w))))
  circuit-related bound (PairExpression e f) h k =
      let D = after_all at_first ds in
      let x = pass-both (expression_checks D bound e) (expression_checks D bound f) h in
      let y = pass-both (constant_checks ds e) (constant_checks ds f) k in
      related-pair (circuit-related bound e x.0 y.0) (circuit-related bound f x.1 y.1)
  circuit-related bound (FirstOf e) h k = related-first (circuit-related bound e h k)
  circuit-related bound (SecondOf e) h k = related-second (circuit-related bound e h k)
  circuit-related bound (LetExpression (identifier w p) e f) h k =
      let D = after_all at_first ds in
      let x = pass-both (expression_checks D bound e) (expression_checks D (w ∷ bound) f) (pass-rest h) in
      let y = pass-both (constant_checks ds e) (constant_checks ds f) k in
      related-let (circuit-related bound e x.0 y.0) (circuit-related (w ∷ bound) f x.1 y.1)
  circuit-related bound (LetRecExpression (identifier t q) (identifier w p) e f) h k =
      let D = after_all at_first ds in
      let x = pass-both (expression_checks D (w ∷ bound) e) (expression_checks D (w ∷ bound) f) (pass-rest (pass-rest h)) in
      let y = pass-both (constant_checks ds e) (constant_checks ds f) k in
      related-feedback (type-known ds (all-differ at_first ds good) t) (unknown-is ds (all-differ at_first ds good) t)
      (circuit-related (w ∷ bound) e x.0 y.0) (circuit-related (w ∷ bound) f x.1 y.1)
  circuit-related bound (IfExpression e m f g) h k =
      let D = after_all at_first ds in
      let one = pass-both ((expression_checks D bound e ++ pattern_checks D m) ++ expression_checks D bound f) (expression_checks D bound g) h in
      let two = pass-both (expression_checks D bound e ++ pattern_checks D m) (expression_checks D bound f) one.0 in
      let three = pass-both (expression_checks D bound e) (pattern_checks D m) two.0 in
      let last = pass-both (constant_checks ds e ++ constant_checks ds f) (constant_checks ds g) k in
      let both = pass-both (constant_checks ds e) (constant_checks ds f) last.0 in
      related-if refl (circuit-related bound e three.0 both.0) three.1 (circuit-related bound f two.1 both.1)
      (circuit-related bound g one.1 last.1)
  circuit-related bound (DelayExpression c e) h k =
      let D = after_all at_first ds in
      let x = pass-both (constant_names D c) (expression_checks D bound e) h in
      related-delay (held-stands good c x.0 (passes k)) (circuit-related bound e x.1 (pass-rest k))

-- the places that delays carry do not matter
pub unplaced-related : {ds : List Declaration} {bound : List (List ℕ)} {c : NamedCircuit} (e : Expr) → Related ds bound (unplaced e) c → Related ds bound e c
unplaced-related (Const τ v) h = h
unplaced-related (Var n) h = h
unplaced-related (Tuple e f) (related-pair x y) = related-pair (unplaced-related e x) (unplaced-related f y)
unplaced-related (Index1 e) (related-first x) = related-first (unplaced-related e x)
unplaced-related (Index2 e) (related-second x) = related-second (unplaced-related e x)
unplaced-related (Let e f) (related-let x y) = related-let (unplaced-related e x) (unplaced-related f y)
unplaced-related (LetRec σ e f) (related-feedback k i x y) = related-feedback k i (unplaced-related e x) (unplaced-related f y)
unplaced-related (If e p f g) (related-if q x h y z) = related-if q (unplaced-related e x) h (unplaced-related f y) (unplaced-related g z)
unplaced-related (Delay q τ v e) (related-delay s x) = related-delay s (unplaced-related e x)
