-- The constant of a DELAY stands for its value: a constructor's type is the type that declares it, and a pair's the first declared pair type
-- of its parts. A type name once declared keeps its meaning, since no later declaration takes it.
-- Assumes nothing.
use Prim.Native.Nat.{ℕ, suc, ◌+◌, ◌≤◌, min}
use mathlib.Core.Path.{◌≡◌, refl, ap, ap₂, sym, subst, ◌∙◌}
use mathlib.Core.Bool.{Bool, true, false, cond}
use mathlib.Core.List.{List, [], ◌∷◌, ◌++◌, head-eq_of_cons-eq}
use mathlib.Core.Option.{Option, none, some}
use native.Mathlib.Omega.{arith}
use lib.ListN.{length, replicate, length-append, length-replicate, replicate-append-replicate, take, drop}
use lib.Seq.{take_at, drop_at}
use Rattle.picoella.specs.Language.{Ty, Flat, TyTuple, leaves}
use Rattle.grammar.specs.Source.{identifier, Declaration, Constructors, PairOf, SourceConstant, OfConstructor, Undefined, ConstantPair}
use Rattle.name_rules.specs.Declared.{same_name, is_among, DeclaredName, is_declared, constructor_role, a_type, at_first}
use Rattle.name_rules.specs.Checks.{AllPass}
use Rattle.name_rules.specs.Constants.{letters, all_letters, type_of_constructor, first_pair_type, pair_type_of, constant_type, is_typed}
use Rattle.name_rules.specs.Names.{add, declaration_checks, declarations_checks, after_declaration, after_all, constant_names}
use Rattle.name_rules.proofs.SameName.{same-equal}
use Rattle.meaning.specs.Constants.{ConstantTree, Cons, CoTuple, ConstantOf, of_cons, of_tuple, flatten, bottom_of_type}
use Rattle.meaning.proofs.Order.{value-length}
use Rattle.meaning.proofs.FlattenOneToOne.{flatten-typed, flatten-one}
use Rattle.layout.specs.Resolved.{
  TypeEntry,
  type_meant,
  after_entry,
  type_entries_from,
  type_entries,
  Meant,
  ConstructorEntry,
  constructor_entries_of,
  constructor_entries_from,
  constructor_entries,
  constructor_meant,
}
use Rattle.layout.specs.Distances.{type_or, constant_values}
use Rattle.layout.proofs.ConstructorTables.{pass-both, passes, pass-rest}
use Rattle.layout.proofs.Tables.{Known, after-known, no-type}
use Rattle.text_meaning.specs.NamedValues.{NamedValue, Made, Couple, leaf_value}
use Rattle.text_meaning.specs.Circuits.{unknown_named, constant_value}
use Rattle.text_meaning.proofs.Naming.{name_tree, KnownType, known-flat, known-pair}
use Rattle.text_meaning.proofs.Matched.{IsNumber}
use Rattle.text_meaning.proofs.Related.{StandsFor}
use Rattle.text_meaning.proofs.InScope.{bottom-of-type}
use Rattle.text_meaning.proofs.NamesStand.{all-differ, constructor-has-number, type-known, unknown-is}
use Rattle.text_meaning.proofs.TakenNames.{AllTaken, after-taken, later_same, first_entry, among-entry, not-among-entry}

module _ (w u : List ℕ) where
  -- the type that declares a constructor
  constructor-type : (i : ℕ) (D : List DeclaredName) (T : List TypeEntry) (ds : List Declaration) → AllTaken D T
      → AllPass (declarations_checks D ds) → type_of_constructor ds w ≡ some u
      → type_meant (type_entries_from i T ds) u
      ≡ Flat (constructor_meant (constructor_entries_from i ds) w).type (constructor_meant (constructor_entries_from i ds) w).constructors
  constructor-type i D T [] h good e = absurd (let no : ◌≡◌ {A = ℕ} 0 1 = cc in omega arith)
  constructor-type i D T (PairOf t a b ∷ ds) h good e =
      let both = pass-both (declaration_checks D (PairOf t a b)) (declarations_checks (add a_type t D) ds) good in
      constructor-type (suc i) (add a_type t D) (after_entry i T (PairOf t a b)) ds (after-taken D T i (PairOf t a b) h) both.1 e
  constructor-type i D T (Constructors t c cs ∷ ds) h good e =
      let d = Constructors t c cs in
      let both = pass-both (declaration_checks D d) (declarations_checks (after_declaration D d) ds) good in
      go (is_among w (all_letters (c ∷ cs))) refl
      (constructor-type (suc i) (after_declaration D d) (after_entry i T d) ds (after-taken D T i d h) both.1)
      (later_same (letters t) (suc i) (after_declaration D d) (after_entry i T d) ds (after-taken D T i d h)
      (first_entry i T (letters t) (Flat i (length (c ∷ cs)))).1 both.1
      ∙ (first_entry i T (letters t) (Flat i (length (c ∷ cs)))).0) e
    where
      n : ℕ
      n = length (c ∷ cs)

      C : List ConstructorEntry
      C = constructor_entries_from (suc i) ds

      all : Meant
      all = constructor_meant (constructor_entries_of i n 1 (c ∷ cs) ++ C) w

      F : List TypeEntry
      F = type_entries_from (suc i) (after_entry i T (Constructors t c cs)) ds

      go : (b : Bool) → is_among w (all_letters (c ∷ cs)) ≡ b
          → (type_of_constructor ds w ≡ some u → type_meant F u ≡ Flat (constructor_meant C w).type (constructor_meant C w).constructors)
          → type_meant F (letters t) ≡ Flat i n → cond b (some (letters t)) (type_of_constructor ds w) ≡ some u
          → type_meant F u ≡ Flat all.type all.constructors
      go true is other own e =
          let m = among-entry w i n 1 (c ∷ cs) C is in
          let same : letters t ≡ u = cc in
          ap (type_meant F) (sym same) ∙ own ∙ ap₂ Flat (sym m.0) (sym m.1)
      go false is other own e =
          other e
          ∙ ap₂ Flat (ap (λ m. m.type) (sym (not-among-entry w i n 1 (c ∷ cs) C is)))
          (ap (λ m. m.constructors) (sym (not-among-entry w i n 1 (c ∷ cs) C is)))

-- the first declared pair type of two types
module _ (v w u : List ℕ) where
  pair-type : (i : ℕ) (D : List DeclaredName) (T : List TypeEntry) (ds : List Declaration) → AllTaken D T → Known D T
      → AllPass (declarations_checks D ds) → first_pair_type ds v w ≡ some u
      → type_meant (type_entries_from i T ds) u ≡ TyTuple (type_meant (type_entries_from i T ds) v) (type_meant (type_entries_from i T ds) w)
  pair-type i D T [] h k good e = absurd (let no : ◌≡◌ {A = ℕ} 0 1 = cc in omega arith)
  pair-type i D T (Constructors t c cs ∷ ds) h k good e =
      let d = Constructors t c cs in
      let both = pass-both (declaration_checks D d) (declarations_checks (after_declaration D d) ds) good in
      pair-type (suc i) (after_declaration D d) (after_entry i T d) ds (after-taken D T i d h) (after-known i D T d k) both.1 e
  pair-type i D T (PairOf (identifier n p) (identifier a q) (identifier b r) ∷ ds) h k good e =
      let d = PairOf (identifier n p) (identifier a q) (identifier b r) in
      let both = pass-both (declaration_checks D d) (declarations_checks (after_declaration D d) ds) good in
      let parts = pass-rest both.0 in
      let named-a = k.named a (passes parts) in
      let named-b = k.named b (passes (pass-rest parts)) in
      go (same_name v a) (same_name w b) (same-equal v a) (same-equal w b)
      (pair-type (suc i) (after_declaration D d) (after_entry i T d) ds (after-taken D T i d h) (after-known i D T d k) both.1)
      (later_same n (suc i) (after_declaration D d) (after_entry i T d) ds (after-taken D T i d h)
      (first_entry i T n (TyTuple (type_meant T a) (type_meant T b))).1 both.1
      ∙ (first_entry i T n (TyTuple (type_meant T a) (type_meant T b))).0)
      (later_same a i D T (d ∷ ds) h named-a good) (later_same b i D T (d ∷ ds) h named-b good) e
    where
      F : List TypeEntry
      F = type_entries_from (suc i) (after_entry i T (PairOf (identifier n p) (identifier a q) (identifier b r))) ds

      go : (x y : Bool) → (x ≡ true → v ≡ a) → (y ≡ true → w ≡ b)
          → (first_pair_type ds v w ≡ some u → type_meant F u ≡ TyTuple (type_meant F v) (type_meant F w))
          → type_meant F n ≡ TyTuple (type_meant T a) (type_meant T b) → type_meant F a ≡ type_meant T a → type_meant F b ≡ type_meant T b
          → cond (cond x y false) (some n) (first_pair_type ds v w) ≡ some u
          → type_meant F u ≡ TyTuple (type_meant F v) (type_meant F w)
      go true true f g other own fa fb e =
          let same : n ≡ u = cc in
          ap (type_meant F) (sym same) ∙ own
          ∙ ap₂ TyTuple (sym fa ∙ ap (type_meant F) (sym (f refl))) (sym fb ∙ ap (type_meant F) (sym (g refl)))
      go true false f g other own fa fb e = other e
      go false y f g other own fa fb e = other e

bottom-leaves : (τ : Ty) → flatten (bottom_of_type τ) ≡ replicate (leaves τ) 0
bottom-leaves (Flat r n) = refl
bottom-leaves (TyTuple σ τ) =
    ap₂ (λ x y. x ++ y) (bottom-leaves σ) (bottom-leaves τ) ∙ replicate-append-replicate (leaves σ) (leaves τ) 0

-- a constant that is undefined in all its leaves is the undefined one
all-undefined : {τ : Ty} {k : ConstantTree} (n : ℕ) → ConstantOf τ k → flatten k ≡ replicate n 0 → k ≡ bottom_of_type τ
all-undefined {τ} {k} n h e =
    let l = value-length τ (flatten-typed h) in
    let m = length-replicate {A = ℕ} n 0 in
    let same : n ≡ leaves τ = sym m ∙ ap length (sym e) ∙ l in
    flatten-one h (bottom-of-type τ) (e ∙ ap (λ m. replicate m 0) same ∙ sym (bottom-leaves τ))

-- two lists laid end to end, of which the first is as long
apart : (a b c d : List ℕ) → length a ≡ length b → a ++ c ≡ b ++ d → (a ≡ b) × (c ≡ d)
apart a b c d l e = (
  sym (take_at a c (length a) refl) ∙ ap (take (length a)) e ∙ take_at b d (length a) (sym l),
  sym (drop_at a c (length a) refl) ∙ ap (drop (length a)) e ∙ drop_at b d (length a) (sym l),
)

none-taken : AllTaken at_first []
none-taken = record { taken = λ w e. absurd (let no : ◌≡◌ {A = ℕ} 0 1 = cc in omega arith) }

one-leaf : (τ : Ty) → 1 ≤ leaves τ
one-leaf (Flat r n) = omega arith
one-leaf (TyTuple σ τ) = let h = one-leaf σ in omega arith

-- no signature here determines the declarations
module _ (ds : List Declaration) where
  -- a typed constant: its type's name, that it stands for its value, and that it has no more leaves than its type
  record TypedConstant (c : SourceConstant) : Type 0 where
    type : List ℕ
    type-is : constant_type ds c ≡ some type
    stands : StandsFor ds (type_meant (type_entries ds) type) (constant_values ds c) (constant_value ds c)
    few : length (constant_values ds c) ≤ leaves (type_meant (type_entries ds) type)

  parts_typed : (a b : Option (List ℕ)) → is_typed (pair_type_of ds a b) ≡ true → (is_typed a ≡ true) × (is_typed b ≡ true)
  parts_typed none b h = absurd (let no : ◌≡◌ {A = ℕ} 0 1 = cc in omega arith)
  parts_typed (some v) none h = absurd (let no : ◌≡◌ {A = ℕ} 0 1 = cc in omega arith)
  parts_typed (some v) (some w) h = (refl, refl)

  module _ (good : AllPass (declarations_checks at_first ds)) where
    -- the type of a constant: what its name means
    pub constructor-of : (w u : List ℕ) → type_of_constructor ds w ≡ some u
        → type_meant (type_entries ds) u
        ≡ Flat (constructor_meant (constructor_entries ds) w).type (constructor_meant (constructor_entries ds) w).constructors
    constructor-of w u e = constructor-type w u 1 at_first [] ds none-taken good e

    pub pair-of : (v w u : List ℕ) → first_pair_type ds v w ≡ some u
        → type_meant (type_entries ds) u ≡ TyTuple (type_meant (type_entries ds) v) (type_meant (type_entries ds) w)
    pair-of v w u e = pair-type v w u 1 at_first [] ds none-taken no-type good e

module _ {ds : List Declaration} (good : AllPass (declarations_checks at_first ds)) where
  -- a constructor as a constant of its type
  pub constructor-stands : (w : List ℕ) (m : Meant) → IsNumber ds w m → KnownType ds (Flat m.type m.constructors)
      → StandsFor ds (Flat m.type m.constructors) (m.number ∷ []) (Made w)
  constructor-stands w m is known = record { value = go; known = known }
    where
      go : (c : ConstantTree) → ConstantOf (Flat m.type m.constructors) c → flatten c ≡ m.number ∷ [] → name_tree ds c ≡ Made w
      go (CoTuple _ _) x4 e = elim x4 [ ]
      go (Cons i r) (of_cons h) e =
          ap (leaf_value ds m.type) (head-eq_of_cons-eq e ∙ is.number_is) ∙ ap Made is.name-is

  -- `?t`, with at most 64 leaves
  pub unknown-stands : (w : List ℕ) (n : ℕ) → StandsFor ds (type_meant (type_entries ds) w) (replicate n 0) (unknown_named ds w)
  unknown-stands w n =
      record {
        value = λ c h e. ap (name_tree ds) (all-undefined n h e) ∙ unknown-is ds (all-differ at_first ds good) w;
        known = type-known ds (all-differ at_first ds good) w;
      }

  of-constructor : (w : List ℕ) (p : ℕ) → is_declared constructor_role w (after_all at_first ds) ≡ true → (o : Option (List ℕ))
      → type_of_constructor ds w ≡ o → is_typed o ≡ true → TypedConstant ds (OfConstructor (identifier w p))
  of-constructor w p h none e t = absurd (let no : ◌≡◌ {A = ℕ} 0 1 = cc in omega arith)
  of-constructor w p h (some u) e t =
      let m = constructor_meant (constructor_entries ds) w in
      let is = constructor-of ds good w u e in
      record {
        type = u;
        type-is = e;
        stands = subst (λ τ. StandsFor ds τ (m.number ∷ []) (Made w)) (sym is)
            (constructor-stands w m (constructor-has-number ds w h) (subst (KnownType ds) is (type-known ds (all-differ at_first ds good) u)));
        few = one-leaf (type_meant (type_entries ds) u);
      }

  -- the type of a declared constructor is known
  pub constructor-known : (w : List ℕ) → is_declared constructor_role w (after_all at_first ds) ≡ true
      → KnownType ds (Flat (constructor_meant (constructor_entries ds) w).type (constructor_meant (constructor_entries ds) w).constructors)
  constructor-known w h =
      let m = constructor_meant (constructor_entries ds) w in
      known-flat (constructor-has-number ds w h).many (all-differ at_first ds good m.type)

  two-stand : (σ τ : Ty) (v w : List ℕ) (x y : NamedValue) → StandsFor ds σ v x → StandsFor ds τ w y → length v ≤ leaves σ
      → length w ≤ leaves τ → StandsFor ds (TyTuple σ τ) (v ++ w) (Couple x y)
  two-stand σ τ v w x y a b h k = record { value = go; known = known-pair a.known b.known }
    where
      go : (c : ConstantTree) → ConstantOf (TyTuple σ τ) c → flatten c ≡ v ++ w → name_tree ds c ≡ Couple x y
      go (Cons constructor type) x3 e = elim x3 [ ]
      go (CoTuple c d) (of_tuple f g) e =
          let lc = value-length σ (flatten-typed f) in
          let ld = value-length τ (flatten-typed g) in
          let both : length (flatten c) + length (flatten d) ≡ length v + length w =
          sym (length-append (flatten c) (flatten d)) ∙ ap length e ∙ length-append v w in
          let parts = apart (flatten c) v (flatten d) w (omega arith) e in
          ap₂ Couple (a.value c f parts.0) (b.value d g parts.1)

  of_pair : (p : ℕ) (c d : SourceConstant) → TypedConstant ds c → TypedConstant ds d → (o : Option (List ℕ)) → constant_type ds (ConstantPair p c d) ≡ o
      → is_typed o ≡ true → TypedConstant ds (ConstantPair p c d)
  of_pair p c d x y none e t = absurd (let no : ◌≡◌ {A = ℕ} 0 1 = cc in omega arith)
  of_pair p c d x y (some u) e t =
      let first : first_pair_type ds x.type y.type ≡ some u = rw (x.type-is, y.type-is) at e in
      let is = pair-of ds good x.type y.type u first in
      let l = length-append (constant_values ds c) (constant_values ds d) in
      let fx = x.few in
      let fy = y.few in
      let n : leaves (type_meant (type_entries ds) u)
      ≡ leaves (type_meant (type_entries ds) x.type) + leaves (type_meant (type_entries ds) y.type) = ap leaves is in
      record {
        type = u;
        type-is = e;
        stands = subst (λ τ. StandsFor ds τ (constant_values ds c ++ constant_values ds d) (Couple (constant_value ds c) (constant_value ds d))) (sym is)
            (two-stand (type_meant (type_entries ds) x.type) (type_meant (type_entries ds) y.type) (constant_values ds c) (constant_values ds d)
            (constant_value ds c) (constant_value ds d) x.stands y.stands fx fy);
        few = omega arith;
      }

  constant-stands : (c : SourceConstant) → AllPass (constant_names (after_all at_first ds) c) → is_typed (constant_type ds c) ≡ true → TypedConstant ds c
  constant-stands (OfConstructor (identifier w p)) h t = of-constructor w p (passes h) (type_of_constructor ds w) refl t
  constant-stands (Undefined (identifier w p)) h t =
      let l = length-replicate {A = ℕ} (min 64 (leaves (type_meant (type_entries ds) w))) 0 in
      record {
        type = w;
        type-is = refl;
        stands = unknown-stands w (min 64 (leaves (type_meant (type_entries ds) w)));
        few = omega arith;
      }
  constant-stands (ConstantPair p c d) h t =
      let both = pass-both (constant_names (after_all at_first ds) c) (constant_names (after_all at_first ds) d) h in
      let typed = parts_typed ds (constant_type ds c) (constant_type ds d) t in
      of_pair p c d (constant-stands c both.0 typed.0) (constant-stands d both.1 typed.1)
      (constant_type ds (ConstantPair p c d)) refl t

  -- as a delay holds it
  pub held-stands : (c : SourceConstant) → AllPass (constant_names (after_all at_first ds) c) → is_typed (constant_type ds c) ≡ true
      → StandsFor ds (type_or (type_entries ds) (constant_type ds c)) (constant_values ds c) (constant_value ds c)
  held-stands c h t = let x = constant-stands c h t in rw x.type-is x.stands
