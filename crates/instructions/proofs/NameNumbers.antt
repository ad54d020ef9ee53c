-- The numbers of a declared name, counted among the names declared up to it, are those of the text's tables. A type's needs only that the
-- name stands for a type; a constructor's that each name is declared once, as the checks on declarations say.
-- Assumes nothing.
use Prim.Native.Nat.{ℕ, suc}
use native.Mathlib.Omega.{arith}
use mathlib.Core.Path.{◌≡◌, refl, sym, ap, subst, ◌∙◌}
use mathlib.Core.Logic.{◌⊎◌, inl, inr}
use mathlib.Core.Bool.{Bool, true, false, cond, not}
use mathlib.Core.List.{List, [], ◌∷◌, ◌++◌}
use lib.ListN.{length}
use Rattle.picoella.specs.Language.{Ty, Flat, TyTuple}
use Rattle.grammar.specs.Source.{Identifier, identifier, Declaration, Constructors, PairOf}
use Rattle.name_rules.specs.Declared.{Role, a_type, a_constructor, DeclaredName, declared_as, same_name, is_taken, is_declared, type_role, constructor_role, at_first, input}
use Rattle.name_rules.specs.Checks.{AllPass}
use Rattle.name_rules.specs.Constants.{letters}
use Rattle.name_rules.specs.Names.{add_all, after_declaration, after_all, constructor_checks, declaration_checks, declarations_checks}
use Rattle.name_rules.proofs.SameName.{same-equal}
use Rattle.layout.specs.Resolved.{
  TypeEntry,
  type_entry,
  type_meant,
  type_number,
  after_entry,
  type_entries_from,
  type_entries,
  ConstructorEntry,
  constructor_entry,
  constructor_entries_of,
  constructor_entries_from,
  constructor_entries,
  Meant,
  constructor_meant,
}
use Rattle.layout.proofs.ConstructorTables.{pass-both, passes, pass-rest}
use Rattle.instructions.specs.TokenOrder.{named_from, types_among, constructors_among}

pub never_true : {P : Type 0} → false ≡ true → P
never_true e = absurd (let o : ◌≡◌ {A = ℕ} 0 1 = cc in omega arith)

-- the types

pub record TypesAgree (i : ℕ) (D : List DeclaredName) (T : List TypeEntry) : Type 0 where
  pub next : suc (types_among D) ≡ i
  pub agree : (w : List ℕ) → is_declared type_role w D ≡ true → types_among (named_from w D) ≡ type_number T w

type-agrees : {i : ℕ} {D : List DeclaredName} {T : List TypeEntry} (v : List ℕ) (τ : Ty) → TypesAgree i D T
    → TypesAgree (suc i) (declared_as v a_type ∷ D) (type_entry v i τ ∷ T)
type-agrees {i} {D} {T} v τ a = record { next = ap suc a.next; agree = λ w. go w (same_name w v) }
  where
    go : (w : List ℕ) (x : Bool) → cond x true (is_declared type_role w D) ≡ true
        → types_among (cond x (declared_as v a_type ∷ D) (named_from w D)) ≡ cond x i (type_number T w)
    go w true h = a.next
    go w false h = a.agree w h

constructors-agree : {i : ℕ} {D : List DeclaredName} {T : List TypeEntry} (cs : List Identifier) → TypesAgree i D T → TypesAgree i (add_all cs D) T
constructors-agree [] a = a
constructors-agree {i} {D} {T} (identifier v p ∷ cs) a =
    constructors-agree {D = declared_as v a_constructor ∷ D} cs (record { next = a.next; agree = λ w. go w (same_name w v) })
  where
    go : (w : List ℕ) (x : Bool) → cond x false (is_declared type_role w D) ≡ true
        → types_among (cond x (declared_as v a_constructor ∷ D) (named_from w D)) ≡ type_number T w
    go w true h = never_true h
    go w false h = a.agree w h

pub declaration-agrees : {i : ℕ} {D : List DeclaredName} {T : List TypeEntry} (d : Declaration) → TypesAgree i D T
    → TypesAgree (suc i) (after_declaration D d) (after_entry i T d)
declaration-agrees {i} (Constructors (identifier v p) c cs) a = constructors-agree (c ∷ cs) (type-agrees v (Flat i (length (c ∷ cs))) a)
declaration-agrees {T} (PairOf (identifier v p) m n) a = type-agrees v (TyTuple (type_meant T (letters m)) (type_meant T (letters n))) a

all-agree : {i : ℕ} {D : List DeclaredName} {T : List TypeEntry} (ds : List Declaration) → TypesAgree i D T
    → (w : List ℕ) → is_declared type_role w (after_all D ds) ≡ true → types_among (named_from w (after_all D ds)) ≡ type_number (type_entries_from i T ds) w
all-agree [] a = a.agree
all-agree {i} (d ∷ ds) a = all-agree {i = suc i} ds (declaration-agrees d a)

pub first-agrees : TypesAgree 1 at_first []
first-agrees = record { next = refl; agree = λ w. go w (same_name w input) }
  where
    go : (w : List ℕ) (x : Bool) → cond x false false ≡ true → types_among (cond x at_first []) ≡ 0
    go w true h = refl
    go w false h = refl

-- a name that is declared once keeps its place

new-other : (D : List DeclaredName) (v w : List ℕ) → not (is_taken v D) ≡ true → is_taken w D ≡ true → same_name w v ≡ false
new-other D v w h t = go (same_name w v) refl
  where
    go : (x : Bool) → same_name w v ≡ x → x ≡ false
    go true e = never_true (sym (ap not (ap (λ u. is_taken u D) (sym (same-equal w v e)) ∙ t)) ∙ h)
    go false e = refl

-- one more declared name after another one
module _ (D : List DeclaredName) (v w : List ℕ) (r : Role) (h : same_name w v ≡ false) where
  past-taken : is_taken w (declared_as v r ∷ D) ≡ is_taken w D
  past-taken = ap (λ x. cond x true (is_taken w D)) h

  past-named : named_from w (declared_as v r ∷ D) ≡ named_from w D
  past-named = ap (λ x. cond x (declared_as v r ∷ D) (named_from w D)) h

constructors-kept : (w : List ℕ) (D : List DeclaredName) (cs : List Identifier) → AllPass (constructor_checks D cs) → is_taken w D ≡ true
    → (named_from w (add_all cs D) ≡ named_from w D) × (is_taken w (add_all cs D) ≡ true)
constructors-kept w D [] g t = (refl, t)
constructors-kept w D (identifier v p ∷ cs) g t =
    let o = new-other D v w (passes g) t in
    let k = constructors-kept w (declared_as v a_constructor ∷ D) cs (pass-rest g) (past-taken D v w a_constructor o ∙ t) in
    (k.0 ∙ past-named D v w a_constructor o, k.1)

all-kept : (w : List ℕ) (D : List DeclaredName) (ds : List Declaration) → AllPass (declarations_checks D ds) → is_taken w D ≡ true
    → named_from w (after_all D ds) ≡ named_from w D
all-kept w D [] g t = refl
all-kept w D (Constructors (identifier v p) c cs ∷ ds) g t =
    let d = Constructors (identifier v p) c cs in
    let b = pass-both (declaration_checks D d) (declarations_checks (after_declaration D d) ds) g in
    let o = new-other D v w (passes b.0) t in
    let k = constructors-kept w (declared_as v a_type ∷ D) (c ∷ cs) (pass-rest b.0) (past-taken D v w a_type o ∙ t) in
    all-kept w (after_declaration D d) ds b.1 k.1 ∙ k.0 ∙ past-named D v w a_type o
all-kept w D (PairOf (identifier v p) m n ∷ ds) g t =
    let d = PairOf (identifier v p) m n in
    let b = pass-both (declaration_checks D d) (declarations_checks (after_declaration D d) ds) g in
    let o = new-other D v w (passes b.0) t in
    all-kept w (declared_as v a_type ∷ D) ds b.1 (past-taken D v w a_type o ∙ t) ∙ past-named D v w a_type o

-- the role of a name is that of the first of the names from it on
abbrev head_role : (Role → Bool) → List DeclaredName → Bool
head_role roles [] = false
head_role roles (declared_as v r ∷ D) = roles r

head-declared : (roles : Role → Bool) (w : List ℕ) (D : List DeclaredName) → is_declared roles w D ≡ head_role roles (named_from w D)
head-declared roles w [] = refl
head-declared roles w (declared_as v r ∷ D) = go (same_name w v) (head-declared roles w D)
  where
    go : (x : Bool) → is_declared roles w D ≡ head_role roles (named_from w D)
        → cond x (roles r) (is_declared roles w D) ≡ head_role roles (cond x (declared_as v r ∷ D) (named_from w D))
    go true again = refl
    go false again = again

untaken : (w : List ℕ) (D : List DeclaredName) → is_taken w D ≡ false → is_declared constructor_role w D ≡ false
untaken w [] h = refl
untaken w (declared_as v r ∷ D) h = go (same_name w v) h (untaken w D)
  where
    go : (x : Bool) → cond x true (is_taken w D) ≡ false → (is_taken w D ≡ false → is_declared constructor_role w D ≡ false)
        → cond x (constructor_role r) (is_declared constructor_role w D) ≡ false
    go true e again = never_true (sym e)
    go false e again = again e

-- the numbers of a name in the table
pub record NumberedAs (D : List DeclaredName) (m : Meant) : Type 0 where
  pub same-type : types_among D ≡ m.type
  pub same_number : constructors_among D ≡ m.number

-- among constructors that are declared together the name is found, or it is not there
record FoundAmong (w : List ℕ) (D : List DeclaredName) (C : List ConstructorEntry) : Type 0 where
  there : is_taken w D ≡ true
  numbered : NumberedAs (named_from w D) (constructor_meant C w)

record NotAmong (w : List ℕ) (D : List DeclaredName) (C C' : List ConstructorEntry) : Type 0 where
  not_there : is_taken w D ≡ false
  passed : constructor_meant C w ≡ constructor_meant C' w

module _ {w : List ℕ} (t n : ℕ) {C : List ConstructorEntry} where
  among : (D : List DeclaredName) (k : ℕ) (cs : List Identifier) → types_among D ≡ t → suc (constructors_among D) ≡ k → AllPass (constructor_checks D cs)
      → is_taken w D ≡ false
      → FoundAmong w (add_all cs D) (constructor_entries_of t n k cs ++ C) ⊎ NotAmong w (add_all cs D) (constructor_entries_of t n k cs ++ C) C
  among D k [] e f g u = inr (record { not_there = u; passed = refl })
  among D k (identifier v p ∷ cs) e f g u =
      go (same_name w v) refl (λ z. among (declared_as v a_constructor ∷ D) (suc k) cs e (ap suc f) (pass-rest g) z)
    where
      D' : List DeclaredName
      D' = declared_as v a_constructor ∷ D

      C' : List ConstructorEntry
      C' = constructor_entries_of t n (suc k) cs ++ C

      here : Meant
      here = record { type = t; constructors = n; number = k }

      further : same_name w v ≡ false → FoundAmong w (add_all cs D') C' ⊎ NotAmong w (add_all cs D') C' C
          → FoundAmong w (add_all cs D') (constructor_entry v t n k ∷ C') ⊎ NotAmong w (add_all cs D') (constructor_entry v t n k ∷ C') C
      further o (inl a) =
          inl (record { there = a.there; numbered = subst (NumberedAs (named_from w (add_all cs D'))) (sym (ap (λ x. cond x here (constructor_meant C' w)) o)) a.numbered })
      further o (inr a) = inr (record { not_there = a.not_there; passed = ap (λ x. cond x here (constructor_meant C' w)) o ∙ a.passed })

      go : (x : Bool) → same_name w v ≡ x → (is_taken w D' ≡ false → FoundAmong w (add_all cs D') C' ⊎ NotAmong w (add_all cs D') C' C)
          → FoundAmong w (add_all cs D') (constructor_entry v t n k ∷ C') ⊎ NotAmong w (add_all cs D') (constructor_entry v t n k ∷ C') C
      go true o again =
          let a = constructors-kept w D' cs (pass-rest g) (ap (λ x. cond x true (is_taken w D)) o) in
          let b : named_from w (add_all cs D') ≡ D' = a.0 ∙ ap (λ x. cond x D' (named_from w D)) o in
          inl
          (record {
            there = a.1;
            numbered =
                subst (λ m. NumberedAs (named_from w (add_all cs D')) m) (sym (ap (λ x. cond x here (constructor_meant C' w)) o))
                (record { same-type = ap types_among b ∙ e; same_number = ap constructors_among b ∙ f });
          })
      go false o again = further o (again (past-taken D v w a_constructor o ∙ u))

types-added : (D : List DeclaredName) (cs : List Identifier) → types_among (add_all cs D) ≡ types_among D
types-added D [] = refl
types-added D (identifier v p ∷ cs) = types-added (declared_as v a_constructor ∷ D) cs

-- a name that a declaration takes for a type is no constructor afterwards
type-stays : (w v : List ℕ) (D : List DeclaredName) (x : List DeclaredName) → named_from w x ≡ named_from w (declared_as v a_type ∷ D) → same_name w v ≡ true
    → is_declared constructor_role w x ≡ true → ⊥
type-stays w v D x e o h =
    never_true
    (sym (head-declared constructor_role w x ∙ ap (head_role constructor_role) (e ∙ ap (λ y. cond y (declared_as v a_type ∷ D) (named_from w D)) o)) ∙ h)

numbered : (w : List ℕ) (i : ℕ) (D : List DeclaredName) (ds : List Declaration) → suc (types_among D) ≡ i → AllPass (declarations_checks D ds) → is_taken w D ≡ false
    → is_declared constructor_role w (after_all D ds) ≡ true
    → NumberedAs (named_from w (after_all D ds)) (constructor_meant (constructor_entries_from i ds) w)
numbered w i D [] e g u h = never_true (sym (untaken w D u) ∙ h)
numbered w i D (Constructors (identifier v p) c cs ∷ ds) e g u h =
    go (same_name w v) refl
    (λ z y. numbered w (suc i) (after_declaration D (Constructors (identifier v p) c cs)) ds
    (ap suc (types-added (declared_as v a_type ∷ D) (c ∷ cs) ∙ e)) z y h)
  where
    d : Declaration
    d = Constructors (identifier v p) c cs

    D' : List DeclaredName
    D' = declared_as v a_type ∷ D

    b : AllPass (declaration_checks D d) × AllPass (declarations_checks (after_declaration D d) ds)
    b = pass-both (declaration_checks D d) (declarations_checks (after_declaration D d) ds) g

    goal : Type 0
    goal = NumberedAs (named_from w (after_all D (d ∷ ds))) (constructor_meant (constructor_entries_from i (d ∷ ds)) w)

    Again : Type 0
    Again =
        AllPass (declarations_checks (after_declaration D d) ds) → is_taken w (after_declaration D d) ≡ false
        → NumberedAs (named_from w (after_all D (d ∷ ds))) (constructor_meant (constructor_entries_from (suc i) ds) w)

    further : Again → FoundAmong w (after_declaration D d) (constructor_entries_from i (d ∷ ds))
        ⊎ NotAmong w (after_declaration D d) (constructor_entries_from i (d ∷ ds)) (constructor_entries_from (suc i) ds)
        → goal
    further again (inl a) =
        subst (λ x. NumberedAs x (constructor_meant (constructor_entries_from i (d ∷ ds)) w)) (sym (all-kept w (after_declaration D d) ds b.1 a.there)) a.numbered
    further again (inr a) =
        subst (λ m. NumberedAs (named_from w (after_all D (d ∷ ds))) m) (sym a.passed) (again b.1 a.not_there)

    go : (x : Bool) → same_name w v ≡ x → Again → goal
    go true o again =
        let k = constructors-kept w D' (c ∷ cs) (pass-rest b.0) (ap (λ x. cond x true (is_taken w D)) o) in
        absurd (type-stays w v D (after_all D (d ∷ ds)) (all-kept w (after_declaration D d) ds b.1 k.1 ∙ k.0) o h)
    go false o again =
        further again
        (among i (length (c ∷ cs)) D' 1 (c ∷ cs) e refl (pass-rest b.0) (past-taken D v w a_type o ∙ u))
numbered w i D (PairOf (identifier v p) m n ∷ ds) e g u h =
    go (same_name w v) refl (λ z y. numbered w (suc i) (declared_as v a_type ∷ D) ds (ap suc e) z y h)
  where
    d : Declaration
    d = PairOf (identifier v p) m n

    D' : List DeclaredName
    D' = declared_as v a_type ∷ D

    b : AllPass (declaration_checks D d) × AllPass (declarations_checks D' ds)
    b = pass-both (declaration_checks D d) (declarations_checks D' ds) g

    go : (x : Bool) → same_name w v ≡ x
        → (AllPass (declarations_checks D' ds) → is_taken w D' ≡ false → NumberedAs (named_from w (after_all D' ds)) (constructor_meant (constructor_entries_from (suc i) ds) w))
        → NumberedAs (named_from w (after_all D' ds)) (constructor_meant (constructor_entries_from (suc i) ds) w)
    go true o again = absurd (type-stays w v D (after_all D' ds) (all-kept w D' ds b.1 (ap (λ x. cond x true (is_taken w D)) o)) o h)
    go false o again = again b.1 (past-taken D v w a_type o ∙ u)

-- what the names of a text's expression stand for
pub record NamesNumbered (ds : List Declaration) : Type 0 where
  pub types : (w : List ℕ) → is_declared type_role w (after_all at_first ds) ≡ true
      → types_among (named_from w (after_all at_first ds)) ≡ type_number (type_entries ds) w
  pub constructors : (w : List ℕ) → is_declared constructor_role w (after_all at_first ds) ≡ true
      → NumberedAs (named_from w (after_all at_first ds)) (constructor_meant (constructor_entries ds) w)

pub names-numbered : (ds : List Declaration) → AllPass (declarations_checks at_first ds) → NamesNumbered ds
names-numbered ds g = record { types = all-agree ds first-agrees; constructors = λ w. go w (same_name w input) refl }
  where
    go : (w : List ℕ) (x : Bool) → same_name w input ≡ x → is_declared constructor_role w (after_all at_first ds) ≡ true
        → NumberedAs (named_from w (after_all at_first ds)) (constructor_meant (constructor_entries ds) w)
    go w true o h =
        let k = all-kept w at_first ds g (ap (λ x. cond x true false) o) in
        never_true
        (sym (head-declared constructor_role w (after_all at_first ds) ∙ ap (head_role constructor_role) (k ∙ ap (λ y. cond y at_first []) o)) ∙ h)
    go w false o h = numbered w 1 at_first ds refl g (ap (λ x. cond x true false) o) h
