-- Type names are declared once, so that the number of a name stays what it is, and the type that declares a constructor has the number of its
-- name.
-- Assumes nothing.
use Prim.Native.Nat.{ℕ, suc}
use native.Mathlib.Omega.{arith}
use mathlib.Core.Path.{◌≡◌, refl, sym, ap, ap₂, ◌∙◌}
use mathlib.Core.Bool.{Bool, true, false, cond}
use mathlib.Core.List.{List, [], ◌∷◌, ◌++◌}
use mathlib.Core.Option.{Option, some}
use lib.ListN.{length}
use borrow.Author.Tests.{not-true}
use Rattle.grammar.specs.Source.{Identifier, identifier, Declaration, Constructors, PairOf}
use Rattle.name_rules.specs.Declared.{Role, a_type, a_constructor, DeclaredName, declared_as, same_name, is_among, is_taken, is_declared, type_role}
use Rattle.name_rules.proofs.SameName.{same-equal, equal-same}
use Rattle.name_rules.specs.Checks.{PlacedCheck, AllPass}
use Rattle.name_rules.specs.Constants.{letters, all_letters, type_of_constructor}
use Rattle.name_rules.specs.Names.{add, add_all, after_declaration, is_new, declaration_checks, declarations_checks}
use Rattle.layout.specs.Resolved.{
  TypeEntry,
  type_number,
  after_entry,
  type_entries_from,
  ConstructorEntry,
  constructor_entries_of,
  constructor_entries_from,
  constructor_meant,
}
use Rattle.layout.specs.Layout.{number_or}
use Rattle.layout.proofs.ConstructorTables.{pass-both, passes}

-- names that are taken stay taken
taken-added : (w : List ℕ) (s : Role) (n : Identifier) (D : List DeclaredName) → is_taken w D ≡ true → is_taken w (add s n D) ≡ true
taken-added w s (identifier v p) D h = go (same_name w v) h
  where
    go : (b : Bool) → is_taken w D ≡ true → cond b true (is_taken w D) ≡ true
    go true h = refl
    go false h = h

itself-taken : (s : Role) (n : Identifier) (D : List DeclaredName) → is_taken (letters n) (add s n D) ≡ true
itself-taken s (identifier v p) D = ap (λ b. cond b true (is_taken v D)) (equal-same v v refl)

all-taken : (w : List ℕ) (ns : List Identifier) (D : List DeclaredName) → is_taken w D ≡ true → is_taken w (add_all ns D) ≡ true
all-taken w [] D h = h
all-taken w (n ∷ ns) D h = all-taken w ns (add a_constructor n D) (taken-added w a_constructor n D h)

still-taken : (w : List ℕ) (d : Declaration) (D : List DeclaredName) → is_taken w D ≡ true → is_taken w (after_declaration D d) ≡ true
still-taken w (Constructors t c cs) D h = all-taken w (c ∷ cs) (add a_type t D) (taken-added w a_type t D h)
still-taken w (PairOf t a b) D h = taken-added w a_type t D h

abbrev pub type_named : Declaration → Identifier
type_named (Constructors t c cs) = t
type_named (PairOf t a b) = t

name-taken : (d : Declaration) (D : List DeclaredName) → is_taken (letters (type_named d)) (after_declaration D d) ≡ true
name-taken (Constructors t c cs) D = all-taken (letters t) (c ∷ cs) (add a_type t D) (itself-taken a_type t D)
name-taken (PairOf t a b) D = itself-taken a_type t D

-- a name declared as a type is taken
pub type-taken : (w : List ℕ) (D : List DeclaredName) → is_declared type_role w D ≡ true → is_taken w D ≡ true
type-taken w [] h = h
type-taken w (declared_as v s ∷ D) h = go (same_name w v) (type-taken w D) h
  where
    go : (b : Bool) → (is_declared type_role w D ≡ true → is_taken w D ≡ true) → cond b (type_role s) (is_declared type_role w D) ≡ true
        → cond b true (is_taken w D) ≡ true
    go true f h = refl
    go false f h = f h

-- a new name is another than one that is taken
another : (w : List ℕ) (t : Identifier) (D : List DeclaredName) {cs : List PlacedCheck} → is_taken w D ≡ true → AllPass (is_new D t ∷ cs)
    → same_name w (letters t) ≡ false
another w (identifier v p) D taken new = go (same_name w v) refl
  where
    go : (b : Bool) → same_name w v ≡ b → b ≡ false
    go true e =
        let f : true ≡ false = sym taken ∙ ap (λ x. is_taken x D) (same-equal w v e) ∙ not-true (is_taken v D) (passes new) in
        absurd (let z : ◌≡◌ {A = ℕ} 0 1 = cc in omega arith)
    go false e = refl

pub new-first : (d : Declaration) (D : List DeclaredName) → AllPass (declaration_checks D d) → (cs : List PlacedCheck) × AllPass (is_new D (type_named d) ∷ cs)
new-first (Constructors t c cs) D h = (_, h)
new-first (PairOf t a b) D h = (_, h)

entry-number : (i : ℕ) (E : List TypeEntry) (d : Declaration) (w : List ℕ)
    → type_number (after_entry i E d) w ≡ cond (same_name w (letters (type_named d))) i (type_number E w)
entry-number i E (Constructors t c cs) w = refl
entry-number i E (PairOf t a b) w = refl

-- the number of a name that is taken stays what it is
pub number-kept : (i : ℕ) (E : List TypeEntry) (D : List DeclaredName) (ds : List Declaration) (w : List ℕ) → is_taken w D ≡ true
    → AllPass (declarations_checks D ds) → type_number (type_entries_from i E ds) w ≡ type_number E w
number-kept i E D [] w taken h = refl
number-kept i E D (d ∷ ds) w taken h =
    let both = pass-both (declaration_checks D d) (declarations_checks (after_declaration D d) ds) h in
    number-kept (suc i) (after_entry i E d) (after_declaration D d) ds w (still-taken w d D taken) both.1
    ∙ entry-number i E d w
    ∙ ap (λ b. cond b i (type_number E w)) (another w (type_named d) D taken (new-first d D both.0).1)

-- a declaration's own number
pub declared-number : (i : ℕ) (E : List TypeEntry) (D : List DeclaredName) (d : Declaration) (ds : List Declaration)
    → AllPass (declarations_checks D (d ∷ ds)) → type_number (type_entries_from i E (d ∷ ds)) (letters (type_named d)) ≡ i
declared-number i E D d ds h =
    let both = pass-both (declaration_checks D d) (declarations_checks (after_declaration D d) ds) h in
    let w = letters (type_named d) in
    number-kept (suc i) (after_entry i E d) (after_declaration D d) ds w (name-taken d D) both.1
    ∙ entry-number i E d w
    ∙ ap (λ b. cond b i (type_number E w)) (equal-same w w refl)

-- the type of a constructor
constructor-among : (t n k : ℕ) (cs : List Identifier) (C : List ConstructorEntry) (w : List ℕ)
    → (constructor_meant (constructor_entries_of t n k cs ++ C) w).type ≡ cond (is_among w (all_letters cs)) t (constructor_meant C w).type
constructor-among t n k [] C w = refl
constructor-among t n k (c ∷ cs) C w = go (same_name w (letters c)) (constructor-among t n (suc k) cs C w)
  where
    go : (b : Bool)
        → (constructor_meant (constructor_entries_of t n (suc k) cs ++ C) w).type ≡ cond (is_among w (all_letters cs)) t (constructor_meant C w).type
        → (cond b (record { type = t; constructors = n; number = k }) (constructor_meant (constructor_entries_of t n (suc k) cs ++ C) w)).type
        ≡ cond (cond b true (is_among w (all_letters cs))) t (constructor_meant C w).type
    go true e = refl
    go false e = e

pub either_number : (E : List TypeEntry) (b : Bool) (t : List ℕ) (x : Option (List ℕ)) → number_or E (cond b (some t) x) ≡ cond b (type_number E t) (number_or E x)
either_number E true t x = refl
either_number E false t x = refl

pub constructor-number : (i : ℕ) (E : List TypeEntry) (D : List DeclaredName) (ds : List Declaration) (w : List ℕ) → AllPass (declarations_checks D ds)
    → (constructor_meant (constructor_entries_from i ds) w).type ≡ number_or (type_entries_from i E ds) (type_of_constructor ds w)
constructor-number i E D [] w h = refl
constructor-number i E D (Constructors t c cs ∷ ds) w h =
    let d = Constructors t c cs in
    let both = pass-both (declaration_checks D d) (declarations_checks (after_declaration D d) ds) h in
    let own = declared-number i E D d ds h in
    let rest = constructor-number (suc i) (after_entry i E d) (after_declaration D d) ds w both.1 in
    constructor-among i (length (c ∷ cs)) 1 (c ∷ cs) (constructor_entries_from (suc i) ds) w
    ∙ ap₂ (cond (is_among w (letters c ∷ all_letters cs))) (sym own) rest
    ∙ sym (either_number (type_entries_from i E (d ∷ ds)) (is_among w (letters c ∷ all_letters cs)) (letters t) (type_of_constructor ds w))
constructor-number i E D (PairOf t a b ∷ ds) w h =
    let d = PairOf t a b in
    let both = pass-both (declaration_checks D d) (declarations_checks (after_declaration D d) ds) h in
    constructor-number (suc i) (after_entry i E d) (after_declaration D d) ds w both.1
