-- A type name once declared keeps its meaning: it is taken, and no later declaration takes it. And the entries of constructors.
-- Assumes nothing.
use Prim.Native.Nat.{ℕ, suc, ◌+◌}
use mathlib.Core.Path.{◌≡◌, refl, subst, ◌∙◌}
use mathlib.Core.Bool.{Bool, true, false, cond, not}
use mathlib.Core.List.{List, [], ◌∷◌, ◌++◌}
use mathlib.Core.Option.{none}
use native.Mathlib.Omega.{arith}
use lib.ListN.{length}
use Rattle.picoella.specs.Language.{Ty, Flat, TyTuple}
use Rattle.grammar.specs.Source.{Identifier, identifier, Declaration, Constructors, PairOf}
use Rattle.name_rules.specs.Declared.{same_name, is_among, DeclaredName, is_taken, a_constructor, a_type}
use Rattle.name_rules.specs.Checks.{AllPass}
use Rattle.name_rules.specs.Constants.{letters, all_letters}
use Rattle.name_rules.specs.Names.{add, add_all, declaration_checks, declarations_checks, after_declaration}
use Rattle.name_rules.proofs.SameName.{equal-same, same-equal}
use Rattle.layout.specs.Resolved.{
  TypeEntry,
  type_entry,
  type_meant,
  type_number,
  after_entry,
  type_entries_from,
  Meant,
  ConstructorEntry,
  constructor_entries_of,
  constructor_meant,
}
use Rattle.layout.proofs.ConstructorTables.{pass-both, passes}
use Rattle.layout.proofs.Tables.{is_named}

-- every type name in the table is taken
pub record AllTaken (D : List DeclaredName) (T : List TypeEntry) : Type 0 where
  pub taken : (w : List ℕ) → is_named w T ≡ true → is_taken w D ≡ true

taken-added : (w : List ℕ) (D : List DeclaredName) (cs : List Identifier) → is_taken w D ≡ true → is_taken w (add_all cs D) ≡ true
taken-added w D [] h = h
taken-added w D (identifier v p ∷ cs) h = taken-added w (add a_constructor (identifier v p) D) cs (go (same_name w v))
  where
    go : (b : Bool) → cond b true (is_taken w D) ≡ true
    go true = refl
    go false = h

taken-type : (D : List DeclaredName) (T : List TypeEntry) (t : Identifier) (i : ℕ) (τ : Ty) → AllTaken D T
    → AllTaken (add a_type t D) (type_entry (letters t) i τ ∷ T)
taken-type D T (identifier v p) i τ h = record { taken = λ w. go w (same_name w v) }
  where
    go : (w : List ℕ) (b : Bool) → cond b true (is_named w T) ≡ true → cond b true (is_taken w D) ≡ true
    go w true e = refl
    go w false e = h.taken w e

-- a declaration leaves what is in the table
pub after-taken : (D : List DeclaredName) (T : List TypeEntry) (i : ℕ) (d : Declaration) → AllTaken D T
    → AllTaken (after_declaration D d) (after_entry i T d)
after-taken D T i (Constructors t c cs) h =
    let k = taken-type D T t i (Flat i (length (c ∷ cs))) h in
    record { taken = λ w e. taken-added w (add a_type t D) (c ∷ cs) (k.taken w e) }
after-taken D T i (PairOf t a b) h = taken-type D T t i (TyTuple (type_meant T (letters a)) (type_meant T (letters b))) h

-- a new name is not in the table
pub new-name : (w v : List ℕ) (D : List DeclaredName) → is_taken w D ≡ true → not (is_taken v D) ≡ true → same_name w v ≡ false
new-name w v D h n = go (same_name w v) (same-equal w v)
  where
    go : (b : Bool) → (b ≡ true → w ≡ v) → b ≡ false
    go false e = refl
    go true e = absurd (let f : is_taken v D ≡ true = subst (λ x. is_taken x D ≡ true) (e refl) h in none (is_taken v D) f n)
      where
        none : (b : Bool) → b ≡ true → not b ≡ true → ⊥
        none true h n = let no : ◌≡◌ {A = ℕ} 0 1 = cc in omega arith
        none false h n = let no : ◌≡◌ {A = ℕ} 0 1 = cc in omega arith

-- the name of the type that a declaration declares
abbrev declared_type : Declaration → Identifier
declared_type (Constructors t c cs) = t
declared_type (PairOf t a b) = t

declared-new : (D : List DeclaredName) (d : Declaration) → AllPass (declaration_checks D d) → not (is_taken (letters (declared_type d)) D) ≡ true
declared-new D (Constructors (identifier v p) c cs) good = passes good
declared-new D (PairOf (identifier v p) a b) good = passes good

entry-same : (w : List ℕ) (i : ℕ) (T : List TypeEntry) (d : Declaration) → same_name w (letters (declared_type d)) ≡ false
    → (type_meant (after_entry i T d) w ≡ type_meant T w) × (is_named w (after_entry i T d) ≡ is_named w T)
entry-same w i T (Constructors t c cs) e = (rw e, rw e)
entry-same w i T (PairOf t a b) e = (rw e, rw e)

-- a type in the table keeps its meaning
pub later_same : (w : List ℕ) (i : ℕ) (D : List DeclaredName) (T : List TypeEntry) (ds : List Declaration) → AllTaken D T → is_named w T ≡ true
    → AllPass (declarations_checks D ds) → type_meant (type_entries_from i T ds) w ≡ type_meant T w
later_same w i D T [] h n good = refl
later_same w i D T (d ∷ ds) h n good =
    let both = pass-both (declaration_checks D d) (declarations_checks (after_declaration D d) ds) good in
    let e = entry-same w i T d (new-name w (letters (declared_type d)) D (h.taken w n) (declared-new D d both.0)) in
    later_same w (suc i) (after_declaration D d) (after_entry i T d) ds (after-taken D T i d h) (e.1 ∙ n) both.1 ∙ e.0

-- and its number
entry-number : (w : List ℕ) (i : ℕ) (T : List TypeEntry) (d : Declaration) → same_name w (letters (declared_type d)) ≡ false
    → type_number (after_entry i T d) w ≡ type_number T w
entry-number w i T (Constructors t c cs) e = rw e
entry-number w i T (PairOf t a b) e = rw e

pub later-number : (w : List ℕ) (i : ℕ) (D : List DeclaredName) (T : List TypeEntry) (ds : List Declaration) → AllTaken D T
    → is_named w T ≡ true → AllPass (declarations_checks D ds) → type_number (type_entries_from i T ds) w ≡ type_number T w
later-number w i D T [] h n good = refl
later-number w i D T (d ∷ ds) h n good =
    let both = pass-both (declaration_checks D d) (declarations_checks (after_declaration D d) ds) good in
    let new = new-name w (letters (declared_type d)) D (h.taken w n) (declared-new D d both.0) in
    later-number w (suc i) (after_declaration D d) (after_entry i T d) ds (after-taken D T i d h) ((entry-same w i T d new).1 ∙ n) both.1
    ∙ entry-number w i T d new

-- what a declaration says is in the table
pub first_entry : (i : ℕ) (T : List TypeEntry) (v : List ℕ) (τ : Ty)
    → (type_meant (type_entry v i τ ∷ T) v ≡ τ) × (is_named v (type_entry v i τ ∷ T) ≡ true)
first_entry i T v τ = (rw (equal-same v v refl), rw (equal-same v v refl))

-- the entries of one type, and those after them
pub among-entry : (w : List ℕ) (t n k : ℕ) (cs : List Identifier) (C : List ConstructorEntry) → is_among w (all_letters cs) ≡ true
    → ((constructor_meant (constructor_entries_of t n k cs ++ C) w).type ≡ t)
    × ((constructor_meant (constructor_entries_of t n k cs ++ C) w).constructors ≡ n)
among-entry w t n k [] C h = absurd (let no : ◌≡◌ {A = ℕ} 0 1 = cc in omega arith)
among-entry w t n k (c ∷ cs) C h = go (same_name w (letters c)) (among-entry w t n (suc k) cs C) h
  where
    rest : Meant
    rest = constructor_meant (constructor_entries_of t n (suc k) cs ++ C) w

    go : (b : Bool) → (is_among w (all_letters cs) ≡ true → (rest.type ≡ t) × (rest.constructors ≡ n))
        → cond b true (is_among w (all_letters cs)) ≡ true
        → ((cond b (record { type = t; constructors = n; number = k }) rest).type ≡ t)
        × ((cond b (record { type = t; constructors = n; number = k }) rest).constructors ≡ n)
    go true f h = (refl, refl)
    go false f h = f h

pub not-among-entry : (w : List ℕ) (t n k : ℕ) (cs : List Identifier) (C : List ConstructorEntry) → is_among w (all_letters cs) ≡ false
    → constructor_meant (constructor_entries_of t n k cs ++ C) w ≡ constructor_meant C w
not-among-entry w t n k [] C h = refl
not-among-entry w t n k (c ∷ cs) C h = go (same_name w (letters c)) (not-among-entry w t n (suc k) cs C) h
  where
    rest : Meant
    rest = constructor_meant (constructor_entries_of t n (suc k) cs ++ C) w

    go : (b : Bool) → (is_among w (all_letters cs) ≡ false → rest ≡ constructor_meant C w) → cond b true (is_among w (all_letters cs)) ≡ false
        → cond b (record { type = t; constructors = n; number = k }) rest ≡ constructor_meant C w
    go true f h = absurd (let no : ◌≡◌ {A = ℕ} 0 1 = cc in omega arith)
    go false f h = f h
