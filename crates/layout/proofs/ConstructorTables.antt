-- The table of constructors: that a list of checks passes part by part, and what a name that is declared as a constructor says of it.
-- Assumes nothing.
use Prim.Native.Nat.{ℕ, suc, ◌+◌}
use mathlib.Core.Path.{◌≡◌, refl, sym, ◌∙◌}
use mathlib.Core.Bool.{Bool, true, false, cond}
use mathlib.Core.List.{List, [], ◌∷◌, ◌++◌}
use mathlib.Core.Logic.{◌⊎◌, inl, inr}
use native.Mathlib.Omega.{arith}
use lib.ListN.{length}
use Rattle.picoella.specs.Language.{Flat}
use Rattle.records.specs.Words.{word_a}
use Rattle.grammar.specs.Source.{Identifier, identifier, Declaration, Constructors, PairOf}
use Rattle.name_rules.specs.Declared.{
  Role,
  a_type,
  a_constructor,
  the_input,
  DeclaredName,
  declared_as,
  same_name,
  input,
  at_first,
  is_declared,
  type_role,
  constructor_role,
  pattern_roles,
}
use Rattle.name_rules.specs.Checks.{PlacedCheck, check_at, AllPass, no_check_left, one_holds}
use Rattle.name_rules.specs.Names.{add, add_all, after_all, is_new}
use Rattle.layout.specs.Resolved.{
  ConstructorEntry,
  constructor_entry,
  constructor_entries_of,
  constructor_entries_from,
  constructor_entries,
  constructor_meant,
}
use Rattle.layout.proofs.TypesMeant.{SaysType, Headed, AllFlat, none-flat, one-flat, header-says}

-- a list of checks that pass, in two
pub pass-both : (cs es : List PlacedCheck) → AllPass (cs ++ es) → AllPass cs × AllPass es
pass-both [] es h = (no_check_left, h)
pass-both (check_at p true ∷ cs) es (one_holds h) = let t = pass-both cs es h in (one_holds t.0, t.1)
pass-both (check_at p false ∷ cs) es h = elim h [ ]

pub passes : {p : ℕ} {b : Bool} {cs : List PlacedCheck} → AllPass (check_at p b ∷ cs) → b ≡ true
passes (one_holds h) = refl

pub pass-rest : {p : ℕ} {b : Bool} {cs : List PlacedCheck} → AllPass (check_at p b ∷ cs) → AllPass cs
pass-rest (one_holds h) = h

-- the checks after that of a new name
pub after-new : (D : List DeclaredName) (n : Identifier) {cs : List PlacedCheck} → AllPass (is_new D n ∷ cs) → AllPass cs
after-new D (identifier v p) h = pass-rest h

-- a name of a pattern that is no type is a constructor
pub type-or-constructor : (w : List ℕ) (D : List DeclaredName) → is_declared pattern_roles w D ≡ true → is_declared type_role w D ≡ false
    → is_declared constructor_role w D ≡ true
type-or-constructor w [] h n = h
type-or-constructor w (declared_as v x ∷ D) h n = go (same_name w v) x (type-or-constructor w D) h n
  where
    go : (b : Bool) (x : Role)
        → (is_declared pattern_roles w D ≡ true → is_declared type_role w D ≡ false → is_declared constructor_role w D ≡ true)
        → cond b (pattern_roles x) (is_declared pattern_roles w D) ≡ true → cond b (type_role x) (is_declared type_role w D) ≡ false
        → cond b (constructor_role x) (is_declared constructor_role w D) ≡ true
    go true a_type f h n = sym n ∙ h
    go true a_constructor f h n = refl
    go true the_input f h n = h
    go false x f h n = f h n

-- whether a constructor of this name is in the table
abbrev pub is_entry : List ℕ → List ConstructorEntry → Bool
is_entry w [] = false
is_entry w (constructor_entry v t n k ∷ C) = cond (same_name w v) true (is_entry w C)

entry-left : (w : List ℕ) (C C' : List ConstructorEntry) → is_entry w C ≡ true → is_entry w (C ++ C') ≡ true
entry-left w [] C' h = let no : ◌≡◌ {A = ℕ} 0 1 = cc in let none : ⊥ = omega arith in elim none [ ]
entry-left w (constructor_entry v t n k ∷ C) C' h = go (same_name w v) (entry-left w C C') h
  where
    go : (b : Bool) → (is_entry w C ≡ true → is_entry w (C ++ C') ≡ true) → cond b true (is_entry w C) ≡ true
        → cond b true (is_entry w (C ++ C')) ≡ true
    go true f h = refl
    go false f h = f h

entry-right : (w : List ℕ) (C C' : List ConstructorEntry) → is_entry w C' ≡ true → is_entry w (C ++ C') ≡ true
entry-right w [] C' h = h
entry-right w (constructor_entry v t n k ∷ C) C' h = go (same_name w v) (entry-right w C C' h)
  where
    go : (b : Bool) → is_entry w (C ++ C') ≡ true → cond b true (is_entry w (C ++ C')) ≡ true
    go true e = refl
    go false e = e

-- the table has the count of each of its constructors
pub constructors-counted : {s : List ℕ} (w : List ℕ) {C : List ConstructorEntry} → AllFlat s C → is_entry w C ≡ true
    → word_a s (constructor_meant C w).type ≡ (constructor_meant C w).constructors
constructors-counted w none-flat h = let no : ◌≡◌ {A = ℕ} 0 1 = cc in let none : ⊥ = omega arith in elim none [ ]
constructors-counted {s} w (one-flat {v} {t} {n} {k} {C} x a rest) h = go (same_name w v) (constructors-counted w rest) h
  where
    go : (b : Bool)
        → (is_entry w C ≡ true → word_a s (constructor_meant C w).type ≡ (constructor_meant C w).constructors)
        → cond b true (is_entry w C) ≡ true
        → word_a s (cond b (record { type = t; constructors = n; number = k }) (constructor_meant C w)).type
        ≡ (cond b (record { type = t; constructors = n; number = k }) (constructor_meant C w)).constructors
    go true f h = a
    go false f h = f h

-- and its type
pub says-flat-type : {s : List ℕ} → Headed s → (w : List ℕ) {C : List ConstructorEntry} → AllFlat s C
    → SaysType s (constructor_meant C w).type (Flat (constructor_meant C w).type (constructor_meant C w).constructors)
says-flat-type h w none-flat = header-says h
says-flat-type {s} h w (one-flat {v} {t} {n} {k} {C} x a rest) = go (same_name w v) (says-flat-type h w rest)
  where
    go : (b : Bool)
        → SaysType s (constructor_meant C w).type (Flat (constructor_meant C w).type (constructor_meant C w).constructors)
        → SaysType s (cond b (record { type = t; constructors = n; number = k }) (constructor_meant C w)).type
        (Flat (cond b (record { type = t; constructors = n; number = k }) (constructor_meant C w)).type
        (cond b (record { type = t; constructors = n; number = k }) (constructor_meant C w)).constructors)
    go true y = x
    go false y = y

-- a constructor after some declarations was one before them or is one of theirs
added : (w : List ℕ) (D : List DeclaredName) (cs : List Identifier) (t n k : ℕ)
    → is_declared constructor_role w (add_all cs D) ≡ true
    → (is_declared constructor_role w D ≡ true) ⊎ (is_entry w (constructor_entries_of t n k cs) ≡ true)
added w D [] t n k h = inl h
added w D (identifier v p ∷ cs) t n k h = further (added w (add a_constructor (identifier v p) D) cs t n (suc k) h)
  where
    go : (b : Bool) → cond b true (is_declared constructor_role w D) ≡ true
        → (is_declared constructor_role w D ≡ true) ⊎ (cond b true (is_entry w (constructor_entries_of t n (suc k) cs)) ≡ true)
    go true h = inr refl
    go false h = inl h

    or : (b : Bool) → is_entry w (constructor_entries_of t n (suc k) cs) ≡ true
        → cond b true (is_entry w (constructor_entries_of t n (suc k) cs)) ≡ true
    or true h = refl
    or false h = h

    further : (is_declared constructor_role w (add a_constructor (identifier v p) D) ≡ true)
        ⊎ (is_entry w (constructor_entries_of t n (suc k) cs) ≡ true)
        → (is_declared constructor_role w D ≡ true)
        ⊎ (cond (same_name w v) true (is_entry w (constructor_entries_of t n (suc k) cs)) ≡ true)
    further (inl x) = go (same_name w v) x
    further (inr x) = inr (or (same_name w v) x)

no-constructor : (w : List ℕ) (D : List DeclaredName) (t : Identifier) → is_declared constructor_role w (add a_type t D) ≡ true
    → is_declared constructor_role w D ≡ true
no-constructor w D (identifier v p) h = go (same_name w v) h
  where
    go : (b : Bool) → cond b false (is_declared constructor_role w D) ≡ true → is_declared constructor_role w D ≡ true
    go true h = let no : ◌≡◌ {A = ℕ} 0 1 = cc in let none : ⊥ = omega arith in elim none [ ]
    go false h = h

declared-entry : (w : List ℕ) (i : ℕ) (D : List DeclaredName) (ds : List Declaration)
    → is_declared constructor_role w (after_all D ds) ≡ true
    → (is_declared constructor_role w D ≡ true) ⊎ (is_entry w (constructor_entries_from i ds) ≡ true)
declared-entry w i D [] h = inl h
declared-entry w i D (Constructors t c cs ∷ ds) h =
    further (declared-entry w (suc i) (add_all (c ∷ cs) (add a_type t D)) ds h)
  where
    here : List ConstructorEntry
    here = constructor_entries_of i (length (c ∷ cs)) 1 (c ∷ cs)

    before : (is_declared constructor_role w (add a_type t D) ≡ true) ⊎ (is_entry w here ≡ true)
        → (is_declared constructor_role w D ≡ true) ⊎ (is_entry w (here ++ constructor_entries_from (suc i) ds) ≡ true)
    before (inl x) = inl (no-constructor w D t x)
    before (inr x) = inr (entry-left w here (constructor_entries_from (suc i) ds) x)

    further : (is_declared constructor_role w (add_all (c ∷ cs) (add a_type t D)) ≡ true)
        ⊎ (is_entry w (constructor_entries_from (suc i) ds) ≡ true)
        → (is_declared constructor_role w D ≡ true) ⊎ (is_entry w (here ++ constructor_entries_from (suc i) ds) ≡ true)
    further (inl x) = before (added w (add a_type t D) (c ∷ cs) i (length (c ∷ cs)) 1 x)
    further (inr x) = inr (entry-right w here (constructor_entries_from (suc i) ds) x)
declared-entry w i D (PairOf t a b ∷ ds) h = further (declared-entry w (suc i) (add a_type t D) ds h)
  where
    further : (is_declared constructor_role w (add a_type t D) ≡ true) ⊎ (is_entry w (constructor_entries_from (suc i) ds) ≡ true)
        → (is_declared constructor_role w D ≡ true) ⊎ (is_entry w (constructor_entries_from (suc i) ds) ≡ true)
    further (inl x) = inl (no-constructor w D t x)
    further (inr x) = inr x

pub a-constructor : (w : List ℕ) (ds : List Declaration) → is_declared constructor_role w (after_all at_first ds) ≡ true
    → is_entry w (constructor_entries ds) ≡ true
a-constructor w ds h = go (declared-entry w 1 at_first ds h)
  where
    not-input : (b : Bool) → cond b false false ≡ true → is_entry w (constructor_entries ds) ≡ true
    not-input true e = cc
    not-input false e = cc

    go : (is_declared constructor_role w at_first ≡ true) ⊎ (is_entry w (constructor_entries ds) ≡ true)
        → is_entry w (constructor_entries ds) ≡ true
    go (inl x) = not-input (same_name w input) x
    go (inr x) = x
