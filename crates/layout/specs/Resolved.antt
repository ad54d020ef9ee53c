-- What the names that a text declares stand for. Declaration i, counted from 1, is type record i. A type name stands for that number and
-- for the type; a constructor for its type's number, the number of that type's constructors, and its own among them, from 1. In a text
-- whose names are good each name is there once; a name that is not there, which no such text uses, gets 0.
use Rattle.std.specs.Prelude.{ℕ, suc, cond, List, [], ◌∷◌, ◌++◌, length}
use Rattle.picoella.specs.Language.{Ty, Flat, TyTuple}
use Rattle.grammar.specs.Source.{Identifier, Declaration, Constructors, PairOf}
use Rattle.name_rules.specs.Declared.{same_name, is_among}
use Rattle.name_rules.specs.Constants.{letters}

pub data TypeEntry : Type 0 where
  type_entry : (letters : List ℕ) (number : ℕ) (type : Ty) → TypeEntry

abbrev pub type_meant : List TypeEntry → List ℕ → Ty
type_meant [] w = Flat 0 0
type_meant (type_entry v i τ ∷ more) w = cond (same_name w v) τ (type_meant more w)

abbrev pub type_number : List TypeEntry → List ℕ → ℕ
type_number [] w = 0
type_number (type_entry v i τ ∷ more) w = cond (same_name w v) i (type_number more w)

-- the type names after declaration number i
abbrev pub after_entry : ℕ → List TypeEntry → Declaration → List TypeEntry
after_entry i T (Constructors t c cs) = type_entry (letters t) i (Flat i (length (c ∷ cs))) ∷ T
after_entry i T (PairOf t a b) =
    type_entry (letters t) i (TyTuple (type_meant T (letters a)) (type_meant T (letters b))) ∷ T

-- after declarations of which the first is number i
abbrev pub type_entries_from : ℕ → List TypeEntry → List Declaration → List TypeEntry
type_entries_from i T [] = T
type_entries_from i T (d ∷ ds) = type_entries_from (suc i) (after_entry i T d) ds

abbrev pub type_entries : List Declaration → List TypeEntry
type_entries ds = type_entries_from 1 [] ds

pub data ConstructorEntry : Type 0 where
  constructor_entry : (letters : List ℕ) (type constructors number : ℕ) → ConstructorEntry

-- the constructors of type number t, which has n of them, from the k-th on
abbrev pub constructor_entries_of : (t n k : ℕ) → List Identifier → List ConstructorEntry
constructor_entries_of t n k [] = []
constructor_entries_of t n k (c ∷ cs) = constructor_entry (letters c) t n k ∷ constructor_entries_of t n (suc k) cs

abbrev pub constructor_entries_from : ℕ → List Declaration → List ConstructorEntry
constructor_entries_from i [] = []
constructor_entries_from i (Constructors t c cs ∷ ds) =
    constructor_entries_of i (length (c ∷ cs)) 1 (c ∷ cs) ++ constructor_entries_from (suc i) ds
constructor_entries_from i (PairOf t a b ∷ ds) = constructor_entries_from (suc i) ds

abbrev pub constructor_entries : List Declaration → List ConstructorEntry
constructor_entries ds = constructor_entries_from 1 ds

pub record Meant : Type 0 where
  pub type : ℕ
  pub constructors : ℕ
  pub number : ℕ

abbrev pub constructor_meant : List ConstructorEntry → List ℕ → Meant
constructor_meant [] w = record { type = 0; constructors = 0; number = 0 }
constructor_meant (constructor_entry v t n k ∷ more) w =
    cond (same_name w v) (record { type = t; constructors = n; number = k }) (constructor_meant more w)

-- "Names become distances", 0 the nearest; a name that no LET around it takes is `input`, the outermost
abbrev pub distance : List ℕ → List (List ℕ) → ℕ
distance w [] = 0
distance w (v ∷ more) = cond (same_name w v) 0 (suc (distance w more))
