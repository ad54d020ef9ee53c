-- What the names of a good text's declarations stand for: each constructor is the one of its number, the constructors of a type have
-- different names, every type is known, and `?t` is the undefined constant of its type.
-- Assumes nothing.
use Prim.Native.Nat.{ℕ, zero, suc, ◌+◌, ◌≤◌, ◌<◌}
use mathlib.Core.Path.{◌≡◌, refl, ap, ap₂, sym, subst, ◌∙◌}
use mathlib.Core.Logic.{◌≢◌}
use mathlib.Core.Bool.{Bool, true, false, cond, not}
use mathlib.Core.List.{List, [], ◌∷◌, ◌++◌}
use native.Mathlib.Omega.{arith}
use lib.ListN.{length, get_or}
use Rattle.picoella.specs.Language.{Ty, Flat, TyTuple}
use Rattle.grammar.specs.Source.{Identifier, identifier, Declaration, Constructors, PairOf}
use Rattle.name_rules.specs.Declared.{same_name, DeclaredName, declared_as, is_taken, is_declared, constructor_role, a_constructor, a_type, at_first}
use Rattle.name_rules.specs.Checks.{PlacedCheck, check_at, AllPass, one_holds}
use Rattle.name_rules.specs.Constants.{letters, all_letters}
use Rattle.name_rules.specs.Names.{add, is_new, constructor_checks, declaration_checks, declarations_checks, after_declaration, after_all}
use Rattle.name_rules.proofs.SameName.{equal-same, same-equal}
use Rattle.meaning.specs.Constants.{ConstantTree, bottom_of_type}
use Rattle.layout.specs.Resolved.{
  TypeEntry,
  type_entry,
  type_meant,
  after_entry,
  type_entries_from,
  type_entries,
  Meant,
  ConstructorEntry,
  constructor_entry,
  constructor_entries_of,
  constructor_entries_from,
  constructor_entries,
  constructor_meant,
}
use Rattle.layout.proofs.ConstructorTables.{pass-both, passes, pass-rest, is_entry, a-constructor}
use Rattle.text_meaning.specs.NamedValues.{NamedValue, Unknown, Couple, constructors_of}
use Rattle.text_meaning.specs.Circuits.{UnknownOf, unknown_of, unknown_in, unknowns_from, unknown_named}
use Rattle.text_meaning.proofs.Naming.{name_tree, Differ, KnownType, known-flat, known-pair}
use Rattle.text_meaning.proofs.Matched.{IsNumber}

-- one constructor of each entry: by its place among the names of its type
pub data AllNumbered (names : ℕ → List (List ℕ)) : List ConstructorEntry → Type 0 where
  none-numbered : AllNumbered names []
  one-numbered : {v : List ℕ} {t n k : ℕ} {C : List ConstructorEntry}
      → length (names t) ≡ n → suc k ≤ n → get_or (names t) k [] ≡ v → AllNumbered names C → AllNumbered names (constructor_entry v t n (suc k) ∷ C)

numbered-append : {names : ℕ → List (List ℕ)} {C C' : List ConstructorEntry} → AllNumbered names C → AllNumbered names C'
    → AllNumbered names (C ++ C')
numbered-append none-numbered y = y
numbered-append (one-numbered l h e x) y = one-numbered l h e (numbered-append x y)

letters-length : (cs : List Identifier) → length (all_letters cs) ≡ length cs
letters-length [] = refl
letters-length (c ∷ cs) = ap suc (letters-length cs)

-- the names of the declarations from number i on
record NamesFrom (names : ℕ → List (List ℕ)) (i : ℕ) (ds : List Declaration) : Type 0 where
  at : (t : ℕ) → names (i + t) ≡ constructors_of ds (suc t)

-- none taken is among new names
module _ {w : List ℕ} where
  not_new : (D : List DeclaredName) (cs : List Identifier) (j : ℕ) → is_taken w D ≡ true → AllPass (constructor_checks D cs) → j < length cs
      → get_or (all_letters cs) j [] ≡ w → ⊥
  not_new D [] j h good l e = omega arith
  not_new D (identifier v p ∷ cs) zero h good l e = new (is_taken w D) h (rw (← e) (passes good))
    where
      new : (b : Bool) → b ≡ true → not b ≡ true → ⊥
      new true h n = let no : ◌≡◌ {A = ℕ} 0 1 = cc in omega arith
      new false h n = let no : ◌≡◌ {A = ℕ} 0 1 = cc in omega arith
  not_new D (identifier v p ∷ cs) (suc j) h good l e =
      not_new (add a_constructor (identifier v p) D) cs j (still (same_name w v)) (pass-rest good) (omega arith) e
    where
      still : (b : Bool) → cond b true (is_taken w D) ≡ true
      still true = refl
      still false = h

differ-none : Differ []
differ-none = record { one = λ i j h k e. omega arith }

constructors-differ : (D : List DeclaredName) (cs : List Identifier) → AllPass (constructor_checks D cs) → Differ (all_letters cs)
constructors-differ D [] good = differ-none
constructors-differ D (identifier v p ∷ cs) good = record { one = go (constructors-differ (add a_constructor (identifier v p) D) cs (pass-rest good)) }
  where
    taken : is_taken v (add a_constructor (identifier v p) D) ≡ true
    taken = rw (equal-same v v refl)

    go : Differ (all_letters cs) → (i j : ℕ) → i < suc (length (all_letters cs)) → j < suc (length (all_letters cs))
        → get_or (v ∷ all_letters cs) i [] ≡ get_or (v ∷ all_letters cs) j [] → i ≡ j
    go d zero zero h k e = refl
    go d zero (suc j) h k e =
        let l = letters-length cs in
        absurd (not_new (add a_constructor (identifier v p) D) cs j taken (pass-rest good) (omega arith) (sym e))
    go d (suc i) zero h k e =
        let l = letters-length cs in
        absurd (not_new (add a_constructor (identifier v p) D) cs i taken (pass-rest good) (omega arith) e)
    go d (suc i) (suc j) h k e = ap suc (d.one i j (omega arith) (omega arith) e)

type-constructors-differ : (D : List DeclaredName) (t c : Identifier) (cs : List Identifier)
    → AllPass (declaration_checks D (Constructors t c cs)) → Differ (all_letters (c ∷ cs))
type-constructors-differ D (identifier v p) c cs good = constructors-differ (add a_type (identifier v p) D) (c ∷ cs) (pass-rest good)

-- of every type of a good text
pub all-differ : (D : List DeclaredName) (ds : List Declaration) → AllPass (declarations_checks D ds) → (t : ℕ) → Differ (constructors_of ds t)
all-differ D [] good t = differ-none
all-differ D (d ∷ ds) good zero = differ-none
all-differ D (Constructors n c cs ∷ ds) good (suc zero) =
    type-constructors-differ D n c cs
    (pass-both (declaration_checks D (Constructors n c cs)) (declarations_checks (after_declaration D (Constructors n c cs)) ds) good).0
all-differ D (PairOf n a b ∷ ds) good (suc zero) = differ-none
all-differ D (d ∷ ds) good (suc (suc t)) =
    all-differ (after_declaration D d) ds (pass-both (declaration_checks D d) (declarations_checks (after_declaration D d) ds) good).1 (suc t)

module _ (names : ℕ → List (List ℕ)) where
  numbered_of : (t n k : ℕ) (cs : List Identifier) → length (names t) ≡ n → k + length cs ≤ n
      → ((j : ℕ) → get_or (names t) (k + j) [] ≡ get_or (all_letters cs) j []) → AllNumbered names (constructor_entries_of t n (suc k) cs)
  numbered_of t n k [] l h e = none-numbered
  numbered_of t n k (c ∷ cs) l h e =
      let first : get_or (names t) k [] ≡ letters c = rw ((let z : k + 0 ≡ k = omega arith in z)) at (e 0) in
      let within : suc k ≤ n = omega arith in
      one-numbered l within first
      (numbered_of t n (suc k) cs l (omega arith) (λ j. let z : suc k + j ≡ k + suc j = omega arith in rw z (e (suc j))))

  names_first : (i : ℕ) (d : Declaration) (ds : List Declaration) → NamesFrom names i (d ∷ ds) → names i ≡ constructors_of (d ∷ ds) 1
  names_first i d ds h = let z : i + 0 ≡ i = omega arith in rw z at (h.at 0)

  names-rest : (i : ℕ) (d : Declaration) (ds : List Declaration) → NamesFrom names i (d ∷ ds) → NamesFrom names (suc i) ds
  names-rest i d ds h = record { at = λ t. let z : suc i + t ≡ i + suc t = omega arith in rw z (h.at (suc t)) }

  all-numbered : (i : ℕ) (ds : List Declaration) → NamesFrom names i ds → AllNumbered names (constructor_entries_from i ds)
  all-numbered i [] h = none-numbered
  all-numbered i (Constructors n c cs ∷ ds) h =
      let e = names_first i (Constructors n c cs) ds h in
      numbered-append (numbered_of i (length (c ∷ cs)) 0 (c ∷ cs) (ap length e ∙ letters-length (c ∷ cs)) (omega arith) (λ j. rw (e, (let z : 0 + j ≡ j = omega arith in z))))
      (all-numbered (suc i) ds (names-rest i (Constructors n c cs) ds h))
  all-numbered i (PairOf n a b ∷ ds) h = all-numbered (suc i) ds (names-rest i (PairOf n a b) ds h)

looked-up : {ds : List Declaration} (w : List ℕ) {C : List ConstructorEntry} → AllNumbered (constructors_of ds) C → is_entry w C ≡ true
    → IsNumber ds w (constructor_meant C w)
looked-up w none-numbered h = absurd (let no : ◌≡◌ {A = ℕ} 0 1 = cc in omega arith)
looked-up {ds} w (one-numbered {v} {t} {n} {k} {C} many within e rest) h = go (same_name w v) (same-equal w v) (looked-up w rest) h
  where
    go : (b : Bool) → (b ≡ true → w ≡ v) → (is_entry w C ≡ true → IsNumber ds w (constructor_meant C w))
        → cond b true (is_entry w C) ≡ true
        → IsNumber ds w (cond b (record { type = t; constructors = n; number = suc k }) (constructor_meant C w))
    go true same other h = record { before = k; number_is = refl; many = many; within = within; name-is = e ∙ sym (same refl) }
    go false same other h = other h

names-of-all : (ds : List Declaration) → NamesFrom (constructors_of ds) 1 ds
names-of-all ds = record { at = λ t. let z : 1 + t ≡ suc t = omega arith in rw z }

-- each constructor is the one of its number
pub constructor-has-number : (ds : List Declaration) (w : List ℕ) → is_declared constructor_role w (after_all at_first ds) ≡ true
    → IsNumber ds w (constructor_meant (constructor_entries ds) w)
constructor-has-number ds w h = looked-up w (all-numbered (constructors_of ds) 1 ds (names-of-all ds)) (a-constructor w ds h)

-- the type that a name stands for is known, and its undefined constant is what `?` says
record Stand (ds : List Declaration) (T : List TypeEntry) (U : List UnknownOf) : Type 0 where
  known : (w : List ℕ) → KnownType ds (type_meant T w)
  unknown : (w : List ℕ) → name_tree ds (bottom_of_type (type_meant T w)) ≡ unknown_in U w

module _ (ds : List Declaration) (differ : (t : ℕ) → Differ (constructors_of ds t)) where
  one_more : (T : List TypeEntry) (U : List UnknownOf) (v : List ℕ) (i : ℕ) (τ : Ty) (x : NamedValue) → KnownType ds τ
      → name_tree ds (bottom_of_type τ) ≡ x → Stand ds T U → Stand ds (type_entry v i τ ∷ T) (unknown_of v x ∷ U)
  one_more T U v i τ x k e s =
      record { known = λ w. known-one w (same_name w v); unknown = λ w. unknown-one w (same_name w v) }
    where
      known-one : (w : List ℕ) (b : Bool) → KnownType ds (cond b τ (type_meant T w))
      known-one w true = k
      known-one w false = s.known w

      unknown-one : (w : List ℕ) (b : Bool) → name_tree ds (bottom_of_type (cond b τ (type_meant T w))) ≡ cond b x (unknown_in U w)
      unknown-one w true = e
      unknown-one w false = s.unknown w

  all-stand : (i : ℕ) (es : List Declaration) (T : List TypeEntry) (U : List UnknownOf) → NamesFrom (constructors_of ds) i es → Stand ds T U
      → Stand ds (type_entries_from i T es) (unknowns_from U es)
  all-stand i [] T U h s = s
  all-stand i (Constructors t c cs ∷ es) T U h s =
      let e = names_first (constructors_of ds) i (Constructors t c cs) es h in
      let l : length (constructors_of ds i) ≡ length (c ∷ cs) = ap length e ∙ letters-length (c ∷ cs) in
      all-stand (suc i) es (after_entry i T (Constructors t c cs)) (unknown_of (letters t) Unknown ∷ U)
      (names-rest (constructors_of ds) i (Constructors t c cs) es h)
      (one_more T U (letters t) i (Flat i (length (c ∷ cs))) Unknown (known-flat l (differ i)) refl s)
  all-stand i (PairOf t a b ∷ es) T U h s =
      all-stand (suc i) es (after_entry i T (PairOf t a b))
      (unknown_of (letters t) (Couple (unknown_in U (letters a)) (unknown_in U (letters b))) ∷ U)
      (names-rest (constructors_of ds) i (PairOf t a b) es h)
      (one_more T U (letters t) i (TyTuple (type_meant T (letters a)) (type_meant T (letters b)))
      (Couple (unknown_in U (letters a)) (unknown_in U (letters b)))
      (known-pair (s.known (letters a)) (s.known (letters b)))
      (ap₂ Couple (s.unknown (letters a)) (s.unknown (letters b))) s)

  no_names : (es : List Declaration) → constructors_of es 0 ≡ []
  no_names [] = refl
  no_names (d ∷ es) = refl

  none-stand : Stand ds [] []
  none-stand = record { known = λ w. known-flat (ap length (no_names ds)) (differ 0); unknown = λ w. refl }

  pub type-known : (w : List ℕ) → KnownType ds (type_meant (type_entries ds) w)
  type-known w = (all-stand 1 ds [] [] (names-of-all ds) none-stand).known w

  pub unknown-is : (w : List ℕ) → name_tree ds (bottom_of_type (type_meant (type_entries ds) w)) ≡ unknown_named ds w
  unknown-is w = (all-stand 1 ds [] [] (names-of-all ds) none-stand).unknown w
