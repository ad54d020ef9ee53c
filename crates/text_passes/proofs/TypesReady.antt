-- The types of a text where they stand: what type names and constructors stand for lies among the
-- type records.
-- Assumes nothing.
use Prim.Native.Nat.{ℕ, suc, ◌+◌, ◌≤◌, ◌<◌}
use mathlib.Core.Path.{◌≡◌, refl, sym, subst}
use mathlib.Core.Bool.{Bool, true, false, cond}
use mathlib.Core.List.{List, [], ◌∷◌, ◌++◌}
use mathlib.Core.Option.{Option, none, some}
use native.Mathlib.Omega.{arith}
use native.Mathlib.Decide.{ℕ_discrete}
use borrow.Author.Tests.{ltb-true, ltb-false}
use lib.Dec.{ltb}
use lib.ListN.{length}
use Rattle.records.specs.Words.{kind_word, word_a}
use Rattle.records.specs.Kinds.{types, row_of, kind_of}
use Rattle.records.specs.Says.{sort_at}
use Rattle.picoella.specs.Language.{Ty, Flat, TyTuple}
use Rattle.grammar.specs.Source.{Identifier, identifier, Declaration, Constructors, PairOf, SourceConstant, OfConstructor, Undefined, ConstantPair}
use Rattle.name_rules.specs.Declared.{same_name, is_among, at_first, is_declared, type_role, constructor_role}
use Rattle.text_passes.specs.RefusedTypes.{over_counted}
use Rattle.name_rules.proofs.SameName.{equal-same}
use Rattle.name_rules.specs.Checks.{AllPass}
use Rattle.name_rules.specs.Constants.{letters, all_letters, type_of_constructor, first_pair_type, pair_type_of, constant_type, is_typed}
use Rattle.name_rules.specs.Names.{after_all, declarations_checks, constant_names}
use Rattle.layout.specs.Resolved.{
  TypeEntry,
  type_entry,
  type_meant,
  type_number,
  after_entry,
  type_entries_from,
  type_entries,
  ConstructorEntry,
  constructor_entry,
  constructor_entries_of,
  constructor_entries_from,
  constructor_entries,
  Meant,
  constructor_meant,
}
use Rattle.layout.specs.Layout.{types_laid, number_or}
use Rattle.layout.proofs.Standing.{Stands, one-stands}
use Rattle.layout.proofs.ConstructorTables.{passes, is_entry, a-constructor}
use Rattle.layout.proofs.Tables.{is_named, none-matched, no-type, types-known}

-- every flat type has at most 255 constructors
abbrev pub FewConstructors : List Declaration → Type 0
FewConstructors [] = Unit {0}
FewConstructors (Constructors t c cs ∷ ds) = (length (c ∷ cs) ≤ 255) × FewConstructors ds
FewConstructors (PairOf t a b ∷ ds) = FewConstructors ds

pub few_constructors : (ds : List Declaration) → ((k : ℕ) → over_counted ds (suc k) ≡ false) → FewConstructors ds
unfolding over_counted
few_constructors [] h = tt
few_constructors (Constructors t c cs ∷ ds) h = (ltb-false 255 (length (c ∷ cs)) (h 0), few_constructors ds (λ k. h (suc k)))
few_constructors (PairOf t a b ∷ ds) h = few_constructors ds (λ k. h (suc k))

-- a number is the first, or one after it
pub first-or-later : (A : ℕ → Type 0) (i j : ℕ) → i ≤ j → A i → (suc i ≤ j → A j) → A j
first-or-later A i j low here later = go (ℕ_discrete i j)
  where
    go : Dec (i ≡ j) → A j
    go (yes e) = subst A e here
    go (no n) = later (after i j low n)
      where
        after : (i j : ℕ) → i ≤ j → (i ≡ j → ⊥) → suc i ≤ j
        after i j h n = lt_of (ltb i j) refl
          where
            lt_of : (b : Bool) → ltb i j ≡ b → suc i ≤ j
            lt_of true e = ltb-true i j e
            lt_of false e = let k = ltb-false i j e in absurd (n (omega (arith, h, k)))

flat-sort : (s : List ℕ) (i : ℕ) → kind_word s i ≡ 16 → sort_at s i ≡ types
unfolding kind_of row_of
flat-sort s i e = rw e

pair-sort : (s : List ℕ) (i : ℕ) → kind_word s i ≡ 17 → sort_at s i ≡ types
unfolding kind_of row_of
pair-sort s i e = rw e

-- the records from i on are types
pub types-sorted : {s : List ℕ} (i : ℕ) (T : List TypeEntry) (ds : List Declaration) → Stands s i (types_laid i T ds)
    → (j : ℕ) → i ≤ j → j < i + length ds → sort_at s j ≡ types
types-sorted i T [] st j low high = let no : ⊥ = omega arith in elim no [ ]
types-sorted {s} i T (Constructors t c cs ∷ ds) (one-stands x st) j low high =
    first-or-later (λ k. sort_at s k ≡ types) i j low (flat-sort s i x.kind-is)
    (λ h. types-sorted (suc i) (after_entry i T (Constructors t c cs)) ds st j h (omega arith))
types-sorted {s} i T (PairOf t a b ∷ ds) (one-stands x st) j low high =
    first-or-later (λ k. sort_at s k ≡ types) i j low (pair-sort s i x.kind-is)
    (λ h. types-sorted (suc i) (after_entry i T (PairOf t a b)) ds st j h (omega arith))

-- the numbers of the entries lie below i, and none is 0
pub data NumbersBelow (i : ℕ) : List TypeEntry → Type 0 where
  no-numbers : NumbersBelow i []
  one-number-below : {v : List ℕ} {j : ℕ} {τ : Ty} {T : List TypeEntry} → 0 < j → j < i → NumbersBelow i T → NumbersBelow i (type_entry v j τ ∷ T)

pub ranged-number : {i : ℕ} (w : List ℕ) {T : List TypeEntry} → NumbersBelow i T → is_named w T ≡ true → (0 < type_number T w) × (type_number T w < i)
ranged-number w no-numbers h = absurd (let no : ◌≡◌ {A = ℕ} 0 1 = cc in omega arith)
ranged-number {i} w (one-number-below {v} {j} {τ} {T} low high r) h = go (same_name w v) (ranged-number w r) h
  where
    go : (b : Bool) → (is_named w T ≡ true → (0 < type_number T w) × (type_number T w < i)) → cond b true (is_named w T) ≡ true
        → (0 < cond b j (type_number T w)) × (cond b j (type_number T w) < i)
    go true f h = (low, high)
    go false f h = f h

later-ranged : {i : ℕ} {T : List TypeEntry} → NumbersBelow i T → NumbersBelow (suc i) T
later-ranged no-numbers = no-numbers
later-ranged {i} (one-number-below {j = j} low high r) = let h : j < suc i = omega arith in one-number-below low h (later-ranged r)

pub after-ranged : (i : ℕ) (T : List TypeEntry) (d : Declaration) → 0 < i → NumbersBelow i T → NumbersBelow (suc i) (after_entry i T d)
after-ranged i T (Constructors t c cs) h r = one-number-below h (omega arith) (later-ranged r)
after-ranged i T (PairOf t a b) h r = one-number-below h (omega arith) (later-ranged r)

entries-ranged : (i : ℕ) (T : List TypeEntry) (ds : List Declaration) → 0 < i → NumbersBelow i T → NumbersBelow (i + length ds) (type_entries_from i T ds)
entries-ranged i T [] h r = let e : i + 0 ≡ i = omega arith in rw e r
entries-ranged i T (d ∷ ds) h r =
    let e : i + suc (length ds) ≡ suc i + length ds = omega arith in
    rw e (entries-ranged (suc i) (after_entry i T d) ds (omega arith) (after-ranged i T d h r))

pub type-in : (ds : List Declaration) → AllPass (declarations_checks at_first ds) → (w : List ℕ) → is_declared type_role w (after_all at_first ds) ≡ true
    → (0 < type_number (type_entries ds) w) × (type_number (type_entries ds) w < 1 + length ds)
type-in ds good w h =
    let k = types-known 1 at_first [] [] ds no-type none-matched good in
    ranged-number w (entries-ranged 1 [] ds (omega arith) no-numbers) (k.0.named w h)

-- a constructor's type is a flat type among the records before i, with its count of constructors,
-- of which it is one
pub record Ready (s : List ℕ) (i : ℕ) (m : Meant) : Type 0 where
  pub past : 0 < m.type
  pub before : m.type < i
  pub flat : kind_word s m.type ≡ 16
  pub counted : word_a s m.type ≡ m.constructors
  pub positive : 0 < m.number
  pub within : m.number ≤ m.constructors
  pub few : m.constructors ≤ 255

pub data AllReady (s : List ℕ) (i : ℕ) : List ConstructorEntry → Type 0 where
  none-ready : AllReady s i []
  one-ready : {v : List ℕ} {t n k : ℕ} {C : List ConstructorEntry}
      → Ready s i (record { type = t; constructors = n; number = k }) → AllReady s i C → AllReady s i (constructor_entry v t n k ∷ C)

ready-append : {s : List ℕ} {i : ℕ} {C C' : List ConstructorEntry} → AllReady s i C → AllReady s i C' → AllReady s i (C ++ C')
ready-append none-ready y = y
ready-append (one-ready x r) y = one-ready x (ready-append r y)

ready_of : {s : List ℕ} (i t n k : ℕ) (cs : List Identifier) → 0 < t → t < i → kind_word s t ≡ 16 → word_a s t ≡ n → n ≤ 255 → 0 < k
    → k + length cs ≤ suc n → AllReady s i (constructor_entries_of t n k cs)
ready_of i t n k [] past before flat counted few positive h = none-ready
ready_of i t n k (c ∷ cs) past before flat counted few positive h =
    one-ready (record { past = past; before = before; flat = flat; counted = counted; positive = positive; within = omega arith; few = few })
    (ready_of i t n (suc k) cs past before flat counted few (omega arith) (omega arith))

constructors-ready : {s : List ℕ} (i e : ℕ) (T : List TypeEntry) (ds : List Declaration) → 0 < i → i + length ds ≤ e → FewConstructors ds
    → Stands s i (types_laid i T ds) → AllReady s e (constructor_entries_from i ds)
constructors-ready i e T [] h l few st = none-ready
constructors-ready i e T (Constructors t c cs ∷ ds) h l few (one-stands x st) =
    ready-append
    (ready_of e i (length (c ∷ cs)) 1 (c ∷ cs) h (omega arith) x.kind-is x.a-is few.0 (omega arith) (omega arith))
    (constructors-ready (suc i) e (after_entry i T (Constructors t c cs)) ds (omega arith) (omega arith) few.1 st)
constructors-ready i e T (PairOf t a b ∷ ds) h l few (one-stands x st) =
    constructors-ready (suc i) e (after_entry i T (PairOf t a b)) ds (omega arith) (omega arith) few st

found-ready : {s : List ℕ} {i : ℕ} (w : List ℕ) {C : List ConstructorEntry} → AllReady s i C → is_entry w C ≡ true → Ready s i (constructor_meant C w)
found-ready w none-ready h = absurd (let no : ◌≡◌ {A = ℕ} 0 1 = cc in omega arith)
found-ready {s} {i} w (one-ready {v} {t} {n} {k} {C} x r) h = go (same_name w v) (found-ready w r) h
  where
    go : (b : Bool) → (is_entry w C ≡ true → Ready s i (constructor_meant C w)) → cond b true (is_entry w C) ≡ true
        → Ready s i (cond b (record { type = t; constructors = n; number = k }) (constructor_meant C w))
    go true f h = x
    go false f h = f h

pub constructor-in : {s : List ℕ} (ds : List Declaration) → FewConstructors ds → Stands s 1 (types_laid 1 [] ds) → (w : List ℕ)
    → is_declared constructor_role w (after_all at_first ds) ≡ true → Ready s (1 + length ds) (constructor_meant (constructor_entries ds) w)
constructor-in ds few st w h =
    found-ready w (constructors-ready 1 (1 + length ds) [] ds (omega arith) (omega arith) few st) (a-constructor w ds h)

-- a declared type's name is in the table
named-first : (w v : List ℕ) (j : ℕ) (τ : Ty) (T : List TypeEntry) → same_name w v ≡ true → is_named w (type_entry v j τ ∷ T) ≡ true
named-first w v j τ T e = rw e

named-after : (w : List ℕ) (i : ℕ) (T : List TypeEntry) (d : Declaration) → is_named w T ≡ true → is_named w (after_entry i T d) ≡ true
named-after w i T (Constructors t c cs) h = go (same_name w (letters t))
  where
    go : (b : Bool) → cond b true (is_named w T) ≡ true
    go true = refl
    go false = h
named-after w i T (PairOf t a b) h = go (same_name w (letters t))
  where
    go : (b : Bool) → cond b true (is_named w T) ≡ true
    go true = refl
    go false = h

pub named-all : (w : List ℕ) (i : ℕ) (T : List TypeEntry) (ds : List Declaration) → is_named w T ≡ true → is_named w (type_entries_from i T ds) ≡ true
named-all w i T [] h = h
named-all w i T (d ∷ ds) h = named-all w (suc i) (after_entry i T d) ds (named-after w i T d h)

-- what a search finds among the declarations is the name of one
same_self : (w : List ℕ) → same_name w w ≡ true
same_self w = equal-same w w refl

pub constructor-in-table : (i : ℕ) (T : List TypeEntry) (ds : List Declaration) (w v : List ℕ) → type_of_constructor ds w ≡ some v
    → is_named v (type_entries_from i T ds) ≡ true
constructor-in-table i T [] w v h = absurd (let no : ◌≡◌ {A = ℕ} 0 1 = cc in omega arith)
constructor-in-table i T (Constructors t c cs ∷ ds) w v h =
    go (is_among w (letters c ∷ all_letters cs)) (constructor-in-table (suc i) (after_entry i T (Constructors t c cs)) ds w v) h
  where
    go : (b : Bool)
        → (type_of_constructor ds w ≡ some v → is_named v (type_entries_from (suc i) (after_entry i T (Constructors t c cs)) ds) ≡ true)
        → cond b (some (letters t)) (type_of_constructor ds w) ≡ some v
        → is_named v (type_entries_from (suc i) (after_entry i T (Constructors t c cs)) ds) ≡ true
    go true f e =
        let f : letters t ≡ v = cc in
        named-all v (suc i) (after_entry i T (Constructors t c cs)) ds
        (named-first v (letters t) i (Flat i (length (c ∷ cs))) T (equal-same v (letters t) (sym f)))
    go false f e = f e
constructor-in-table i T (PairOf t a b ∷ ds) w v h = constructor-in-table (suc i) (after_entry i T (PairOf t a b)) ds w v h

pair_typed : (i : ℕ) (T : List TypeEntry) (ds : List Declaration) (x y v : List ℕ) → first_pair_type ds x y ≡ some v
    → is_named v (type_entries_from i T ds) ≡ true
pair_typed i T [] x y v h = absurd (let no : ◌≡◌ {A = ℕ} 0 1 = cc in omega arith)
pair_typed i T (Constructors t c cs ∷ ds) x y v h = pair_typed (suc i) (after_entry i T (Constructors t c cs)) ds x y v h
pair_typed i T (PairOf t a b ∷ ds) x y v h =
    go (cond (same_name x (letters a)) (same_name y (letters b)) false) (pair_typed (suc i) (after_entry i T (PairOf t a b)) ds x y v) h
  where
    go : (d : Bool) → (first_pair_type ds x y ≡ some v → is_named v (type_entries_from (suc i) (after_entry i T (PairOf t a b)) ds) ≡ true)
        → cond d (some (letters t)) (first_pair_type ds x y) ≡ some v
        → is_named v (type_entries_from (suc i) (after_entry i T (PairOf t a b)) ds) ≡ true
    go true f e =
        let f : letters t ≡ v = cc in
        named-all v (suc i) (after_entry i T (PairOf t a b)) ds
        (named-first v (letters t) i (TyTuple (type_meant T (letters a)) (type_meant T (letters b))) T (equal-same v (letters t) (sym f)))
    go false f e = f e

module _ (ds : List Declaration) (good : AllPass (declarations_checks at_first ds)) where
  constant_typed : (c : SourceConstant) → AllPass (constant_names (after_all at_first ds) c) → (v : List ℕ) → constant_type ds c ≡ some v
      → is_named v (type_entries ds) ≡ true
  constant_typed (OfConstructor n) h v e = constructor-in-table 1 [] ds (letters n) v e
  constant_typed (Undefined (identifier w p)) h v e =
      let f : w ≡ v = cc in
      let k = types-known 1 at_first [] [] ds no-type none-matched good in
      subst (λ u. is_named u (type_entries ds) ≡ true) f (k.0.named w (passes h))
  constant_typed (ConstantPair p c d) h v e = go (constant_type ds c) (constant_type ds d) e
    where
      go : (x y : Option (List ℕ)) → pair_type_of ds x y ≡ some v → is_named v (type_entries ds) ≡ true
      go none y e = absurd (let no : ◌≡◌ {A = ℕ} 0 1 = cc in omega arith)
      go (some x) none e = absurd (let no : ◌≡◌ {A = ℕ} 0 1 = cc in omega arith)
      go (some x) (some y) e = pair_typed 1 [] ds x y v e

  pub held_in : (c : SourceConstant) → AllPass (constant_names (after_all at_first ds) c) → is_typed (constant_type ds c) ≡ true
      → (0 < number_or (type_entries ds) (constant_type ds c)) × (number_or (type_entries ds) (constant_type ds c) < 1 + length ds)
  held_in c h t = go (constant_type ds c) refl t
    where
      go : (x : Option (List ℕ)) → constant_type ds c ≡ x → is_typed x ≡ true
          → (0 < number_or (type_entries ds) x) × (number_or (type_entries ds) x < 1 + length ds)
      go none e t = absurd (let no : ◌≡◌ {A = ℕ} 0 1 = cc in omega arith)
      go (some v) e t = ranged-number v (entries-ranged 1 [] ds (omega arith) no-numbers) (constant_typed c h v e)
