-- What the tables of a text's names say of the sheet that it is laid out as, where the names are good.
-- Assumes nothing.
use Prim.Native.Nat.{ℕ, suc, ◌+◌, min}
use mathlib.Core.Path.{◌≡◌, refl}
use mathlib.Core.Bool.{Bool, true, false, cond}
use mathlib.Core.List.{List, [], ◌∷◌}
use mathlib.Core.Option.{Option}
use native.Mathlib.Omega.{arith}
use lib.ListN.{length}
use Rattle.picoella.specs.Language.{Ty, Flat, TyTuple, leaves}
use Rattle.records.specs.Words.{word_a}
use Rattle.records.specs.Trees.{type_at}
use Rattle.grammar.specs.Source.{Identifier, identifier, Declaration, Constructors, PairOf}
use Rattle.name_rules.specs.Declared.{a_type, a_constructor, DeclaredName, same_name, input, at_first, is_declared, type_role, constructor_role}
use Rattle.name_rules.specs.Checks.{AllPass}
use Rattle.name_rules.specs.Constants.{letters}
use Rattle.name_rules.specs.Names.{add, add_all, after_declaration, after_all, declaration_checks, declarations_checks}
use Rattle.name_rules.specs.RecordsNeeded.{LeafCount, leaf_count, leaf_count_of, leaf_counts}
use Rattle.layout.specs.Resolved.{
  TypeEntry,
  type_entry,
  type_meant,
  type_number,
  after_entry,
  type_entries_from,
  type_entries,
  constructor_entries,
  constructor_meant,
}
use Rattle.layout.specs.Distances.{type_or}
use Rattle.layout.specs.Layout.{types_laid, number_or}
use Rattle.layout.proofs.Standing.{Stands}
use Rattle.layout.proofs.TypesMeant.{SaysType, Headed, none-say, number-says, or-says, entries-say, constructors-flat}
use Rattle.layout.proofs.ConstructorTables.{pass-both, passes, pass-rest, constructors-counted, says-flat-type, a-constructor}

pub record TablesMeant (s : List ℕ) (ds : List Declaration) : Type 0 where
  pub types : (w : List ℕ) → type_at s (type_number (type_entries ds) w) ≡ type_meant (type_entries ds) w
  pub perhaps : (w : Option (List ℕ)) → type_at s (number_or (type_entries ds) w) ≡ type_or (type_entries ds) w
  pub constructors : (w : List ℕ)
      → type_at s (constructor_meant (constructor_entries ds) w).type
      ≡ Flat (constructor_meant (constructor_entries ds) w).type (constructor_meant (constructor_entries ds) w).constructors
  pub counts : (w : List ℕ) → is_declared constructor_role w (after_all at_first ds) ≡ true
      → word_a s (constructor_meant (constructor_entries ds) w).type ≡ (constructor_meant (constructor_entries ds) w).constructors
  pub leaf-counts : (w : List ℕ) → is_declared type_role w (after_all at_first ds) ≡ true
      → leaf_count_of (leaf_counts [] ds) w ≡ min 64 (leaves (type_meant (type_entries ds) w))

-- whether a type of this name is in the table
abbrev pub is_named : List ℕ → List TypeEntry → Bool
is_named w [] = false
is_named w (type_entry v j τ ∷ T) = cond (same_name w v) true (is_named w T)

-- the leaf counts are those of the types, up to 64
pub data Matched : List LeafCount → List TypeEntry → Type 0 where
  none-matched : Matched [] []
  one-matched : {v : List ℕ} {n j : ℕ} {τ : Ty} {L : List LeafCount} {T : List TypeEntry}
      → n ≡ min 64 (leaves τ) → Matched L T → Matched (leaf_count v n ∷ L) (type_entry v j τ ∷ T)

matched-count : (w : List ℕ) {L : List LeafCount} {T : List TypeEntry} → Matched L T → is_named w T ≡ true
    → leaf_count_of L w ≡ min 64 (leaves (type_meant T w))
matched-count w none-matched h = let no : ◌≡◌ {A = ℕ} 0 1 = cc in omega arith
matched-count w (one-matched {v} {n} {j} {τ} {L} {T} e m) h = go (same_name w v) (matched-count w m) h
  where
    go : (b : Bool) → (is_named w T ≡ true → leaf_count_of L w ≡ min 64 (leaves (type_meant T w))) → cond b true (is_named w T) ≡ true
        → cond b n (leaf_count_of L w) ≡ min 64 (leaves (cond b τ (type_meant T w)))
    go true f h = e
    go false f h = f h

-- every name that is declared as a type is in the table
pub record Known (D : List DeclaredName) (T : List TypeEntry) : Type 0 where
  pub named : (w : List ℕ) → is_declared type_role w D ≡ true → is_named w T ≡ true

no-type-added : (w : List ℕ) (D : List DeclaredName) (cs : List Identifier) → is_declared type_role w (add_all cs D) ≡ true
    → is_declared type_role w D ≡ true
no-type-added w D [] h = h
no-type-added w D (identifier v p ∷ cs) h = go (same_name w v) (no-type-added w (add a_constructor (identifier v p) D) cs h)
  where
    go : (b : Bool) → cond b false (is_declared type_role w D) ≡ true → is_declared type_role w D ≡ true
    go true h = let no : ◌≡◌ {A = ℕ} 0 1 = cc in let none : ⊥ = omega arith in elim none [ ]
    go false h = h

known-type : (D : List DeclaredName) (T : List TypeEntry) (t : Identifier) (j : ℕ) (τ : Ty) → Known D T
    → Known (add a_type t D) (type_entry (letters t) j τ ∷ T)
known-type D T (identifier v p) j τ k = record { named = λ w. go w (same_name w v) }
  where
    go : (w : List ℕ) (b : Bool) → cond b true (is_declared type_role w D) ≡ true → cond b true (is_named w T) ≡ true
    go w true h = refl
    go w false h = k.named w h

known-constructors : (D : List DeclaredName) (T : List TypeEntry) (cs : List Identifier) → Known D T → Known (add_all cs D) T
known-constructors D T cs k = record { named = λ w h. k.named w (no-type-added w D cs h) }

pub after-known : (i : ℕ) (D : List DeclaredName) (T : List TypeEntry) (d : Declaration) → Known D T
    → Known (after_declaration D d) (after_entry i T d)
after-known i D T (Constructors t c cs) k =
    known-constructors (add a_type t D) (after_entry i T (Constructors t c cs)) (c ∷ cs) (known-type D T t i (Flat i (length (c ∷ cs))) k)
after-known i D T (PairOf t a b) k = known-type D T t i (TyTuple (type_meant T (letters a)) (type_meant T (letters b))) k

pub types-known : (i : ℕ) (D : List DeclaredName) (T : List TypeEntry) (L : List LeafCount) (ds : List Declaration) → Known D T → Matched L T
    → AllPass (declarations_checks D ds)
    → Known (after_all D ds) (type_entries_from i T ds) × Matched (leaf_counts L ds) (type_entries_from i T ds)
types-known i D T L [] k m h = (k, m)
types-known i D T L (Constructors t c cs ∷ ds) k m h =
    types-known (suc i) (after_declaration D (Constructors t c cs)) (after_entry i T (Constructors t c cs)) (leaf_count (letters t) 1 ∷ L) ds
    (after-known i D T (Constructors t c cs) k)
    (one-matched refl m)
    (pass-both (declaration_checks D (Constructors t c cs)) (declarations_checks (after_declaration D (Constructors t c cs)) ds) h).1
types-known i D T L (PairOf (identifier v r) (identifier a p) (identifier b q) ∷ ds) k m h =
    let t = identifier v r in
    let both =
    pass-both (declaration_checks D (PairOf t (identifier a p) (identifier b q)))
    (declarations_checks (after_declaration D (PairOf t (identifier a p) (identifier b q))) ds) h in
    let parts = pass-rest both.0 in
    let f = matched-count a m (k.named a (passes parts)) in
    let g = matched-count b m (k.named b (passes (pass-rest parts))) in
    types-known (suc i) (add a_type t D) (after_entry i T (PairOf t (identifier a p) (identifier b q)))
    (leaf_count (letters t) (min 64 (leaf_count_of L a + leaf_count_of L b)) ∷ L) ds
    (known-type D T t i (TyTuple (type_meant T a) (type_meant T b)) k)
    (one-matched (rw (f, g) (omega arith)) m)
    both.1

not-a-type : (b : Bool) → cond b false false ≡ true → false ≡ true
not-a-type true e = e
not-a-type false e = e

pub no-type : Known at_first []
no-type = record { named = λ w. not-a-type (same_name w input) }

at-record : {s : List ℕ} {j : ℕ} {τ : Ty} → SaysType s j τ → type_at s j ≡ τ
unfolding type_at
at-record {s} {j} x = x.within (suc j) (omega arith)

pub tables-meant : {s : List ℕ} → Headed s → (ds : List Declaration) → Stands s 1 (types_laid 1 [] ds) → AllPass (declarations_checks at_first ds)
    → TablesMeant s ds
tables-meant {s} h ds st good =
    let say = entries-say h (omega arith) none-say ds st in
    let flat = constructors-flat h [] ds st in
    let known = types-known 1 at_first [] [] ds no-type none-matched good in
    record {
      types = λ w. at-record (number-says h (omega arith) say w).1;
      perhaps = λ w. at-record (or-says h (omega arith) say w);
      constructors = λ w. at-record (says-flat-type h w flat);
      counts = λ w c. constructors-counted w flat (a-constructor w ds c);
      leaf-counts = λ w d. matched-count w known.1 (known.0.named w d);
    }
