-- The type of a constant by numbers: the first pair type of two has the number of its name, and every type of a good constant has one.
-- Assumes nothing.
use Prim.Native.Nat.{ℕ, zero, suc, ◌<◌}
use native.Mathlib.Omega.{arith}
use mathlib.Core.Path.{◌≡◌, refl, sym, ap, ap₂, ◌∙◌}
use mathlib.Core.Bool.{Bool, true, false, cond}
use mathlib.Core.List.{List, [], ◌∷◌, ◌++◌}
use mathlib.Core.Option.{Option, none, some}
use lib.ListN.{length}
use lib.Dec.{eqb}
use borrow.Author.Tests.{eq-eqb, ne_eqb}
use Rattle.grammar.specs.Source.{Identifier, identifier, Declaration, Constructors, PairOf, SourceConstant, OfConstructor, Undefined, ConstantPair}
use Rattle.name_rules.specs.Declared.{DeclaredName, same_name, is_among, is_declared, type_role, constructor_role, at_first}
use Rattle.name_rules.proofs.SameName.{same-equal, equal-same}
use Rattle.name_rules.specs.Checks.{AllPass}
use Rattle.name_rules.specs.Constants.{letters, all_letters, type_of_constructor, first_pair_type, pair_type_of, constant_type, is_typed}
use Rattle.name_rules.specs.Names.{after_declaration, after_all, declaration_checks, declarations_checks, constant_names}
use Rattle.name_rules.specs.RecordsNeeded.{LeafCount}
use Rattle.layout.specs.Resolved.{
  TypeEntry,
  type_number,
  after_entry,
  type_entries_from,
  type_entries,
  ConstructorEntry,
  constructor_entries_of,
  constructor_entries_from,
  constructor_entries,
  constructor_meant,
}
use Rattle.layout.specs.Layout.{number_or}
use Rattle.layout.proofs.ConstructorTables.{pass-both, passes, pass-rest, is_entry, a-constructor}
use Rattle.layout.proofs.Tables.{is_named, types-known, no-type, none-matched}
use Rattle.instructions.specs.Assembly.{DeclaredType, flat_type, paired_type, number_or_else, pair_numbered, constant_pair_numbered}
use Rattle.instructions.specs.RecordOrder.{types_onto, declared_types}
use Rattle.instructions.proofs.LeavesNumbered.{NumberedTypes, types-numbered}
use Rattle.instructions.proofs.KeptNumbers.{type-taken, number-kept, declared-number, either_number, constructor-number}

-- the first pair type of two
or_nothing : (n : ℕ) → number_or_else n 0 ≡ n
or_nothing zero = refl
or_nothing (suc n) = refl

or-chain : (a b c : ℕ) → number_or_else (number_or_else a b) c ≡ number_or_else a (number_or_else b c)
or-chain zero b c = refl
or-chain (suc a) b c = refl

or-first : (b : Bool) (i x : ℕ) → 0 < i → number_or_else (cond b i 0) x ≡ cond b i x
or-first true zero x p = absurd (omega arith)
or-first true (suc i) x p = refl
or-first false i x p = refl

-- two numbers are the same where the names are
same_number : {T : List DeclaredType} {E : List TypeEntry} {L : List LeafCount} → NumberedTypes T E L → (v u : List ℕ) (k : ℕ)
    → 0 < type_number E v → k ≡ type_number E u → eqb (type_number E v) k ≡ same_name v u
same_number {E = E} N v u k p e = go (same_name v u) refl
  where
    go : (b : Bool) → same_name v u ≡ b → eqb (type_number E v) k ≡ b
    go true s = eq-eqb (type_number E v) k (ap (type_number E) (same-equal v u s) ∙ sym e)
    go false s =
        ne_eqb (type_number E v) k
        (λ f.
        let same : true ≡ false = sym (equal-same v u (N.one_name v u (f ∙ e) p)) ∙ s in
        absurd (let z : ◌≡◌ {A = ℕ} 0 1 = cc in omega arith))

-- the parts of a pair type are types
declared-parts : (D : List DeclaredName) (t : Identifier) (a b : List ℕ) (x y : ℕ)
    → AllPass (declaration_checks D (PairOf t (identifier a x) (identifier b y)))
    → (is_declared type_role a D ≡ true) × (is_declared type_role b D ≡ true)
declared-parts D (identifier u z) a b x y h = (passes (pass-rest h), passes (pass-rest (pass-rest h)))

pair-number : (i : ℕ) (T : List DeclaredType) (E : List TypeEntry) {T' : List DeclaredType} {L : List LeafCount} (D : List DeclaredName) (ds : List Declaration)
    → i ≡ suc (length T) → NumberedTypes T' (type_entries_from i E ds) L → AllPass (declarations_checks D ds) → (v w : List ℕ)
    → 0 < type_number (type_entries_from i E ds) v → 0 < type_number (type_entries_from i E ds) w
    → pair_numbered (types_onto i E ds T) (type_number (type_entries_from i E ds) v) (type_number (type_entries_from i E ds) w)
    ≡ number_or_else (pair_numbered T (type_number (type_entries_from i E ds) v) (type_number (type_entries_from i E ds) w))
    (number_or (type_entries_from i E ds) (first_pair_type ds v w))
pair-number i T E D [] at N h v w p q = sym (or_nothing _)
pair-number i T E D (Constructors t c cs ∷ ds) at N h v w p q =
    let d = Constructors t c cs in
    let both = pass-both (declaration_checks D d) (declarations_checks (after_declaration D d) ds) h in
    let Z = type_entries_from i E (d ∷ ds) in
    pair-number (suc i) (flat_type (length (c ∷ cs)) ∷ T) (after_entry i E d) (after_declaration D d) ds (ap suc at) N both.1 v w p q
    ∙ ap (λ x. number_or_else x (number_or Z (first_pair_type ds v w))) (or_nothing (pair_numbered T (type_number Z v) (type_number Z w)))
pair-number i T E D (PairOf t (identifier a x) (identifier b y) ∷ ds) at N h v w p q =
    let d = PairOf t (identifier a x) (identifier b y) in
    let both = pass-both (declaration_checks D d) (declarations_checks (after_declaration D d) ds) h in
    let Z = type_entries_from i E (d ∷ ds) in
    let parts = declared-parts D t a b x y both.0 in
    let first = number-kept i E D (d ∷ ds) a (type-taken a D parts.0) h in
    let second = number-kept i E D (d ∷ ds) b (type-taken b D parts.1) h in
    let same = ap₂ (λ k l. cond k l false) (same_number N v a (type_number E a) p (sym first)) (same_number N w b (type_number E b) q (sym second)) in
    let pair = cond (same_name v a) (same_name w b) false in
    let before = pair_numbered T (type_number Z v) (type_number Z w) in
    let later = number_or Z (first_pair_type ds v w) in
    pair-number (suc i) (paired_type (type_number E a) (type_number E b) ∷ T) (after_entry i E d) (after_declaration D d) ds (ap suc at) N both.1 v w p q
    ∙ ap (λ k. number_or_else (number_or_else before (cond k (suc (length T)) 0)) later) same
    ∙ or-chain before (cond pair (suc (length T)) 0) later
    ∙ ap (number_or_else before)
    (or-first pair (suc (length T)) later (omega arith)
    ∙ ap (λ k. cond pair k later) (sym at ∙ sym (declared-number i E D d ds h))
    ∙ sym (either_number Z pair (letters t) (first_pair_type ds v w)))

-- a type that may not be there has a number where it is
abbrev pub HasNumber : List TypeEntry → Option (List ℕ) → Type 0
HasNumber E none = Unit {0}
HasNumber E (some w) = 0 < type_number E w

named-after : (i : ℕ) (E : List TypeEntry) (w v : List ℕ) → 0 < i → (is_named w E ≡ true → 0 < type_number E w)
    → cond (same_name w v) true (is_named w E) ≡ true → 0 < cond (same_name w v) i (type_number E w)
named-after i E w v p f = go (same_name w v)
  where
    go : (b : Bool) → cond b true (is_named w E) ≡ true → 0 < cond b i (type_number E w)
    go true h = p
    go false h = f h

named-number : (i : ℕ) (E : List TypeEntry) (ds : List Declaration) (w : List ℕ) → 0 < i → (is_named w E ≡ true → 0 < type_number E w)
    → is_named w (type_entries_from i E ds) ≡ true → 0 < type_number (type_entries_from i E ds) w
named-number i E [] w p f h = f h
named-number i E (Constructors t c cs ∷ ds) w p f h =
    named-number (suc i) (after_entry i E (Constructors t c cs)) ds w (omega arith) (named-after i E w (letters t) p f) h
named-number i E (PairOf t a b ∷ ds) w p f h =
    named-number (suc i) (after_entry i E (PairOf t a b)) ds w (omega arith) (named-after i E w (letters t) p f) h

either-has : (E : List TypeEntry) (b : Bool) (t : List ℕ) (x : Option (List ℕ)) → 0 < type_number E t → HasNumber E x → HasNumber E (cond b (some t) x)
either-has E true t x p h = p
either-has E false t x p h = h

constructor-has : (i : ℕ) (E : List TypeEntry) (D : List DeclaredName) (ds : List Declaration) (w : List ℕ) → 0 < i
    → AllPass (declarations_checks D ds) → HasNumber (type_entries_from i E ds) (type_of_constructor ds w)
constructor-has i E D [] w p h = tt
constructor-has i E D (Constructors t c cs ∷ ds) w p h =
    let d = Constructors t c cs in
    let both = pass-both (declaration_checks D d) (declarations_checks (after_declaration D d) ds) h in
    let own = declared-number i E D d ds h in
    either-has (type_entries_from i E (d ∷ ds)) (is_among w (letters c ∷ all_letters cs)) (letters t) (type_of_constructor ds w) (omega (arith, own))
    (constructor-has (suc i) (after_entry i E d) (after_declaration D d) ds w (omega arith) both.1)
constructor-has i E D (PairOf t a b ∷ ds) w p h =
    let d = PairOf t a b in
    let both = pass-both (declaration_checks D d) (declarations_checks (after_declaration D d) ds) h in
    constructor-has (suc i) (after_entry i E d) (after_declaration D d) ds w (omega arith) both.1

pair-has : (i : ℕ) (E : List TypeEntry) (D : List DeclaredName) (ds : List Declaration) (v w : List ℕ) → 0 < i
    → AllPass (declarations_checks D ds) → HasNumber (type_entries_from i E ds) (first_pair_type ds v w)
pair-has i E D [] v w p h = tt
pair-has i E D (Constructors t c cs ∷ ds) v w p h =
    let d = Constructors t c cs in
    let both = pass-both (declaration_checks D d) (declarations_checks (after_declaration D d) ds) h in
    pair-has (suc i) (after_entry i E d) (after_declaration D d) ds v w (omega arith) both.1
pair-has i E D (PairOf t a b ∷ ds) v w p h =
    let d = PairOf t a b in
    let both = pass-both (declaration_checks D d) (declarations_checks (after_declaration D d) ds) h in
    let own = declared-number i E D d ds h in
    either-has (type_entries_from i E (d ∷ ds)) (cond (same_name v (letters a)) (same_name w (letters b)) false) (letters t) (first_pair_type ds v w)
    (omega (arith, own))
    (pair-has (suc i) (after_entry i E d) (after_declaration D d) ds v w (omega arith) both.1)

-- a declared constructor has a type
entry-among : (t n k : ℕ) (cs : List Identifier) (C : List ConstructorEntry) (w : List ℕ)
    → is_entry w (constructor_entries_of t n k cs ++ C) ≡ cond (is_among w (all_letters cs)) true (is_entry w C)
entry-among t n k [] C w = refl
entry-among t n k (c ∷ cs) C w = go (same_name w (letters c)) (entry-among t n (suc k) cs C w)
  where
    go : (b : Bool) → is_entry w (constructor_entries_of t n (suc k) cs ++ C) ≡ cond (is_among w (all_letters cs)) true (is_entry w C)
        → cond b true (is_entry w (constructor_entries_of t n (suc k) cs ++ C)) ≡ cond (cond b true (is_among w (all_letters cs))) true (is_entry w C)
    go true e = refl
    go false e = e

entry-typed : (i : ℕ) (ds : List Declaration) (w : List ℕ) → is_entry w (constructor_entries_from i ds) ≡ true → is_typed (type_of_constructor ds w) ≡ true
entry-typed i [] w h = h
entry-typed i (Constructors t c cs ∷ ds) w h =
    go (is_among w (letters c ∷ all_letters cs)) (entry-typed (suc i) ds w)
    (sym (entry-among i (length (c ∷ cs)) 1 (c ∷ cs) (constructor_entries_from (suc i) ds) w) ∙ h)
  where
    go : (b : Bool) → (is_entry w (constructor_entries_from (suc i) ds) ≡ true → is_typed (type_of_constructor ds w) ≡ true)
        → cond b true (is_entry w (constructor_entries_from (suc i) ds)) ≡ true → is_typed (cond b (some (letters t)) (type_of_constructor ds w)) ≡ true
    go true f h = refl
    go false f h = f h
entry-typed i (PairOf t a b ∷ ds) w h = entry-typed (suc i) ds w h

both_typed : (T : List DeclaredType) (a b : ℕ) → 0 < a → 0 < b → constant_pair_numbered T a b ≡ pair_numbered T a b
both_typed T zero b p q = absurd (omega arith)
both_typed T (suc a) zero p q = absurd (omega arith)
both_typed T (suc a) (suc b) p q = refl

second-untyped : (T : List DeclaredType) (a : ℕ) → constant_pair_numbered T a 0 ≡ 0
second-untyped T zero = refl
second-untyped T (suc a) = refl

-- where the declarations are good
module _ (ds : List Declaration) (good : AllPass (declarations_checks at_first ds)) where
  -- a declared type has a number
  pub type-has : (w : List ℕ) → is_declared type_role w (after_all at_first ds) ≡ true → 0 < type_number (type_entries ds) w
  type-has w h =
      named-number 1 [] ds w (omega arith) (λ e. absurd (let z : ◌≡◌ {A = ℕ} 0 1 = cc in omega arith))
      ((types-known 1 at_first [] [] ds no-type none-matched good).0.named w h)

  pub constructor-typed : (w : List ℕ) → is_declared constructor_role w (after_all at_first ds) ≡ true → is_typed (type_of_constructor ds w) ≡ true
  constructor-typed w h = entry-typed 1 ds w (a-constructor w ds h)

  pub constructor-numbered : (w : List ℕ) → (constructor_meant (constructor_entries ds) w).type ≡ number_or (type_entries ds) (type_of_constructor ds w)
  constructor-numbered w = constructor-number 1 [] at_first ds w good

  pub constant-has : (c : SourceConstant) → AllPass (constant_names (after_all at_first ds) c) → HasNumber (type_entries ds) (constant_type ds c)
  constant-has (OfConstructor n) h = constructor-has 1 [] at_first ds (letters n) (omega arith) good
  constant-has (Undefined (identifier w p)) h = type-has w (passes h)
  constant-has (ConstantPair p c d) h = go (constant_type ds c) (constant_type ds d)
    where
      go : (x y : Option (List ℕ)) → HasNumber (type_entries ds) (pair_type_of ds x y)
      go none y = tt
      go (some v) none = tt
      go (some v) (some w) = pair-has 1 [] at_first ds v w (omega arith) good

  -- the type of a pair of constants
  pub pair-numbered : (x y : Option (List ℕ)) → HasNumber (type_entries ds) x → HasNumber (type_entries ds) y
      → constant_pair_numbered (declared_types ds) (number_or (type_entries ds) x) (number_or (type_entries ds) y)
      ≡ number_or (type_entries ds) (pair_type_of ds x y)
  pair-numbered none y h k = refl
  pair-numbered (some v) none h k = second-untyped (declared_types ds) (type_number (type_entries ds) v)
  pair-numbered (some v) (some w) h k =
      both_typed (declared_types ds) (type_number (type_entries ds) v) (type_number (type_entries ds) w) h k
      ∙ pair-number 1 [] [] at_first ds refl (types-numbered ds) good v w h k
