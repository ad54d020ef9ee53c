-- Code 5 by declarations: a lower record is the pair type of the same two records exactly where a
-- lower declaration is of the same two names, since names and numbers of types are one to one; and
-- the record has the leaves of the type that its name stands for.
-- Assumes nothing.
use Prim.Native.Nat.{ℕ, zero, suc, ◌+◌, ◌-◌, ◌≤◌, ◌<◌}
use mathlib.Core.Path.{◌≡◌, refl, ap, ap₂, sym, subst, ◌∙◌}
use mathlib.Core.Bool.{Bool, true, false, cond, ◌&&◌, ◌||◌, or-false}
use mathlib.Core.List.{List, [], ◌∷◌}
use mathlib.Core.Option.{some}
use native.Mathlib.Omega.{arith}
use borrow.Author.Tests.{lt-ltb, eq-eqb, ne_eqb}
use lib.Dec.{eqb, ltb}
use lib.ListN.{length, take}
use Rattle.picoella.specs.Language.{Ty, Flat, TyTuple, leaves}
use Rattle.records.specs.Kinds.{row_of, kind_of}
use Rattle.records.specs.Trees.{type_at, is_pair_of, pair_below}
use Rattle.structure.specs.Rules.{wrong_type}
use Rattle.grammar.specs.Source.{identifier, Declaration, Constructors, PairOf}
use Rattle.name_rules.specs.Declared.{DeclaredName, same_name, at_first}
use Rattle.name_rules.specs.Checks.{AllPass}
use Rattle.name_rules.specs.Constants.{letters, first_pair_type, is_typed}
use Rattle.name_rules.specs.Names.{after_declaration, declaration_checks, declarations_checks}
use Rattle.name_rules.proofs.SameName.{equal-same, same-equal}
use Rattle.layout.specs.Resolved.{TypeEntry, type_entry, type_meant, type_number, after_entry, type_entries_from, type_entries}
use Rattle.layout.specs.Layout.{types_laid}
use Rattle.layout.proofs.Standing.{RecordIs, Stands, one-stands}
use Rattle.layout.proofs.ConstructorTables.{pass-both, passes, pass-rest}
use Rattle.layout.proofs.Tables.{is_named, Known, no-type, after-known}
use Rattle.text_meaning.proofs.TakenNames.{AllTaken, after-taken, later_same, later-number, first_entry}
use Rattle.text_passes.specs.RefusedTypes.{declaration_at, where_declared, is_refused_pair, refused_pair}
use Rattle.text_passes.specs.NamedTypes.{type_name_of}
use Rattle.text_passes.proofs.TypesReady.{NumbersBelow, no-numbers, ranged-number, after-ranged, named-all}

-- the numbers of entries fall
pub data Falling : List TypeEntry → Type 0 where
  none-falling : Falling []
  one-falling : {v : List ℕ} {j : ℕ} {τ : Ty} {T : List TypeEntry} → NumbersBelow j T → Falling T → Falling (type_entry v j τ ∷ T)

after-falling : (i : ℕ) (T : List TypeEntry) (d : Declaration) → NumbersBelow i T → Falling T → Falling (after_entry i T d)
after-falling i T (Constructors t c cs) r f = one-falling r f
after-falling i T (PairOf t a b) r f = one-falling r f

pub entries-falling : (i : ℕ) (T : List TypeEntry) (ds : List Declaration) → 0 < i → NumbersBelow i T → Falling T → Falling (type_entries_from i T ds)
entries-falling i T [] h r f = f
entries-falling i T (d ∷ ds) h r f =
    entries-falling (suc i) (after_entry i T d) ds (omega arith) (after-ranged i T d h r) (after-falling i T d r f)

-- so two names of one number are the same
pub number-one : (x y : List ℕ) {T : List TypeEntry} → Falling T → is_named x T ≡ true → is_named y T ≡ true → type_number T x ≡ type_number T y → x ≡ y
number-one x y none-falling h k e = absurd (let no : ◌≡◌ {A = ℕ} 0 1 = cc in omega arith)
number-one x y (one-falling {v} {j} {τ} {T} r f) h k e =
    go (same_name x v) (same_name y v) (same-equal x v) (same-equal y v) (number-one x y f) (ranged-number x r) (ranged-number y r) h k e
  where
    go : (b c : Bool) → (b ≡ true → x ≡ v) → (c ≡ true → y ≡ v)
        → (is_named x T ≡ true → is_named y T ≡ true → type_number T x ≡ type_number T y → x ≡ y)
        → (is_named x T ≡ true → (0 < type_number T x) × (type_number T x < j))
        → (is_named y T ≡ true → (0 < type_number T y) × (type_number T y < j))
        → cond b true (is_named x T) ≡ true → cond c true (is_named y T) ≡ true
        → cond b j (type_number T x) ≡ cond c j (type_number T y) → x ≡ y
    go true true p q f m n h k e = p refl ∙ sym (q refl)
    go true false p q f m n h k e = let l = (n k).1 in absurd (omega (arith, l, e))
    go false true p q f m n h k e = let l = (m h).1 in absurd (omega (arith, l, e))
    go false false p q f m n h k e = f h k e

same_number : {T : List TypeEntry} → Falling T → (x y : List ℕ) → is_named x T ≡ true → is_named y T ≡ true
    → eqb (type_number T y) (type_number T x) ≡ same_name x y
same_number {T} f x y h k = go (same_name x y) refl
  where
    go : (b : Bool) → same_name x y ≡ b → eqb (type_number T y) (type_number T x) ≡ b
    go true e = eq-eqb (type_number T y) (type_number T x) (ap (type_number T) (sym (same-equal x y e)))
    go false e =
        ne_eqb (type_number T y) (type_number T x)
        (λ n. let s = equal-same x y (number-one x y f h k (sym n)) in let no : ◌≡◌ {A = ℕ} 0 1 = cc in omega arith)

-- a declaration of a pair of v and w
abbrev is_pair_of_names : (v w : List ℕ) → Declaration → Bool
is_pair_of_names v w (Constructors t c cs) = false
is_pair_of_names v w (PairOf t a b) = cond (same_name v (letters a)) (same_name w (letters b)) false

-- the search among declarations
first_of : (v w : List ℕ) (d : Declaration) (ds : List Declaration)
    → is_typed (first_pair_type (d ∷ ds) v w) ≡ (is_pair_of_names v w d || is_typed (first_pair_type ds v w))
first_of v w (Constructors t c cs) ds = refl
first_of v w (PairOf t a b) ds = go (cond (same_name v (letters a)) (same_name w (letters b)) false)
  where
    go : (x : Bool) → is_typed (cond x (some (letters t)) (first_pair_type ds v w)) ≡ (x || is_typed (first_pair_type ds v w))
    go true = refl
    go false = refl

-- and among records
next-below : (s : List ℕ) (a b i : ℕ) → 0 < i → ltb 0 (pair_below s a b (suc i)) ≡ (ltb 0 (pair_below s a b i) || is_pair_of s a b i)
next-below s a b i past = go (pair_below s a b i) (is_pair_of s a b i) refl refl
  where
    go : (v : ℕ) (x : Bool) → pair_below s a b i ≡ v → is_pair_of s a b i ≡ x
        → ltb 0 (pair_below s a b (suc i)) ≡ (ltb 0 (pair_below s a b i) || is_pair_of s a b i)
    go zero true p q = rw (p, q) (lt-ltb 0 i past)
    go zero false p q = rw (p, q)
    go (suc v) x p q = rw (p, q, lt-ltb 0 (suc v) (omega arith))

first_below : (s : List ℕ) (a b : ℕ) → ltb 0 (pair_below s a b 1) ≡ false
first_below s a b = go (is_pair_of s a b 0) refl
  where
    go : (x : Bool) → is_pair_of s a b 0 ≡ x → ltb 0 (pair_below s a b 1) ≡ false
    go true p = rw p
    go false p = rw p

or_assoc : (x y z : Bool) → ((x || y) || z) ≡ (x || (y || z))
or_assoc true y z = refl
or_assoc false y z = refl

both-tests : (x y : Bool) → (x && y) ≡ cond x y false
both-tests true y = refl
both-tests false y = refl

-- what is known after some declarations: U is the table after all
record Far (U : List TypeEntry) (i : ℕ) (D : List DeclaredName) (T : List TypeEntry) (ds : List Declaration) : Type 0 where
  past : 0 < i
  known : Known D T
  taken : AllTaken D T
  ranged : NumbersBelow i T
  good : AllPass (declarations_checks D ds)
  all : type_entries_from i T ds ≡ U

further : {U : List TypeEntry} {i : ℕ} {D : List DeclaredName} {T : List TypeEntry} (d : Declaration) (ds : List Declaration) → Far U i D T (d ∷ ds)
    → Far U (suc i) (after_declaration D d) (after_entry i T d) ds
further {U} {i} {D} {T} d ds f =
    record {
      past = omega arith;
      known = after-known i D T d f.known;
      taken = after-taken D T i d f.taken;
      ranged = after-ranged i T d f.past f.ranged;
      good = (pass-both (declaration_checks D d) (declarations_checks (after_declaration D d) ds) f.good).1;
      all = f.all;
    }

in_all : {U : List TypeEntry} {i : ℕ} {D : List DeclaredName} {T : List TypeEntry} (ds : List Declaration) → Far U i D T ds → (w : List ℕ)
    → is_named w T ≡ true → (is_named w U ≡ true) × (type_number U w ≡ type_number T w)
in_all {U} {i} {D} {T} ds f w h = (
  subst (λ X. is_named w X ≡ true) f.all (named-all w i T ds h),
  subst (λ X. type_number X w ≡ type_number T w) f.all (later-number w i D T ds f.taken h f.good),
)

in-all-meant : {U : List TypeEntry} {i : ℕ} {D : List DeclaredName} {T : List TypeEntry} (ds : List Declaration) → Far U i D T ds → (w : List ℕ)
    → is_named w T ≡ true → type_meant U w ≡ type_meant T w
in-all-meant {U} {i} {D} {T} ds f w h =
    subst (λ X. type_meant X w ≡ type_meant T w) f.all (later_same w i D T ds f.taken h f.good)

-- record i is the pair type of v's and w's exactly where its declaration is a pair of them
module _ (s : List ℕ) {U : List TypeEntry} (falling : Falling U) (v w : List ℕ) (hv : is_named v U ≡ true) (hw : is_named w U ≡ true) where
  flat-is : {i n a : ℕ} → RecordIs s i 16 n a 0 0 0 → is_pair_of s (type_number U v) (type_number U w) i ≡ false
  unfolding kind_of row_of
  flat-is x = rw x.kind-is

  pair_is : {i n a b : ℕ} → RecordIs s i 17 n a b 0 0
      → is_pair_of s (type_number U v) (type_number U w) i ≡ (eqb a (type_number U v) && eqb b (type_number U w))
  unfolding kind_of row_of
  pair_is x = rw (x.kind-is, x.a-is, x.b-is)

  step : (i k : ℕ) (d : Declaration) (ds : List Declaration) → 0 < i → is_pair_of s (type_number U v) (type_number U w) i ≡ is_pair_of_names v w d
      → ltb 0 (pair_below s (type_number U v) (type_number U w) (suc i + k))
      ≡ (ltb 0 (pair_below s (type_number U v) (type_number U w) (suc i)) || is_typed (first_pair_type (take k ds) v w))
      → ltb 0 (pair_below s (type_number U v) (type_number U w) (i + suc k))
      ≡ (ltb 0 (pair_below s (type_number U v) (type_number U w) i) || is_typed (first_pair_type (d ∷ take k ds) v w))
  step i k d ds past same ih =
      let A = type_number U v in
      let B = type_number U w in
      let e : i + suc k ≡ suc i + k = omega arith in
      let n = next-below s A B i past in
      let x = ltb 0 (pair_below s A B i) in
      let z = is_typed (first_pair_type (take k ds) v w) in
      ap (λ m. ltb 0 (pair_below s A B m)) e
      ∙ ih
      ∙ ap (λ y. y || z) (n ∙ ap (λ y. x || y) same)
      ∙ or_assoc x (is_pair_of_names v w d) z
      ∙ ap (λ y. x || y) (sym (first_of v w d (take k ds)))

  found : {i : ℕ} {D : List DeclaredName} {T : List TypeEntry} (ds : List Declaration) → Far U i D T ds → Stands s i (types_laid i T ds)
      → (k : ℕ) → k ≤ length ds
      → ltb 0 (pair_below s (type_number U v) (type_number U w) (i + k))
      ≡ (ltb 0 (pair_below s (type_number U v) (type_number U w) i) || is_typed (first_pair_type (take k ds) v w))
  found {i} ds f st zero h =
      let e : i + 0 ≡ i = omega arith in rw e (sym (or-false (ltb 0 (pair_below s (type_number U v) (type_number U w) i))))
  found {i} [] f st (suc k) h = let no : ⊥ = omega arith in elim no [ ]
  found {i} (Constructors t c cs ∷ ds) f (one-stands x st) (suc k) h =
      let d = Constructors t c cs in step i k d ds f.past (flat-is x) (found {i = suc i} ds (further d ds f) st k (omega arith))
  found {i} {D} {T} (PairOf (identifier t p) (identifier a m) (identifier b n) ∷ ds) f (one-stands x st) (suc k) h =
      let d = PairOf (identifier t p) (identifier a m) (identifier b n) in
      let parts = pass-rest (pass-both (declaration_checks D d) (declarations_checks (after_declaration D d) ds) f.good).0 in
      let ha = in_all (d ∷ ds) f a (f.known.named a (passes parts)) in
      let hb = in_all (d ∷ ds) f b (f.known.named b (passes (pass-rest parts))) in
      let same : is_pair_of s (type_number U v) (type_number U w) i ≡ is_pair_of_names v w d =
      pair_is x
      ∙ ap₂ ◌&&◌
      (ap (λ y. eqb y (type_number U v)) (sym ha.1) ∙ same_number falling v a hv ha.0)
      (ap (λ y. eqb y (type_number U w)) (sym hb.1) ∙ same_number falling w b hw hb.0)
      ∙ both-tests (same_name v a) (same_name w b) in
      step i k d ds f.past same (found {i = suc i} ds (further d ds f) st k (omega arith))

wrong-as : {s : List ℕ} {i n a b : ℕ} → RecordIs s i 17 n a b 0 0
    → wrong_type s i ≡ (ltb 0 (pair_below s a b i) || ltb 64 (leaves (type_at s i)))
unfolding wrong_type kind_of row_of
wrong-as x = rw (x.kind-is, x.a-is, x.b-is)

flat-fits : {s : List ℕ} {i n a : ℕ} → RecordIs s i 16 n a 0 0 0 → wrong_type s i ≡ false
unfolding wrong_type kind_of row_of
flat-fits x = rw x.kind-is

module _ {s : List ℕ} (all : List Declaration) (good : AllPass (declarations_checks at_first all)) (st : Stands s 1 (types_laid 1 [] all))
    (meant : (w : List ℕ) → type_at s (type_number (type_entries all) w) ≡ type_meant (type_entries all) w) where
  abbrev U : List TypeEntry
  U = type_entries all

  none-taken : AllTaken at_first []
  none-taken = record { taken = λ w e. absurd (let no : ◌≡◌ {A = ℕ} 0 1 = cc in omega arith) }

  start : Far U 1 at_first [] all
  start = record { past = omega arith; known = no-type; taken = none-taken; ranged = no-numbers; good = good; all = refl }

  falls : Falling U
  falls = entries-falling 1 [] all (omega arith) no-numbers none-falling

  lower : (v w : List ℕ) → is_named v U ≡ true → is_named w U ≡ true → (k : ℕ) → k ≤ length all
      → ltb 0 (pair_below s (type_number U v) (type_number U w) (1 + k)) ≡ is_typed (first_pair_type (take k all) v w)
  lower v w hv hw k h =
      found s falls v w hv hw all start st k h
      ∙ ap (λ x. x || is_typed (first_pair_type (take k all) v w)) (first_below s (type_number U v) (type_number U w))

  each : {i : ℕ} {D : List DeclaredName} {T : List TypeEntry} (es : List Declaration) → Far U i D T es → Stands s i (types_laid i T es)
      → (m : ℕ) → i ≡ 1 + m → m + length es ≡ length all → (k : ℕ) → k < length es
      → wrong_type s (i + k) ≡ where_declared (is_refused_pair all (take (m + k) all)) (declaration_at es (suc k))
  each [] f sts m e l k h = let no : ⊥ = omega arith in elim no [ ]
  each {i} (Constructors t c cs ∷ es) f (one-stands x sts) m e l zero h =
      let z : i + 0 ≡ i = omega arith in rw z (flat-fits x)
  each {i} {D} {T} (PairOf (identifier t p) (identifier a q) (identifier b n) ∷ es) f (one-stands x sts) m e l zero h =
      let d = PairOf (identifier t p) (identifier a q) (identifier b n) in
      let parts = pass-rest (pass-both (declaration_checks D d) (declarations_checks (after_declaration D d) es) f.good).0 in
      let ha = in_all (d ∷ es) f a (f.known.named a (passes parts)) in
      let hb = in_all (d ∷ es) f b (f.known.named b (passes (pass-rest parts))) in
      let entry = first_entry i T t (TyTuple (type_meant T a) (type_meant T b)) in
      let ht = in_all es (further d es f) t entry.1 in
      let own : type_number (after_entry i T d) t ≡ i = rw (equal-same t t refl) in
      let number : type_number U t ≡ i = ht.1 ∙ own in
      let z : i + 0 ≡ i = omega arith in
      let y : m + 0 ≡ m = omega arith in
      let search : ltb 0 (pair_below s (type_number T a) (type_number T b) i) ≡ is_typed (first_pair_type (take m all) a b) =
      rw (e, ← ha.1, ← hb.1) (lower a b ha.0 hb.0 m (omega arith)) in
      let counted : leaves (type_at s i) ≡ leaves (type_meant U t) =
      ap (λ j. leaves (type_at s j)) (sym number) ∙ ap leaves (meant t) in
      rw (z, y) (wrong-as x ∙ ap₂ (λ v w. v || ltb 64 w) search counted)
  each {i} (Constructors t c cs ∷ es) f (one-stands x sts) m e l (suc k) h =
      let d = Constructors t c cs in
      let z : i + suc k ≡ suc i + k = omega arith in
      let y : m + suc k ≡ suc m + k = omega arith in
      rw (z, y) (each {i = suc i} es (further d es f) sts (suc m) (omega (arith, e)) (omega arith) k (omega arith))
  each {i} (PairOf t a b ∷ es) f (one-stands x sts) m e l (suc k) h =
      let d = PairOf t a b in
      let z : i + suc k ≡ suc i + k = omega arith in
      let y : m + suc k ≡ suc m + k = omega arith in
      rw (z, y) (each {i = suc i} es (further d es f) sts (suc m) (omega (arith, e)) (omega arith) k (omega arith))

  pub types-refused : (k : ℕ) → k < length all → wrong_type s (1 + k) ≡ refused_pair all (suc k)
  unfolding refused_pair
  types-refused k h =
      let e : 0 + k ≡ suc k - 1 = omega arith in
      each all start st 0 (omega arith) (omega arith) k h
      ∙ ap (λ m. where_declared (is_refused_pair all (take m all)) (declaration_at all (suc k))) e

  -- the name of each declaration has its number
  each-named : {i : ℕ} {D : List DeclaredName} {T : List TypeEntry} (es : List Declaration) → Far U i D T es → (k : ℕ) → k < length es
      → (d : Declaration) × (declaration_at es (suc k) ≡ some d) × (type_number U (type_name_of d) ≡ i + k)
  each-named [] f k h = let no : ⊥ = omega arith in elim no [ ]
  each-named {i} {D} {T} (Constructors (identifier t p) c cs ∷ es) f zero h =
      let d = Constructors (identifier t p) c cs in
      let entry = first_entry i T t (Flat i (length (c ∷ cs))) in
      let own : type_number (after_entry i T d) t ≡ i = rw (equal-same t t refl) in
      (d, refl, (in_all es (further d es f) t entry.1).1 ∙ own ∙ (let z : i ≡ i + 0 = omega arith in z))
  each-named {i} {D} {T} (PairOf (identifier t p) a b ∷ es) f zero h =
      let d = PairOf (identifier t p) a b in
      let entry = first_entry i T t (TyTuple (type_meant T (letters a)) (type_meant T (letters b))) in
      let own : type_number (after_entry i T d) t ≡ i = rw (equal-same t t refl) in
      (d, refl, (in_all es (further d es f) t entry.1).1 ∙ own ∙ (let z : i ≡ i + 0 = omega arith in z))
  each-named {i} (d ∷ es) f (suc k) h =
      let r = each-named {i = suc i} es (further d es f) k (omega arith) in
      (r.0, r.1, r.2 ∙ (let z : suc i + k ≡ i + suc k = omega arith in z))

  pub declared-named : (k : ℕ) → k < length all
      → (d : Declaration) × (declaration_at all (suc k) ≡ some d) × (type_number U (type_name_of d) ≡ suc k)
  declared-named k h =
      let r = each-named all start k h in (r.0, r.1, r.2 ∙ (let z : 1 + k ≡ suc k = omega arith in z))

  -- what the name of a declaration stands for
  abbrev pub StandsDeclared : ℕ → Declaration → Type 0
  StandsDeclared j (Constructors t c cs) = type_meant U (letters t) ≡ Flat j (length (c ∷ cs))
  StandsDeclared j (PairOf t a b) =
      (type_meant U (letters t) ≡ TyTuple (type_meant U (letters a)) (type_meant U (letters b)))
      × (is_named (letters a) U ≡ true)
      × (is_named (letters b) U ≡ true)

  each_stands : {i : ℕ} {D : List DeclaredName} {T : List TypeEntry} (es : List Declaration) → Far U i D T es → (k : ℕ) (c : Declaration)
      → declaration_at es (suc k) ≡ some c → StandsDeclared (i + k) c × (is_named (type_name_of c) U ≡ true)
  each_stands [] f k c h = absurd (let no : ◌≡◌ {A = ℕ} 0 1 = cc in omega arith)
  each_stands {i} {D} {T} (Constructors (identifier t p) a cs ∷ es) f zero c h =
      let d = Constructors (identifier t p) a cs in
      let same : d ≡ c = cc in
      let entry = first_entry i T t (Flat i (length (a ∷ cs))) in
      let z : i ≡ i + 0 = omega arith in
      let here : StandsDeclared i d × (is_named t U ≡ true) =
      (in-all-meant es (further d es f) t entry.1 ∙ entry.0, (in_all es (further d es f) t entry.1).0) in
      subst (λ x. StandsDeclared (i + 0) x × (is_named (type_name_of x) U ≡ true)) same
      (subst (λ j. StandsDeclared j d × (is_named t U ≡ true)) z here)
  each_stands {i} {D} {T} (PairOf (identifier t p) (identifier a q) (identifier b r) ∷ es) f zero c h =
      let d = PairOf (identifier t p) (identifier a q) (identifier b r) in
      let same : d ≡ c = cc in
      let parts = pass-rest (pass-both (declaration_checks D d) (declarations_checks (after_declaration D d) es) f.good).0 in
      let na = f.known.named a (passes parts) in
      let nb = f.known.named b (passes (pass-rest parts)) in
      let entry = first_entry i T t (TyTuple (type_meant T a) (type_meant T b)) in
      let here : StandsDeclared i d × (is_named t U ≡ true) = (
        (
          in-all-meant es (further d es f) t entry.1 ∙ entry.0
              ∙ ap₂ TyTuple (sym (in-all-meant (d ∷ es) f a na)) (sym (in-all-meant (d ∷ es) f b nb)),
          (in_all (d ∷ es) f a na).0,
          (in_all (d ∷ es) f b nb).0,
        ),
        (in_all es (further d es f) t entry.1).0,
      ) in
      subst (λ x. StandsDeclared (i + 0) x × (is_named (type_name_of x) U ≡ true)) same here
  each_stands {i} (d ∷ es) f (suc k) c h =
      let z : suc i + k ≡ i + suc k = omega arith in
      subst (λ j. StandsDeclared j c × (is_named (type_name_of c) U ≡ true)) z (each_stands {i = suc i} es (further d es f) k c h)

  pub declared-stands : (k : ℕ) (c : Declaration) → declaration_at all (suc k) ≡ some c
      → StandsDeclared (suc k) c × (is_named (type_name_of c) U ≡ true)
  declared-stands k c h =
      let z : 1 + k ≡ suc k = omega arith in
      subst (λ j. StandsDeclared j c × (is_named (type_name_of c) U ≡ true)) z (each_stands all start k c h)

  pub all-falling : Falling U
  all-falling = falls
