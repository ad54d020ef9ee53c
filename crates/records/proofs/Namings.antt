-- The namings of a record are the words that name it, each once: a word that names it is among them, and what is among them
-- names it. So where a record is well named, a word other than d that names it is its only naming: it is named once, and by nothing
-- else. Words d name in IFs alone, and name patterns. A record that names is lower than the one it names.
-- Assumes nothing.
use Prim.Native.Nat.{ℕ, zero, suc, ◌≤◌, ◌<◌}
use mathlib.Core.Bool.{Bool, true, false, ◌&&◌}
use mathlib.Core.List.Memᴰ
use mathlib.Core.List.{
  List,
  [],
  ◌∷◌,
  Memᴰ,
}
use mathlib.Core.Path.{◌≡◌, refl, sym, ap, ◌∙◌}
use mathlib.Core.Logic.{◌⊎◌, inl, inr}
use native.Mathlib.Omega.{arith}
use native.Mathlib.Decide.{ℕ_discrete}
use lib.Dec.{eqb, ltb}
use borrow.Author.Tests.{eqb-true, eq-eqb, ltb-true}
use Rattle.records.specs.Words.{word, count}
use Rattle.records.specs.Kinds.{
  Kind,
  header,
  type_of,
  flat,
  pair,
  expression,
  constant,
  name,
  tuple,
  first,
  second,
  let_in,
  feedback,
  if_matches,
  delay,
  pattern,
  whole,
  constructor,
  parts,
  leaf,
  unknown,
  Sort,
  patterns,
  same_sort,
  sort_number,
  Ask,
  zeroed,
  next_of,
  part,
  any_type,
  lower_type,
  lower_flat,
  constructor_of,
  counted,
  byte,
  free,
  total,
  never,
}
use Rattle.records.specs.Says.{kind_at, sort_at, ask_at, Naming, names, names_at, if_named, namings_in, namings_below, namings, by_word_d, well_named}
use Rattle.records.specs.Written.{Written, WellNamed}
use Rattle.records.proofs.Tests.{never_both, both_left, both_right}
use Rattle.records.proofs.Table.{ask_of_kind, ask-by-kind, ask_number}
use Rattle.records.proofs.Asked.{AskMeans, as-asked, part-of-kind}

-- a word that names is in the list
in-record : (s : List ℕ) (r q n k : ℕ) → 0 < k → k ≤ n → names_at s r q k ≡ true
    → Memᴰ (record { by = q; at = k }) (namings_in s r q n)
in-record s r q zero k low high e = absurd (omega arith)
in-record s r q (suc n) k low high e = go (ℕ_discrete k (suc n)) (in-record s r q n k low)
  where
    go : Dec (k ≡ suc n) → (k ≤ n → names_at s r q k ≡ true → Memᴰ (record { by = q; at = k }) (namings_in s r q n))
        → Memᴰ (record { by = q; at = k }) (namings_in s r q (suc n))
    go (yes d) rest = Memᴰ.append_right (namings_in s r q n) (rw (← d, e) (Memᴰ.head refl))
    go (no d) rest = Memᴰ.append_left (if_named (names_at s r q (suc n)) q (suc n)) (rest (omega arith) e)

in-records : (s : List ℕ) (r n q k : ℕ) → q < n → 0 < k → k < 6 → names_at s r q k ≡ true
    → Memᴰ (record { by = q; at = k }) (namings_below s r n)
in-records s r zero q k h low high e = absurd (omega arith)
in-records s r (suc n) q k h low high e = go (ℕ_discrete q n) (in-records s r n q k)
  where
    go : Dec (q ≡ n)
        → (q < n → 0 < k → k < 6 → names_at s r q k ≡ true → Memᴰ (record { by = q; at = k }) (namings_below s r n))
        → Memᴰ (record { by = q; at = k }) (namings_below s r (suc n))
    go (yes d) rest = Memᴰ.append_right (namings_below s r n) (rw (← d) (in-record s r q 5 k low (omega arith) e))
    go (no d) rest = Memᴰ.append_left (namings_in s r n 5) (rest (omega arith) low high e)

by-word-d : (x : Naming) (ns : List Naming) → by_word_d ns ≡ true → Memᴰ x ns → x.at ≡ 5
by-word-d x (y ∷ ns) e (Memᴰ.head h) = rw h (eqb-true y.at 5 (both_left (eqb y.at 5) (by_word_d ns) e))
by-word-d x (y ∷ ns) e (Memᴰ.tail m) = by-word-d x ns (both_right (eqb y.at 5) (by_word_d ns) e) m
by-word-d x [] e x3 = elim x3 [ ]

only : (x : Naming) (ns : List Naming) → well_named ns ≡ true → x.at < 5 → Memᴰ x ns → ns ≡ x ∷ []
only x [] e l m = absurd (never_both false e refl)
only x (y ∷ []) e l (Memᴰ.head h) = rw h
only x (y ∷ []) e l (Memᴰ.tail m) = elim m [ ]
only x (y ∷ z ∷ ns) e l m = absurd (let d = by-word-d x (y ∷ z ∷ ns) e m in omega arith)

-- the naming x is of record r
pub record Names (s : List ℕ) (r : ℕ) (x : Naming) : Type 0 where
  pub there : x.by < count s
  pub low : 0 < x.at
  pub high : x.at < 6
  pub names : names_at s r x.by x.at ≡ true

-- a word other than d that names a record is its only naming
pub only-naming : (s : List ℕ) → WellNamed s → (r : ℕ) (x : Naming) → 0 < r → r < count s → x.at < 5 → Names s r x
    → namings s r ≡ x ∷ []
unfolding namings
only-naming s well r x low high other n =
    only x (namings s r) (well r low high) other
    (in-records s r (count s) x.by x.at n.there n.low n.high n.names)

if-named : (b : Bool) (q k : ℕ) (x : Naming) → Memᴰ x (if_named b q k) → (b ≡ true) × (x.by ≡ q) × (x.at ≡ k)
if-named true q k x (Memᴰ.head e) = (refl, ap (λ n. n.by) e, ap (λ n. n.at) e)
if-named true q k x (Memᴰ.tail m) = elim m [ ]
if-named false q k x m = elim m [ ]

record-names : (s : List ℕ) (r q n : ℕ) (x : Naming) → n < 6 → Memᴰ x (namings_in s r q n)
    → (x.by ≡ q) × (0 < x.at) × (x.at < 6) × (names_at s r x.by x.at ≡ true)
record-names s r q zero x h m = elim m [ ]
record-names s r q (suc n) x h m = go (Memᴰ.append_cases (namings_in s r q n) m) (record-names s r q n x)
  where
    go : Memᴰ x (namings_in s r q n) ⊎ Memᴰ x (if_named (names_at s r q (suc n)) q (suc n))
        → (n < 6 → Memᴰ x (namings_in s r q n) → (x.by ≡ q) × (0 < x.at) × (x.at < 6) × (names_at s r x.by x.at ≡ true))
        → (x.by ≡ q) × (0 < x.at) × (x.at < 6) × (names_at s r x.by x.at ≡ true)
    go (inl m) rest = rest (omega arith) m
    go (inr m) rest =
        let f = if-named (names_at s r q (suc n)) q (suc n) x m in (f.1, omega arith, omega arith, rw (f.1, f.2) f.0)

records-name : (s : List ℕ) (r n : ℕ) (x : Naming) → n ≤ count s → Memᴰ x (namings_below s r n) → Names s r x
records-name s r zero x h m = elim m [ ]
records-name s r (suc n) x h m = go (Memᴰ.append_cases (namings_below s r n) m) (records-name s r n x)
  where
    go : Memᴰ x (namings_below s r n) ⊎ Memᴰ x (namings_in s r n 5)
        → (n ≤ count s → Memᴰ x (namings_below s r n) → Names s r x) → Names s r x
    go (inl m) rest = rest (omega arith) m
    go (inr m) rest = let f = record-names s r n 5 x (omega arith) m in record {
      there = rw f.0 (omega arith);
      low = f.1;
      high = f.2;
      names = f.3;
    }

pub in-namings-names : (s : List ℕ) (r : ℕ) (x : Naming) → Memᴰ x (namings s r) → Names s r x
unfolding namings
in-namings-names s r x m = records-name s r (count s) x (omega arith) m

named-higher : (s : List ℕ) (q w : ℕ) (a : Ask) → names a ≡ true → AskMeans s q a w → 0 < w → (q < w) × (w < count s)
named-higher s q w (next_of σ) e m h = let f = m h in (f.0, f.1)
named-higher s q w (part σ) e m h = (m.0, m.1)
named-higher s q w zeroed e m h = absurd (never_both false e refl)
named-higher s q w any_type e m h = absurd (never_both false e refl)
named-higher s q w lower_type e m h = absurd (never_both false e refl)
named-higher s q w lower_flat e m h = absurd (never_both false e refl)
named-higher s q w constructor_of e m h = absurd (never_both false e refl)
named-higher s q w counted e m h = absurd (never_both false e refl)
named-higher s q w byte e m h = absurd (never_both false e refl)
named-higher s q w free e m h = absurd (never_both false e refl)
named-higher s q w total e m h = absurd (never_both false e refl)
named-higher s q w never e m h = absurd (never_both false e refl)

-- a record that names is lower than the one it names
pub namer-lower : {s : List ℕ} → Written s → (r : ℕ) (x : Naming) → 0 < r → Names s r x → (x.by < r) × (r < count s)
namer-lower {s} w r x h n =
    let a = both_left (names (ask_at s x.by x.at)) (eqb (word s x.by x.at) r) n.names in
    let b = both_right (names (ask_at s x.by x.at)) (eqb (word s x.by x.at) r) n.names in
    let e = eqb-true (word s x.by x.at) r b in
    rw e at (named-higher s x.by (word s x.by x.at) (ask_at s x.by x.at) a
    (as-asked w x.by x.at (ask_at s x.by x.at) n.there n.low n.high refl) (rw e h))

-- a part of a record of this kind is named by its word, and so is what its next leads to
pub part-names : (s : List ℕ) (q : ℕ) (k : Kind) (σ : Sort) → q < count s → kind_at s q ≡ k → (j : ℕ) → (ltb 0 j && ltb j 6) ≡ true
    → ask_of_kind k j ≡ part σ → Names s (word s q j) (record { by = q; at = j })
part-names s q k σ h e j t a = record {
  there = h;
  low = ltb-true 0 j (both_left (ltb 0 j) (ltb j 6) t);
  high = ltb-true j 6 (both_right (ltb 0 j) (ltb j 6) t);
  names = rw (ask-by-kind s q j k e, a) (eq-eqb (word s q j) (word s q j) refl);
}

pub next-names : (s : List ℕ) (q : ℕ) (k : Kind) (σ : Sort) → q < count s → kind_at s q ≡ k → ask_of_kind k 1 ≡ next_of σ
    → Names s (word s q 1) (record { by = q; at = 1 })
next-names s q k σ h e a = record {
  there = h;
  low = omega arith;
  high = omega arith;
  names = rw (ask-by-kind s q 1 k e, a) (eq-eqb (word s q 1) (word s q 1) refl);
}

-- of all kinds only an IF has a word d that names
names-by-d : (k : Kind) → names (ask_of_kind k 5) ≡ true → k ≡ expression if_matches
unfolding ask_of_kind
names-by-d header e = absurd (never_both false e refl)
names-by-d (type_of flat) e = absurd (never_both false e refl)
names-by-d (type_of pair) e = absurd (never_both false e refl)
names-by-d (expression constant) e = absurd (never_both false e refl)
names-by-d (expression name) e = absurd (never_both false e refl)
names-by-d (expression tuple) e = absurd (never_both false e refl)
names-by-d (expression first) e = absurd (never_both false e refl)
names-by-d (expression second) e = absurd (never_both false e refl)
names-by-d (expression let_in) e = absurd (never_both false e refl)
names-by-d (expression feedback) e = absurd (never_both false e refl)
names-by-d (expression if_matches) e = refl
names-by-d (expression delay) e = absurd (never_both false e refl)
names-by-d (pattern whole) e = absurd (never_both false e refl)
names-by-d (pattern constructor) e = absurd (never_both false e refl)
names-by-d (pattern parts) e = absurd (never_both false e refl)
names-by-d leaf e = absurd (never_both false e refl)
names-by-d unknown e = absurd (never_both false e refl)

if-asks-pattern : ask_of_kind (expression if_matches) 5 ≡ part patterns
unfolding ask_of_kind
if-asks-pattern = refl

-- a naming by word d is by an IF, and of a pattern
pub word-d-names : {s : List ℕ} → Written s → (r : ℕ) (x : Naming) → x.at ≡ 5 → Names s r x
    → (kind_at s x.by ≡ expression if_matches) × (sort_at s r ≡ patterns)
word-d-names {s} w r x d n =
    let m = rw d at n.names in
    let a = both_left (names (ask_at s x.by 5)) (eqb (word s x.by 5) r) m in
    let e = eqb-true (word s x.by 5) r (both_right (names (ask_at s x.by 5)) (eqb (word s x.by 5) r) m) in
    let k = names-by-d (kind_at s x.by) (rw (ask-by-kind s x.by 5 (kind_at s x.by) refl) at a) in
    (k, rw e at (part-of-kind w x.by (expression if_matches) patterns n.there k 5 refl if-asks-pattern).2)

-- a word that asks for a part other than a pattern is not d
pub part-word-other : (k : Kind) (σ : Sort) (j : ℕ) → ask_of_kind k j ≡ part σ → (ltb 0 j && ltb j 6) ≡ true
    → same_sort σ patterns ≡ false → j < 5
part-word-other k σ j a t f = go (ℕ_discrete j 5)
  where
    go : Dec (j ≡ 5) → j < 5
    go (no d) = let h = ltb-true j 6 (both_right (ltb 0 j) (ltb j 6) t) in omega arith
    go (yes d) =
        let b = rw d at a in
        let c : k ≡ expression if_matches = names-by-d k (rw b) in
        let e : ask_number (part patterns) ≡ ask_number (part σ) = ap ask_number (sym if-asks-pattern ∙ (rw c at b)) in
        absurd (never_both (same_sort σ patterns) (eq-eqb (sort_number σ) (sort_number patterns) (omega (arith, e))) f)
