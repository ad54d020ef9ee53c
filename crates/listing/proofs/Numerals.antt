-- The digits of a number are its numeral, by induction over the digits, and the only one, by induction over a numeral's length: its
-- last digit is the number's remainder by 10, and what stands before it is a numeral of the quotient.
-- Assumes nothing.
use Prim.Native.Nat.{ℕ, zero, suc, ◌+◌, ◌*◌, ◌-◌, ◌/◌, ◌%◌, ◌≤◌, ◌<◌}
use mathlib.Core.Path.{◌≡◌, refl, sym, ap, ◌∙◌, subst}
use mathlib.Core.Logic.{◌≢◌}
use mathlib.Core.List.{List, [], ◌∷◌, ◌++◌}
use native.Mathlib.Omega.{arith}
use lib.ListN.{length, get_or, length-append}
use Rattle.listing.specs.Digits.{digit, digits}
use Rattle.listing.specs.Promises.{read_after, AllDigits, Numeral, DigitsExactly}
use Rattle.listing.proofs.Digits.{digits-one, digits_more, by_digits}

read-snoc : (n : ℕ) (ds : List ℕ) (d : ℕ) → read_after n (ds ++ (d ∷ [])) ≡ 10 * read_after n ds + (d - 48)
read-snoc n [] d = refl
read-snoc n (c ∷ ds) d = read-snoc (10 * n + (c - 48)) ds d

read-grows : (n : ℕ) (ds : List ℕ) → n ≤ read_after n ds
read-grows n [] = omega arith
read-grows n (d ∷ ds) = let g : 10 * n + (d - 48) ≤ read_after (10 * n + (d - 48)) ds = read-grows (10 * n + (d - 48)) ds in omega arith

-- with two digits or more the first is not 0
first-not-zero : (n : ℕ) (ds : List ℕ) (d : ℕ) → 0 < n → Numeral n ds → get_or (ds ++ (d ∷ [])) 0 0 ≢ 48
first-not-zero n [] d z h e = let s = h.some_digits in omega arith
first-not-zero n (c ∷ []) d z h e = let r = h.reads in omega arith
first-not-zero n (c ∷ b ∷ ds) d z h e = h.no_leading_zero (omega arith) e

all_append : (ds es : List ℕ) → AllDigits ds → AllDigits es → AllDigits (ds ++ es)
all_append [] es a b = b
all_append (d ∷ ds) es a b = (a.0, a.1, all_append ds es a.2 b)

all-front : (ds es : List ℕ) → AllDigits (ds ++ es) → AllDigits ds
all-front [] es a = tt
all-front (d ∷ ds) es a = (a.0, a.1, all-front ds es a.2)

all_back : (ds es : List ℕ) → AllDigits (ds ++ es) → AllDigits es
all_back [] es a = a
all_back (d ∷ ds) es a = all_back ds es a.2

numeral-one : (d : ℕ) → d < 10 → Numeral d (digit d ∷ [])
numeral-one d h =
    record {
      some_digits = omega arith;
      all_digits = (omega arith, omega arith, tt);
      reads = omega arith;
      no_leading_zero = λ k. absurd (omega arith);
    }

numeral-more : (n d : ℕ) → 0 < n → d < 10 → Numeral n (digits n) → Numeral (10 * n + d) (digits n ++ (digit d ∷ []))
numeral-more n d z h m =
    record {
      some_digits = rw length-append (omega arith);
      all_digits = all_append (digits n) (digit d ∷ []) m.all_digits (omega arith, omega arith, tt);
      reads = rw (read-snoc, m.reads) (omega arith);
      no_leading_zero = λ k. first-not-zero n (digits n) (digit d) z m;
    }

numeral : (n : ℕ) → Numeral n (digits n)
numeral = by_digits Numeral numeral-one numeral-more

-- ---- the only one

last_apart : (c : ℕ) (cs : List ℕ) → (ds : List ℕ) × (d : ℕ) × (c ∷ cs ≡ ds ++ (d ∷ []))
last_apart c [] = ([], c, refl)
last_apart c (b ∷ bs) = let r = last_apart b bs in (c ∷ r.0, r.1, ap (λ l. c ∷ l) r.2)

-- a numeral of two digits or more, without its last
front-numeral :
    (n c : ℕ) (ds : List ℕ) (d : ℕ) →
    Numeral n (c ∷ ds ++ (d ∷ [])) →
    (10 ≤ n) × Numeral (n / 10) (c ∷ ds) × (d ≡ digit (n % 10))
front-numeral n c ds d m =
    let front : List ℕ = c ∷ ds in
    let first = (all-front front (d ∷ []) m.all_digits).0 in
    let last = all_back front (d ∷ []) m.all_digits in
    let r : 10 * read_after 0 front + (d - 48) ≡ n = sym (read-snoc 0 front d) ∙ m.reads in
    let g : 10 * 0 + (c - 48) ≤ read_after 0 front = read-grows (10 * 0 + (c - 48)) ds in
    let z : c ≢ 48 = m.no_leading_zero (rw length-append (omega arith)) in (
      omega arith,
      record {
        some_digits = omega arith;
        all_digits = all-front front (d ∷ []) m.all_digits;
        reads = omega arith;
        no_leading_zero = λ k. z;
      },
      omega arith,
    )

Unique : ℕ → Type 0
Unique most = (n : ℕ) (text : List ℕ) → length text ≤ most → Numeral n text → text ≡ digits n

one-longer : (most : ℕ) → Unique most → Unique (suc most)
unfolding Unique
one-longer most u n [] h m = let s = m.some_digits in absurd (omega arith)
one-longer most u n (c ∷ []) h m =
    let a = m.all_digits in
    let r = m.reads in
    let e : c ≡ digit n = omega arith in
    rw (e, digits-one n (omega arith)) refl
one-longer most u n (c ∷ b ∷ bs) h m =
    let l = last_apart b bs in
    let e : c ∷ b ∷ bs ≡ c ∷ l.0 ++ (l.1 ∷ []) = ap (λ r. c ∷ r) l.2 in
    let f = front-numeral n c l.0 l.1 (subst (Numeral n) e m) in
    let short : length (c ∷ l.0) ≤ most = omega (arith, simp length-append at (ap length l.2)) in
    let same : c ∷ l.0 ≡ digits (n / 10) = u (n / 10) (c ∷ l.0) short f.1 in
    e
    ∙ ap (λ ds. ds ++ (l.1 ∷ [])) same
    ∙ ap (λ d. digits (n / 10) ++ (d ∷ [])) f.2
    ∙ sym (digits_more n f.0)

unique-within : (most : ℕ) → Unique most
unfolding Unique
unique-within zero n text h m = let s = m.some_digits in absurd (omega arith)
unique-within (suc most) n text h m = one-longer most (unique-within most) n text h m

unique : (n : ℕ) (text : List ℕ) → Numeral n text → text ≡ digits n
unfolding Unique
unique n text m = unique-within (length text) n text (omega arith) m

pub digits-exactly : DigitsExactly
digits-exactly n text = (unique n text, λ e. subst (Numeral n) (sym e) (numeral n))
