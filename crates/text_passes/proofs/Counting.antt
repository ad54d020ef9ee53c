-- How often a record is named by the words of records that stand one after the other. A sum of
-- namings telescopes: with `below h x`, 1 where x is below h, naming a adds what leads from `below
-- a x` to `below (suc a) x`.
-- Assumes nothing.
use Prim.Native.Nat.{ℕ, zero, suc, ◌+◌, ◌≤◌, ◌<◌}
use mathlib.Core.Path.{◌≡◌, refl, ap, ◌∙◌}
use mathlib.Core.Bool.{Bool, true, false, cond, ◌&&◌}
use mathlib.Core.List.{List, [], ◌∷◌}
use native.Mathlib.Omega.{arith}
use borrow.Author.Tests.{ltb-true, ltb-false, eqb-true, eqb-false, ne_eqb, lt-ltb, le-ltb}
use lib.Dec.{eqb, ltb}
use lib.ListN.{length, length-append}
use Rattle.records.specs.Words.{word}
use Rattle.records.specs.Says.{ask_at, names, names_at, if_named, namings_in, namings_below}
use Rattle.text_passes.specs.RecordWalk.{walk_order, named_by}
use Rattle.text_passes.proofs.Nested.{Nested, nested, AllNested, none-nested, zero-nested, part-nested}

-- 1 where x is a, 1 where x is below h
unfoldable pub one_at : ℕ → ℕ → ℕ
one_at a x = cond (eqb a x) 1 0

unfoldable pub one_below : ℕ → ℕ → ℕ
one_below h x = cond (ltb x h) 1 0

-- how often x is named by record q, and by n records from r on
unfoldable pub times_in : List ℕ → ℕ → ℕ → ℕ
times_in s x q = length (namings_in s x q 5)

abbrev pub times_from : List ℕ → ℕ → ℕ → ℕ → ℕ
times_from s x r zero = 0
times_from s x r (suc n) = times_in s x r + times_from s x (suc r) n

pub times_below : (s : List ℕ) (x r n : ℕ) → length (namings_below s x (r + n)) ≡ length (namings_below s x r) + times_from s x r n
unfolding times_in
times_below s x r zero = let e : r + 0 ≡ r = omega arith in rw e (omega arith)
times_below s x r (suc n) =
    let e : r + suc n ≡ suc r + n = omega arith in
    let h = times_below s x (suc r) n in
    let l = length-append (namings_below s x r) (namings_in s x r 5) in
    rw e (h ∙ (let k : length (namings_below s x (suc r)) ≡ length (namings_below s x r) + length (namings_in s x r 5) = l in omega (arith, k)))

-- two runs of records
pub times-append : (s : List ℕ) (x r m n : ℕ) → times_from s x r (m + n) ≡ times_from s x r m + times_from s x (r + m) n
times-append s x r zero n = let e : r + 0 ≡ r = omega arith in let f : 0 + n ≡ n = omega arith in rw (e, f) (omega arith)
times-append s x r (suc m) n =
    let e : r + suc m ≡ suc r + m = omega arith in
    let f : suc m + n ≡ suc (m + n) = omega arith in
    let h = times-append s x (suc r) m n in
    rw (e, f, h) (omega arith)

pub below_step : (a x : ℕ) → one_below a x + one_at a x ≡ one_below (suc a) x
unfolding one_below one_at
below_step a x = go (ltb x a) (eqb a x) (ltb x (suc a)) refl refl refl
  where
    go : (b c d : Bool) → ltb x a ≡ b → eqb a x ≡ c → ltb x (suc a) ≡ d → cond b 1 0 + cond c 1 0 ≡ cond d 1 0
    go true true d p q r = let u = ltb-true x a p in let v = eqb-true a x q in absurd (omega (arith, u, v))
    go true false true p q r = refl
    go true false false p q r = let u = ltb-true x a p in let v = ltb-false x (suc a) r in absurd (omega (arith, u, v))
    go false true true p q r = refl
    go false true false p q r = let u = eqb-true a x q in let v = ltb-false x (suc a) r in absurd (omega (arith, u, v))
    go false false true p q r =
        let u = ltb-false x a p in
        let v = ltb-true x (suc a) r in
        absurd (eqb-false a x q (omega (arith, u, v)))
    go false false false p q r = refl

pub not_at : (x : ℕ) → 0 < x → one_at 0 x ≡ 0
unfolding one_at
not_at x h = rw (ne_eqb 0 x (λ e. omega (arith, e, h)))

pub below_all : (n x : ℕ) → x < n → one_below n x ≡ 1
unfolding one_below
below_all n x h = rw (lt-ltb x n h)

pub below-past : (n x : ℕ) → n ≤ x → one_below n x ≡ 0
unfolding one_below
below-past n x h = rw (le-ltb x n h)

-- the length of what a word adds
named-length : (b : Bool) (q k : ℕ) → length (if_named b q k) ≡ cond b 1 0
named-length true q k = refl
named-length false q k = refl

-- a record's namings, word by word
abbrev pub by_word : List ℕ → ℕ → ℕ → ℕ → ℕ
by_word s x q k = cond (names_at s x q k) 1 0

words-counted : (s : List ℕ) (x q : ℕ)
    → times_in s x q ≡ by_word s x q 1 + by_word s x q 2 + by_word s x q 3 + by_word s x q 4 + by_word s x q 5
unfolding times_in
words-counted s x q =
    rw (
      length-append,
      length-append,
      length-append,
      length-append,
      named-length (names_at s x q 1) q 1,
      named-length (names_at s x q 2) q 2,
      named-length (names_at s x q 3) q 3,
      named-length (names_at s x q 4) q 4,
      named-length (names_at s x q 5) q 5,
    )

-- the words of a record, in the order of the walk
abbrev pub times_among : ℕ → List ℕ → ℕ
times_among x [] = 0
times_among x (w ∷ ws) = one_at w x + times_among x ws

one-more-named : (x w : ℕ) (b : Bool) (ws : List ℕ) → times_among x (cond b (w ∷ ws) ws) ≡ cond (b && eqb w x) 1 0 + times_among x ws
unfolding one_at
one-more-named x w true ws = refl
one-more-named x w false ws = omega arith

named-counted : (s : List ℕ) (x q : ℕ) (ks : List ℕ) (k : ℕ) → times_among x (named_by s q (k ∷ ks)) ≡ by_word s x q k + times_among x (named_by s q ks)
named-counted s x q ks k = one-more-named x (word s q k) (names (ask_at s q k)) (named_by s q ks)

pub by-named : (s : List ℕ) (x q : ℕ) → times_in s x q ≡ times_among x (named_by s q walk_order)
by-named s x q =
    let w = words-counted s x q in
    let a = named-counted s x q (3 ∷ 4 ∷ 5 ∷ 1 ∷ []) 2 in
    let b = named-counted s x q (4 ∷ 5 ∷ 1 ∷ []) 3 in
    let c = named-counted s x q (5 ∷ 1 ∷ []) 4 in
    let d = named-counted s x q (1 ∷ []) 5 in
    let e = named-counted s x q [] 1 in
    omega (arith, w, a, b, c, d, e)

-- nested records name each of themselves but the first once, and no other
module _ {s : List ℕ} (x : ℕ) (past : 0 < x) where
  mutual
    pub nested-counted : {r n : ℕ} → Nested s r n → one_below (suc r) x + times_from s x r n ≡ one_below (r + n) x
    nested-counted {r} (nested {m = m} {ws = ws} named parts) =
        let h = all-counted parts in
        let t : times_in s x r ≡ times_among x ws = by-named s x r ∙ ap (times_among x) named in
        let f : suc r + m ≡ r + suc m = omega arith in
        let b : one_below (suc r + m) x ≡ one_below (r + suc m) x = ap (λ l. one_below l x) f in
        omega (arith, h, t, b)

    all-counted : {p m : ℕ} {ws : List ℕ} → AllNested s p m ws → one_below p x + (times_among x ws + times_from s x p m) ≡ one_below (p + m) x
    all-counted {p} none-nested = let e : p + 0 ≡ p = omega arith in rw e (omega arith)
    all-counted (zero-nested more) = let h = all-counted more in let z = not_at x past in omega (arith, h, z)
    all-counted {p} (part-nested {w = w} {n = n} {m = m} {k = k} {ws = ws} here size c more) =
        let e : p + n + m ≡ p + (n + m) = omega arith in
        let h = all-counted more in
        let f = below_step p x in
        let g = nested-counted c in
        let t = times-append s x p n m in
        let b : one_below (p + n + m) x ≡ one_below (p + (n + m)) x = ap (λ l. one_below l x) e in
        rw (here, size) (omega (arith, h, f, g, t, b))
