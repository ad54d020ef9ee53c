-- The lowest pair record of two parts is the lowest: it has these parts and no lower record does; where there is none, no
-- record has them. By induction on the records tried. Where no pair has the parts of a lower one, the pair record of a pair
-- record's parts is that record.
-- Assumes nothing.
use Prim.Native.Nat.{ℕ, zero, suc, ◌<◌}
use mathlib.Core.Bool.{Bool, true, false, cond, ◌&&◌}
use mathlib.Core.List.{List}
use mathlib.Core.Path.{◌≡◌, refl}
use native.Mathlib.Omega.{arith}
use native.Mathlib.Decide.{ℕ_discrete, dec_lt}
use lib.Dec.{eqb}
use borrow.Author.Tests.{eqb-true, eq-eqb}
use Rattle.records.specs.Words.{count, word_a, word_b}
use Rattle.records.specs.Kinds.{type_of, pair, is_pair}
use Rattle.records.specs.Says.{kind_at}
use Rattle.records.specs.Trees.{is_pair_of, pair_below, pair_of}
use Rattle.records.specs.Written.{Written, TypesFit}
use Rattle.records.proofs.Tests.{never_both, both, both_left, both_right}
use Rattle.records.proofs.Table.{is-pair}
use Rattle.records.proofs.Asked.{past-header}

-- what a record number found below n says, 0 standing for none
abbrev Found : (ℕ → Bool) → ℕ → ℕ → Type 0
Found p n zero = (r : ℕ) → 0 < r → r < n → p r ≡ false
Found p n (suc r) = (suc r < n) × (p (suc r) ≡ true) × ((q : ℕ) → 0 < q → q < suc r → p q ≡ false)

found_here : (p : ℕ → Bool) (n : ℕ) (b : Bool) → p n ≡ b → Found p n 0 → Found p (suc n) (cond b n 0)
found_here p zero true e none = λ r low high. absurd (omega arith)
found_here p (suc n) true e none = (omega arith, e, none)
found_here p n false e none = λ r low high. go r low high (ℕ_discrete n r)
  where
    go : (r : ℕ) → 0 < r → r < suc n → Dec (n ≡ r) → p r ≡ false
    go r low high (yes q) = rw (← q) e
    go r low high (no d) = none r low (omega arith)

pair_found : (s : List ℕ) (a b n : ℕ) → Found (is_pair_of s a b) n (pair_below s a b n)
pair_found s a b zero = λ r low high. absurd (omega arith)
pair_found s a b (suc n) = go (pair_below s a b n) refl (pair_found s a b n)
  where
    go : (v : ℕ) → pair_below s a b n ≡ v → Found (is_pair_of s a b) n v
        → Found (is_pair_of s a b) (suc n) (pair_below s a b (suc n))
    go zero e f = rw e (found_here (is_pair_of s a b) n (is_pair_of s a b n) refl f)
    go (suc r) e f = rw e (omega arith, f.1, f.2)

pub no-pair-below :
    (s : List ℕ) (a b n : ℕ) → pair_below s a b n ≡ 0 → (r : ℕ) → 0 < r → r < n → is_pair_of s a b r ≡ false
no-pair-below s a b n e = rw e at (pair_found s a b n)

-- nor has record 0 of a written sheet, which is the header
pub no-pair : {s : List ℕ} → Written s → (a b n : ℕ) → pair_below s a b n ≡ 0 → (r : ℕ) → r < n → is_pair_of s a b r ≡ false
no-pair {s} w a b n e zero h = rw w.headed
no-pair {s} w a b n e (suc r) h = no-pair-below s a b n e (suc r) (omega arith) h

pub lowest-pair : (s : List ℕ) (a b n r : ℕ) → pair_below s a b n ≡ r → 0 < r
    → (r < n) × (is_pair_of s a b r ≡ true) × ((q : ℕ) → 0 < q → q < r → is_pair_of s a b q ≡ false)
lowest-pair s a b n zero e h = absurd (omega arith)
lowest-pair s a b n (suc r) e h = rw e at (pair_found s a b n)

pub pair-with-parts : (s : List ℕ) (a b r : ℕ) → is_pair_of s a b r ≡ true
    → (kind_at s r ≡ type_of pair) × (word_a s r ≡ a) × (word_b s r ≡ b)
pair-with-parts s a b r e =
    let f = both_right (is_pair (kind_at s r)) (eqb (word_a s r) a && eqb (word_b s r) b) e in (
      is-pair (kind_at s r) (both_left (is_pair (kind_at s r)) (eqb (word_a s r) a && eqb (word_b s r) b) e),
      eqb-true (word_a s r) a (both_left (eqb (word_a s r) a) (eqb (word_b s r) b) f),
      eqb-true (word_b s r) b (both_right (eqb (word_a s r) a) (eqb (word_b s r) b) f),
    )

pub is-pair-of : (s : List ℕ) (a b r : ℕ) → kind_at s r ≡ type_of pair → word_a s r ≡ a → word_b s r ≡ b → is_pair_of s a b r ≡ true
is-pair-of s a b r k e f = rw k (both (eqb (word_a s r) a) (eqb (word_b s r) b) (eq-eqb (word_a s r) a e) (eq-eqb (word_b s r) b f))

-- a pair record that is found is one of these parts
pub pair-of-found : (s : List ℕ) (a b r : ℕ) → pair_of s a b ≡ r → 0 < r
    → (r < count s) × (kind_at s r ≡ type_of pair) × (word_a s r ≡ a) × (word_b s r ≡ b)
unfolding pair_of
pair-of-found s a b r e h =
    let f = lowest-pair s a b (count s) r e h in
    let p = pair-with-parts s a b r f.1 in
    (f.0, p.0, p.1, p.2)

-- and the one pair record of its parts is found
pub pair-of-parts : {s : List ℕ} → Written s → TypesFit s → (r : ℕ) → r < count s → kind_at s r ≡ type_of pair
    → pair_of s (word_a s r) (word_b s r) ≡ r
unfolding pair_of
pair-of-parts {s} w fit r h e = go (pair_of s (word_a s r) (word_b s r)) (pair_found s (word_a s r) (word_b s r) (count s))
  where
    here : is_pair_of s (word_a s r) (word_b s r) r ≡ true
    here = is-pair-of s (word_a s r) (word_b s r) r e refl refl

    high : 0 < r
    high = past-header w r (rw e)

    go : (v : ℕ) → Found (is_pair_of s (word_a s r) (word_b s r)) (count s) v → v ≡ r
    go zero f = absurd (never_both (is_pair_of s (word_a s r) (word_b s r) r) here (f r high h))
    go (suc q) f = same (dec_lt (suc q) r) (dec_lt r (suc q))
      where
        same : Dec (suc q < r) → Dec (r < suc q) → suc q ≡ r
        same (yes d) _ =
            absurd
            (never_both (is_pair_of s (word_a s r) (word_b s r) (suc q)) f.1
            (no-pair-below s (word_a s r) (word_b s r) r (fit.unique r h e) (suc q) (omega arith) d))
        same (no d) (yes g) = absurd (never_both (is_pair_of s (word_a s r) (word_b s r) r) here (f.2 r high g))
        same (no d) (no g) = omega arith
