-- Expressions have the kinds 32 to 40: one test that antt computes over the table. Assumes nothing.
use mathlib.Core.Path.{◌≡◌, ap, subst}
use mathlib.Core.Bool.{Bool, true, false, cond, ◌&&◌}
use mathlib.Core.List.{List}
use Prim.Native.Nat.{ℕ, zero, suc, ◌≤◌, ◌<◌}
use native.Mathlib.Nat.{not-suc-le-zero}
use native.Mathlib.Omega.{arith}
use native.Mathlib.Decide.{dec_lt}
use lib.Dec.{T, eqb, leb, leb→le}
use Rattle.records.specs.Words.{word}
use Rattle.records.specs.Kinds.{Kind, expression, delay, expressions, kind_of, sort_of, sort_number}
use Rattle.records.specs.Says.{kind_at, sort_at}
use Rattle.records.proofs.CodeTable.{all_below, sort-above}

both_left : (a b : Bool) → T (a && b) → T a
both_left true b t = tt
both_left false b t = t

both_right : (a b : Bool) → T (a && b) → T b
both_right true b t = t
both_right false b t = absurd t

all-below : (f : ℕ → Bool) (n : ℕ) → T (all_below f n) → (k : ℕ) → k < n → T (f k)
all-below f zero t k h = absurd (not-suc-le-zero h)
all-below f (suc n) t k h = go (all-below f n (both_right (f n) (all_below f n) t) k) (dec_lt k n)
  where
    go : (k < n → T (f k)) → Dec (k < n) → T (f k)
    go lower (yes l) = lower l
    go lower (no l) = let e : n ≡ k = omega arith in subst (λ (x : ℕ). T (f x)) e (both_left (f n) (all_below f n) t)

abbrev among : ℕ → Bool
among k = cond (eqb (sort_number (sort_of (kind_of k))) 3) (leb 32 k && leb k 40) true

expression-numbers : (k : ℕ) → sort_number (sort_of (kind_of k)) ≡ 3 → (32 ≤ k) × (k ≤ 40)
unfolding kind_of
expression-numbers k e = go (dec_lt k 65)
  where
    go : Dec (k < 65) → (32 ≤ k) × (k ≤ 40)
    go (yes h) =
        let t : T (leb 32 k && leb k 40) = rw e at (all-below among 65 tt k h) in
        (leb→le 32 k (both_left (leb 32 k) (leb k 40) t), leb→le k 40 (both_right (leb 32 k) (leb k 40) t))
    go (no h) = let z = sort-above k (omega arith) in absurd (omega arith)

-- the kind of a record by its number
pub numbered : (s : List ℕ) (rec k m : ℕ) (K : Kind) → k ≡ word s rec 0 → k ≡ m → kind_of m ≡ K → kind_at s rec ≡ K
numbered s rec k m K ek e q = rw (← ek, e) q

past : (m k : ℕ) → m ≤ k → (k ≡ m → ⊥) → suc m ≤ k
past m k h f = omega arith

only-forty : (k : ℕ) → 40 ≤ k → k ≤ 40 → k ≡ 40
only-forty k h l = omega arith

-- an expression of none of the kinds 32 to 39 is a delay
pub last-kind : (s : List ℕ) (rec k : ℕ) → sort_at s rec ≡ expressions → k ≡ word s rec 0
    → (k ≡ 32 → ⊥) → (k ≡ 33 → ⊥) → (k ≡ 34 → ⊥) → (k ≡ 35 → ⊥) → (k ≡ 36 → ⊥) → (k ≡ 37 → ⊥) → (k ≡ 38 → ⊥) → (k ≡ 39 → ⊥)
    → kind_at s rec ≡ expression delay
unfolding kind_of
last-kind s rec k sort ek a b c d e f g h =
    let r = expression-numbers (word s rec 0) (ap sort_number sort) in
    let low : 32 ≤ k = rw ek r.0 in
    let high : k ≤ 40 = rw ek r.1 in
    let q : k ≡ 40 =
    only-forty k
    (past 39 k (past 38 k (past 37 k (past 36 k (past 35 k (past 34 k (past 33 k (past 32 k low a) b) c) d) e) f) g) h) high in
    rw (← ek, q)
