-- How many pass a test, and pairs counted in two ways: by cycles and by leaves the same number comes out.
-- Assumes nothing.
use Prim.Native.Nat.{ℕ, zero, suc, ◌+◌, ◌/◌, ◌≤◌}
use mathlib.Core.Bool.{Bool, true, false}
use mathlib.Core.List.{List, []}
use mathlib.Core.Path.{◌≡◌, refl, sym, ap, ◌∙◌}
use native.Mathlib.Omega.{arith}
use lib.ListN.{length, length-append}
use Rattle.changes.specs.Changes.{change_at, one_where, count_below, if_changed, changes_in, changes_up_to, sum_below}
use Rattle.changes.specs.Promises.{SumOfLines, NothingChanges}

one-few : (b : Bool) → one_where b ≤ 1
one-few true = omega arith
one-few false = omega arith

pub many-few : (test : ℕ → Bool) (n : ℕ) → count_below test n ≤ n
many-few test zero = omega arith
many-few test (suc n) = let f = many-few test n in let o = one-few (test n) in omega arith

-- sums
sum-zero : (n : ℕ) → sum_below (λ l. 0) n ≡ 0
sum-zero zero = refl
sum-zero (suc n) = let e = sum-zero n in omega arith

sum-plus : (f g : ℕ → ℕ) (n : ℕ) → sum_below (λ l. f l + g l) n ≡ sum_below f n + sum_below g n
sum-plus f g zero = refl
sum-plus f g (suc n) = let e = sum-plus f g n in omega arith

sum_ones : (test : ℕ → Bool) (n : ℕ) → sum_below (λ l. one_where (test l)) n ≡ count_below test n
sum_ones test zero = refl
sum_ones test (suc n) = let e = sum_ones test n in omega arith

-- pairs below n and m that pass: by the first number and by the second
pub both_ways : (test : ℕ → ℕ → Bool) (n m : ℕ)
    → sum_below (λ k. count_below (test k) m) n ≡ sum_below (λ l. count_below (λ k. test k l) n) m
both_ways test zero m = sym (sum-zero m)
both_ways test (suc n) m =
    let e = both_ways test n m in
    let p = sum-plus (λ l. count_below (λ k. test k l) n) (λ l. one_where (test n l)) m in
    let o = sum_ones (test n) m in
    omega arith

-- the lists of pairs
if-counted : (b : Bool) (k l : ℕ) → length (if_changed b k l) ≡ one_where b
if-counted true k l = refl
if-counted false k l = refl

pub in-counted : (w : ℕ) (outputs : List ℕ) (k n : ℕ) → length (changes_in w outputs k n) ≡ count_below (change_at w outputs k) n
in-counted w outputs k zero = refl
in-counted w outputs k (suc l) =
    length-append (changes_in w outputs k l) (if_changed (change_at w outputs k l) k l)
    ∙ (let e = in-counted w outputs k l in let f = if-counted (change_at w outputs k l) k l in omega arith)

up-to-counted : (w : ℕ) (outputs : List ℕ) (n : ℕ) → length (changes_up_to w outputs n) ≡ sum_below (λ k. count_below (change_at w outputs k) w) n
up-to-counted w outputs zero = refl
up-to-counted w outputs (suc k) =
    length-append (changes_up_to w outputs k) (changes_in w outputs k w)
    ∙ (let e = up-to-counted w outputs k in let f = in-counted w outputs k w in omega arith)

pub sum_of_lines : SumOfLines
sum_of_lines w outputs = up-to-counted w outputs (length outputs / w) ∙ both_ways (change_at w outputs) (length outputs / w) w

-- nothing changes in the first cycle
pub first-none : (w : ℕ) (outputs : List ℕ) (n : ℕ) → changes_in w outputs 0 n ≡ []
first-none w outputs zero = refl
first-none w outputs (suc l) = rw (first-none w outputs l) refl

pub none-up-to-one : (w : ℕ) (outputs : List ℕ) → changes_up_to w outputs 1 ≡ []
none-up-to-one w outputs = first-none w outputs w

few-cycles : (w : ℕ) (outputs : List ℕ) (n : ℕ) → n ≤ 1
    → ((l : ℕ) → count_below (λ k. change_at w outputs k l) n ≡ 0) × (length (changes_up_to w outputs n) ≡ 0)
few-cycles w outputs zero h = (λ l. refl, refl)
few-cycles w outputs (suc zero) h = (λ l. refl, ap length (none-up-to-one w outputs))
few-cycles w outputs (suc (suc n)) h = absurd (omega arith)

pub nothing_changes : NothingChanges
nothing_changes w outputs h = few-cycles w outputs (length outputs / w) h
