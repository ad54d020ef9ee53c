-- What is counted while the cycles and the leaves are gone through.
-- Assumes nothing.
use Prim.Native.Nat.{ℕ, zero, suc, ◌+◌, ◌*◌, ◌-◌, ◌/◌, ◌≤◌, ◌<◌}
use mathlib.Core.List.{List}
use mathlib.Core.Path.{◌≡◌, refl, sym, ap}
use native.Mathlib.Omega.{arith}
use native.Mathlib.Nat.{suc-mul}
use lib.ListN.{length}
use Rattle.changes.specs.Changes.{change_at, one_where, count_below, changes_of, changes_in, changes_up_to, total_changes}
use Rattle.changes.specs.Places.{change_here}
use Rattle.changes.proofs.Counts.{many-few, in-counted, none-up-to-one}

-- leaf l of cycle k stands at a place, and that of the cycle before w places in front of it
pub change-at-place : (w : ℕ) (outputs : List ℕ) (k l at : ℕ) → 0 < k → at ≡ k * w + l → one_where (change_at w outputs k l) ≡ change_here w outputs at
change-at-place w outputs zero l at z e = absurd (omega arith)
change-at-place w outputs (suc k) l at z e =
    let m = suc-mul k w in
    let before : at - w ≡ k * w + l = omega arith in
    rw (before, e) refl

-- the cycles from 1 on, of which there may be none
module _ (w : ℕ) (outputs : List ℕ) (k : ℕ) (later : 1 ≤ k) (all : length outputs / w ≤ k) (most : k - 1 ≤ length outputs / w - 1) where
  pub leaf-ended : (leaf : ℕ) → count_below (λ k. change_at w outputs k leaf) k ≡ changes_of w outputs leaf
  leaf-ended leaf = go (length outputs / w) all most
    where
      go : (n : ℕ) → n ≤ k → k - 1 ≤ n - 1 → count_below (λ k. change_at w outputs k leaf) k ≡ count_below (λ k. change_at w outputs k leaf) n
      go zero h m = let e : k ≡ 1 = omega arith in rw e refl
      go (suc n) h m = let e : k ≡ suc n = omega arith in rw e refl

  pub all-ended : length (changes_up_to w outputs k) ≡ total_changes w outputs
  all-ended = go (length outputs / w) all most
    where
      go : (n : ℕ) → n ≤ k → k - 1 ≤ n - 1 → length (changes_up_to w outputs k) ≡ length (changes_up_to w outputs n)
      go zero h m = let e : k ≡ 1 = omega arith in rw e (ap length (none-up-to-one w outputs))
      go (suc n) h m = let e : k ≡ suc n = omega arith in rw e refl

module _ (w : ℕ) (outputs : List ℕ) (k n : ℕ) where
  pub cycle-few : count_below (change_at w outputs k) n ≤ n
  cycle-few = many-few (change_at w outputs k) n

  pub cycle-ended : n ≡ w → count_below (change_at w outputs k) n ≡ length (changes_in w outputs k w)
  cycle-ended e = rw e (sym (in-counted w outputs k w))
