-- How long the texts of numbers and leaves can be.
-- Assumes nothing.
use Prim.Native.Nat.{ℕ, zero, suc, ◌+◌, ◌*◌, ◌^◌, ◌≤◌, ◌<◌}
use mathlib.Core.Path.{◌≡◌}
use mathlib.Core.List.{List, [], ◌∷◌, ◌++◌}
use native.Mathlib.Omega.{arith}
use native.Mathlib.Nat.{pow-succ'}
use lib.ListN.{length, get_or, length-append}
use Rattle.listing.specs.Digits.{digit, digits}
use Rattle.listing.specs.Lines.{leaf_texts}
use Rattle.listing.proofs.Digits.{by_digits}

digits-few : (n k : ℕ) → n < 10 ^ suc k → length (digits n) ≤ suc k
digits-few n k h = by_digits (λ n ds. (k : ℕ) → n < 10 ^ suc k → length ds ≤ suc k) (λ d z k h. omega arith) longer n k h
  where
    longer :
        (n d : ℕ) →
        0 < n →
        d < 10 →
        ((k : ℕ) → n < 10 ^ suc k → length (digits n) ≤ suc k) →
        (k : ℕ) →
        10 * n + d < 10 ^ suc k →
        length (digits n ++ (digit d ∷ [])) ≤ suc k
    longer n d s z few zero h = absurd (omega arith)
    longer n d s z few (suc k) h =
        let p : 10 ^ suc (suc k) ≡ 10 * 10 ^ suc k = pow-succ' 10 (suc k) in
        let f : length (digits n) ≤ suc k = few k (omega arith) in
        rw length-append (omega arith)

pub number-few : (n : ℕ) → n < 2 ^ 64 → length (digits n) ≤ 20
number-few n h = digits-few n 19 (omega arith)

pub byte-few : (n : ℕ) → n < 256 → length (digits n) ≤ 3
byte-few n h = digits-few n 2 (omega arith)

-- a leaf takes a space and three digits at most
pub leaf-texts-short :
    (leaves : List ℕ) → ((i : ℕ) → get_or leaves i 0 < 256) → length (leaf_texts leaves) ≤ 4 * length leaves
leaf-texts-short [] small = omega arith
leaf-texts-short (leaf ∷ leaves) small =
    let first = byte-few leaf (small 0) in
    let rest = leaf-texts-short leaves (λ i. small (suc i)) in
    let long = length-append (digits leaf) (leaf_texts leaves) in
    omega arith
