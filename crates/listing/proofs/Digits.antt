-- The digits of a number by their equations, and an induction over them.
-- Assumes nothing.
use Prim.Native.Nat.{ℕ, zero, suc, ◌+◌, ◌*◌, ◌/◌, ◌%◌, ◌≤◌, ◌<◌}
use mathlib.Core.Path.{◌≡◌, refl, sym, subst}
use mathlib.Core.List.{List, [], ◌∷◌, ◌++◌}
use native.Mathlib.Omega.{arith}
use native.Mathlib.Decide.{dec_lt}
use Rattle.listing.specs.Digits.{digit, digits_within, digits}

-- any bound that is large enough gives the same digits
bound-is-free : (most more n : ℕ) → n ≤ most → n ≤ more → digits_within most n ≡ digits_within more n
bound-is-free zero zero n h k = refl
bound-is-free zero (suc more) zero h k = refl
bound-is-free zero (suc more) (suc n) h k = absurd (omega arith)
bound-is-free (suc most) zero zero h k = refl
bound-is-free (suc most) zero (suc n) h k = absurd (omega arith)
bound-is-free (suc most) (suc more) zero h k = refl
bound-is-free (suc most) (suc more) (suc n) h k =
    rw (bound-is-free most more (suc n / 10) (omega arith) (omega arith)) refl

no-digits : (most : ℕ) → digits_within most 0 ≡ []
no-digits zero = refl
no-digits (suc most) = refl

within-bound : (most n : ℕ) → 0 < n → n ≤ most → digits_within most n ≡ digits n
unfolding digits
within-bound most zero z h = absurd (omega arith)
within-bound most (suc n) z h = bound-is-free most (suc n) (suc n) h (omega arith)

pub digits-one : (n : ℕ) → n < 10 → digits n ≡ digit n ∷ []
unfolding digits
digits-one zero h = refl
digits-one (suc n) h =
    let e : suc n / 10 ≡ 0 = omega arith in
    let f : suc n % 10 ≡ suc n = omega arith in
    rw (e, f, no-digits n) refl

pub digits_more : (n : ℕ) → 10 ≤ n → digits n ≡ digits (n / 10) ++ (digit (n % 10) ∷ [])
unfolding digits
digits_more zero h = absurd (omega arith)
digits_more (suc n) h = rw (within-bound n (suc n / 10) (omega arith) (omega arith)) refl

-- what holds of one digit, and still holds with a digit more, holds of all digits
module _ (P : ℕ → List ℕ → Type 0)
    (one : (d : ℕ) → d < 10 → P d (digit d ∷ []))
    (more : (n d : ℕ) → 0 < n → d < 10 → P n (digits n) → P (10 * n + d) (digits n ++ (digit d ∷ []))) where
  within : (most n : ℕ) → n ≤ most → P n (digits n)
  within zero n h = let z : n < 10 = omega arith in subst (P n) (sym (digits-one n z)) (one n z)
  within (suc most) n h = go (dec_lt n 10) (within most (n / 10) (omega arith))
    where
      go : Dec (n < 10) → P (n / 10) (digits (n / 10)) → P n (digits n)
      go (yes z) p = subst (P n) (sym (digits-one n z)) (one n z)
      go (no z) p =
          let e : 10 * (n / 10) + n % 10 ≡ n = omega arith in
          let t : 10 ≤ n = omega arith in
          subst (P n) (sym (digits_more n t))
          (subst (λ m. P m (digits (n / 10) ++ (digit (n % 10) ∷ []))) e
          (more (n / 10) (n % 10) (omega arith) (omega arith) p))

  pub by_digits : (n : ℕ) → P n (digits n)
  by_digits n = within n n (omega arith)
