-- The table of the types of constants.
-- Assumes nothing.
use Prim.Native.Nat.{ℕ, zero, suc, ◌+◌, ◌-◌, ◌≤◌, ◌<◌}
use native.Mathlib.Omega.{arith}
use native.Mathlib.Numerals.{add-one}
use mathlib.Core.Path.{◌≡◌, refl, ap, ap₂, ◌∙◌}
use mathlib.Core.List.{List, ◌∷◌}
use lib.ListN.{length, get_or, set}
use lib.Seq.{get_or-set_same, get_or-set_other}
use Rattle.instructions.specs.Assembly.{DeclaredType, pair_closed, constant_pair_numbered}
use Rattle.ordering.specs.Numbers.{held_numbers}

module _ (N : List ℕ) where
  pub numbers-counted : (n : ℕ) → length (held_numbers N n) ≡ n
  numbers-counted zero = refl
  numbers-counted (suc n) = ap suc (numbers-counted n)

  numbers_apart : (k n x : ℕ) → n ≤ k → held_numbers (set N k x) n ≡ held_numbers N n
  numbers_apart k zero x l = refl
  numbers_apart k (suc n) x l = ap₂ ◌∷◌ (get_or-set_other N k n x 0 (λ e. omega arith)) (numbers_apart k n x (omega arith))

  pub number_pushed : (k x : ℕ) → k < length N → held_numbers (set N k x) (k + 1) ≡ x ∷ held_numbers N k
  number_pushed k x l =
      ap (held_numbers (set N k x)) (add-one k) ∙ ap₂ ◌∷◌ (get_or-set_same N k x 0 l) (numbers_apart k k x (omega arith))

  pub three-closed : (T : List DeclaredType) (n x : ℕ) → n ≤ length N → (n < 3 → ⊥)
      → x ≡ constant_pair_numbered T (get_or N (n - 3 + 1) 0) (get_or N (n - 3 + 2) 0)
      → held_numbers (set N (n - 3) x) (n - 3 + 1) ≡ pair_closed T (held_numbers N n)
  three-closed T zero x t b e = absurd (b (omega arith))
  three-closed T (suc zero) x t b e = absurd (b (omega arith))
  three-closed T (suc (suc zero)) x t b e = absurd (b (omega arith))
  three-closed T (suc (suc (suc n))) x t b e =
      let f : suc (suc (suc n)) - 3 ≡ n = omega arith in
      let g : suc (suc (suc n)) - 3 + 1 ≡ suc n = omega arith in
      let h : suc (suc (suc n)) - 3 + 2 ≡ suc (suc n) = omega arith in
      ap₂ (λ i k. held_numbers (set N i x) k) f g
      ∙ ap₂ ◌∷◌
      (get_or-set_same N n x 0 (omega arith) ∙ e ∙ ap₂ (λ i k. constant_pair_numbered T (get_or N i 0) (get_or N k 0)) g h)
      (numbers_apart n n x (omega arith))
