-- The first declared pair type of two, searched from the first type on.
-- Assumes nothing.
use Prim.Native.Nat.{ℕ, zero, suc, ◌+◌, ◌-◌, ◌<◌}
use native.Mathlib.Omega.{arith}
use mathlib.Core.Path.{◌≡◌, refl, sym, ap, ap₂, ◌∙◌}
use mathlib.Core.Bool.{true, false, cond}
use mathlib.Core.List.{List, [], ◌∷◌}
use lib.ListN.{length, drop}
use borrow.Author.Tests.{eq-eqb}
use Rattle.std.proofs.lemmas.List.{length-drop}
use Rattle.instructions.specs.Assembly.{DeclaredType, paired_type, is_pair_type_of, number_or_else, pair_numbered, constant_pair_numbered}
use Rattle.instructions.specs.Types.{type_from_bottom}
use Rattle.instructions.proofs.FromBottom.{next-type}

same-type : (a b : ℕ) → is_pair_type_of (paired_type a b) a b ≡ true
same-type a b = ap₂ (λ x y. cond x y false) (eq-eqb a a refl) (eq-eqb b b refl)

module _ (T : List DeclaredType) (a b : ℕ) where
  stays : (k : ℕ) (U : List DeclaredType) (n : ℕ) → pair_numbered (drop k U) a b ≡ suc n → pair_numbered U a b ≡ suc n
  stays zero U n e = e
  stays (suc k) [] n e = e
  stays (suc k) (x ∷ U) n e = ap (λ m. number_or_else m (cond (is_pair_type_of x a b) (suc (length U)) 0)) (stays k U n e)

  pub pair_found : (j : ℕ) → j < length T → pair_numbered (drop (length T - j) T) a b ≡ 0 → type_from_bottom j T ≡ paired_type a b
      → j + 1 ≡ pair_numbered T a b
  pair_found j l e f =
      let d = length-drop (length T - j) T in
      let g : length (drop (length T - j) T) ≡ j = omega (arith, d) in
      let h : j + 1 ≡ suc j = omega arith in
      h
      ∙ sym
      (stays (length T - (j + 1)) T j
      (ap (λ X. pair_numbered X a b) (next-type T j l)
      ∙ ap₂ (λ x y. number_or_else x (cond (is_pair_type_of y a b) (suc (length (drop (length T - j) T))) 0)) e f
      ∙ ap₂ (λ x n. cond x (suc n) 0) (same-type a b) g))

pub both-with : (T : List DeclaredType) (a b r : ℕ) → (a ≡ 0 → ⊥) → (b ≡ 0 → ⊥) → r ≡ pair_numbered T a b → r ≡ constant_pair_numbered T a b
both-with T zero b r m n e = absurd (m refl)
both-with T (suc a) zero r m n e = absurd (n refl)
both-with T (suc a) (suc b) r m n e = e
