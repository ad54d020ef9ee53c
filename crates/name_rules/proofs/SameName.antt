-- Names are the same letter by letter.
-- Assumes nothing.
use Prim.Native.Nat.{ℕ}
use native.Mathlib.Omega.{arith}
use mathlib.Core.Path.{◌≡◌, refl, sym, ap, ap₂, ◌∙◌}
use mathlib.Core.Bool.{Bool, true, false, cond}
use mathlib.Core.List.{List, [], ◌∷◌}
use lib.Dec.{T, eqb, eqb→eq}
use borrow.Author.Tests.{eq-eqb}
use Rattle.name_rules.specs.Declared.{same_name}

same-itself : (w : List ℕ) → same_name w w ≡ true
same-itself [] = refl
same-itself (b ∷ w) = ap (λ x. cond x (same_name w w) false) (eq-eqb b b refl) ∙ same-itself w

pub equal-same : (v w : List ℕ) → v ≡ w → same_name v w ≡ true
equal-same v w e = ap (same_name v) (sym e) ∙ same-itself v

pub same-equal : (v w : List ℕ) → same_name v w ≡ true → v ≡ w
same-equal [] [] h = refl
same-equal [] (c ∷ w) h = absurd (let z : ◌≡◌ {A = ℕ} 0 1 = cc in omega arith)
same-equal (b ∷ v) [] h = absurd (let z : ◌≡◌ {A = ℕ} 0 1 = cc in omega arith)
same-equal (b ∷ v) (c ∷ w) h = go (eqb b c) (eqb→eq b c) h (same-equal v w)
  where
    go : (x : Bool) → (T x → b ≡ c) → cond x (same_name v w) false ≡ true → (same_name v w ≡ true → v ≡ w) → b ∷ v ≡ c ∷ w
    go true e k again = ap₂ ◌∷◌ (e tt) (again k)
    go false e k again = absurd (let z : ◌≡◌ {A = ℕ} 0 1 = cc in omega arith)
