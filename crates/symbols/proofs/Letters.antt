-- Whether two names have the same letters, as slices are compared, and letter by letter.
-- Assumes nothing.
use Rattle.std.proofs.Common.{ℕ, suc, ◌+◌, ◌≤◌, ◌<◌, ◌≡◌, refl, sym, ap, ap₂, ◌∙◌, Bool, true, false, cond, ◌&&◌, List, [], ◌∷◌, arith}
use native.Mathlib.Numerals.{add-one}
use lib.ListN.{length, drop, get_or, drop_of_length-le}
use lib.Seq.{drop-cons}
use Rattle.std.specs.Str.{bytes_eq}
use lib.Dec.{eqb}
use borrow.Author.Tests.{eq-eqb, ne_eqb}
use Rattle.name_rules.specs.Declared.{same_name, input}
use Rattle.name_rules.proofs.SameName.{same-equal}

pub letters-same : {x : Bool} (v w : List ℕ) → x ≡ bytes_eq v w → x ≡ same_name v w
letters-same v w e = e ∙ go v w
  where
    one : (x y z : Bool) → y ≡ z → x && y ≡ cond x z false
    one true y z e = e
    one false y z e = refl

    go : (v w : List ℕ) → bytes_eq v w ≡ same_name v w
    go [] [] = refl
    go [] (c ∷ w) = refl
    go (b ∷ v) [] = refl
    go (b ∷ v) (c ∷ w) = one (eqb b c) (bytes_eq v w) (same_name v w) (go v w)

pub input-told : {x : Bool} (v w : List ℕ) → x ≡ bytes_eq v w → w ≡ input → x ≡ same_name v input
input-told v w e f = letters-same v w e ∙ ap (same_name v) f

-- names of other lengths are others
pub differ-length : (v w : List ℕ) → (length v ≡ length w → ⊥) → false ≡ same_name v w
differ-length v w n = go (same_name v w) refl
  where
    go : (x : Bool) → same_name v w ≡ x → false ≡ x
    go true e = absurd (n (ap length (same-equal v w e)))
    go false e = refl

-- two names of one length from a letter on
module _ (v w : List ℕ) (i : ℕ) (h : i < length v) (l : length v ≡ length w) where
  two-letters : same_name (drop i v) (drop i w) ≡ cond (eqb (get_or v i 0) (get_or w i 0)) (same_name (drop (suc i) v) (drop (suc i) w)) false
  two-letters = ap₂ same_name (drop-cons v i 0 h) (drop-cons w i 0 (omega arith))

  pub letter-same-next : get_or v i 0 ≡ get_or w i 0 → same_name (drop i v) (drop i w) ≡ same_name (drop (i + 1) v) (drop (i + 1) w)
  letter-same-next e =
      two-letters
      ∙ ap (λ x. cond x (same_name (drop (suc i) v) (drop (suc i) w)) false) (eq-eqb (get_or v i 0) (get_or w i 0) e)
      ∙ ap (λ n. same_name (drop n v) (drop n w)) (sym (add-one i))

  pub differ-here : (get_or v i 0 ≡ get_or w i 0 → ⊥) → false ≡ same_name (drop i v) (drop i w)
  differ-here d =
      sym
      (two-letters
      ∙ ap (λ x. cond x (same_name (drop (suc i) v) (drop (suc i) w)) false) (ne_eqb (get_or v i 0) (get_or w i 0) d))

pub same-last : (v w : List ℕ) (i : ℕ) → length v ≤ i → length w ≤ i → true ≡ same_name (drop i v) (drop i w)
same-last v w i h l = sym (ap₂ same_name (drop_of_length-le v {i = i} h) (drop_of_length-le w {i = i} l))
