-- The tables of a code: one instruction more is put on top, and each is read by how many stand before it.
-- Assumes nothing.
use Prim.Native.Nat.{ℕ, zero, suc, ◌+◌, ◌-◌, ◌≤◌, ◌<◌}
use native.Mathlib.Omega.{arith}
use native.Mathlib.Numerals.{add-one}
use mathlib.Core.Path.{◌≡◌, refl, sym, ap, ap₂, ◌∙◌}
use mathlib.Core.List.{List, ◌∷◌}
use lib.ListN.{length, get_or, set, drop}
use lib.Seq.{get_or-set_same, get_or-set_other}
use Rattle.instructions.specs.Instruction.{Instruction, instruction_of, close_constant}
use Rattle.instructions.specs.Said.{number_of}
use Rattle.instructions.specs.Code.{instructions_held, from_bottom}
use Rattle.instructions.specs.declared.Op.{Op}
use Rattle.instructions.specs.declared.Op.TheVariants.{DeclareType}

three : {x x' : Op} {y y' z z' : ℕ} → x ≡ x' → y ≡ y' → z ≡ z' → instruction_of (number_of x) y z ≡ instruction_of (number_of x') y' z'
three {x' = x'} {y = y} {y' = y'} {z = z} p q r =
    ap (λ u. instruction_of (number_of u) y z) p ∙ ap₂ (λ u v. instruction_of (number_of x') u v) q r

-- the tables stand only under functions here
module _ (O : List Op) (F S : List ℕ) where
  abbrev code_at : ℕ → Instruction
  code_at k = instruction_of (number_of (get_or O k DeclareType)) (get_or F k 0) (get_or S k 0)

  pub held-length : (n : ℕ) → length (instructions_held O F S n) ≡ n
  held-length zero = refl
  held-length (suc n) = ap suc (held-length n)

  held_apart : (k n : ℕ) (x : Op) (y z : ℕ) → n ≤ k → instructions_held (set O k x) (set F k y) (set S k z) n ≡ instructions_held O F S n
  held_apart k zero x y z l = refl
  held_apart k (suc n) x y z l =
      ap₂ ◌∷◌
      (three (get_or-set_other O k n x DeclareType (λ e. omega arith)) (get_or-set_other F k n y 0 (λ e. omega arith))
      (get_or-set_other S k n z 0 (λ e. omega arith)))
      (held_apart k n x y z (omega arith))

  pub held-pushed : (k : ℕ) (x : Op) (y z : ℕ) → k < length O → k < length F → k < length S
      → instructions_held (set O k x) (set F k y) (set S k z) (k + 1) ≡ instruction_of (number_of x) y z ∷ instructions_held O F S k
  held-pushed k x y z l m n =
      ap (instructions_held (set O k x) (set F k y) (set S k z)) (add-one k)
      ∙ ap₂ ◌∷◌ (three (get_or-set_same O k x DeclareType l) (get_or-set_same F k y 0 m) (get_or-set_same S k z 0 n))
      (held_apart k k x y z (omega arith))

  from_top : (n d : ℕ) → d < n → get_or (instructions_held O F S n) d close_constant ≡ code_at (n - suc d)
  from_top zero d l = absurd (omega arith)
  from_top (suc n) zero l = let e : n ≡ suc n - 1 = omega arith in ap code_at e
  from_top (suc n) (suc d) l =
      let e : n - suc d ≡ suc n - suc (suc d) = omega arith in from_top n d (omega arith) ∙ ap code_at e

  pub held-from-bottom : (n k : ℕ) → k < n → code_at k ≡ from_bottom k (instructions_held O F S n)
  held-from-bottom n k l =
      let e : n - suc (n - suc k) ≡ k = omega arith in
      sym
      (ap (λ m. get_or (instructions_held O F S n) (m - suc k) close_constant) (held-length n)
      ∙ from_top n (n - suc k) (omega arith)
      ∙ ap code_at e)

  pub held-dropped : (n k : ℕ) → k ≤ n → drop (n - k) (instructions_held O F S n) ≡ instructions_held O F S k
  held-dropped zero zero l = refl
  held-dropped zero (suc k) l = absurd (omega arith)
  held-dropped (suc n) k l = go (suc n - k) refl (held-dropped n k)
    where
      go : (d : ℕ) → suc n - k ≡ d → (k ≤ n → drop (n - k) (instructions_held O F S n) ≡ instructions_held O F S k) → drop d (instructions_held O F S (suc n)) ≡ instructions_held O F S k
      go zero e h = let f : suc n ≡ k = omega arith in ap (instructions_held O F S) f
      go (suc d) e h = let f : d ≡ n - k = omega arith in ap (λ m. drop m (instructions_held O F S n)) f ∙ h (omega arith)
