-- What a word past the records reads as. Assumes nothing.
use mathlib.Core.Path.{◌≡◌, refl, sym}
use mathlib.Core.Bool.{false, ◌&&◌, and-false}
use mathlib.Core.List.{List}
use Prim.Native.Nat.{ℕ, zero, suc, ◌+◌, ◌*◌, ◌≤◌}
use native.Mathlib.Omega.{arith}
use borrow.Author.Tests.{lt-leb}
use lib.Dec.{ltb, leb}
use lib.ListN.{get_or-eq_default}
use Rattle.records.specs.Words.{word}
use Rattle.records.specs.Sized.{Sized}
use Rattle.records.specs.Kinds.{constructor_of}
use Rattle.records.specs.Says.{meets}

module _ {s : List ℕ} {n : ℕ} (sized : Sized s n) where
  -- past the records a word reads as 0
  pub word-past : (a k : ℕ) → n ≤ a → word s a k ≡ 0
  unfolding word
  word-past a k h =
      let e = sized.whole in
      rw (
        get_or-eq_default s 0 {n = 12 * a + 2 * k} (omega arith),
        get_or-eq_default s 0 {n = 12 * a + 2 * k + 1} (omega arith),
      )

  pub constructor-past : (r w a : ℕ) → a ≡ word s r 2 → n ≤ a → false ≡ meets s r constructor_of w
  constructor-past r w a e l = rw (← e, word-past a 2 l) (none-below w)
    where
      none-below : (w : ℕ) → false ≡ (ltb 0 w && leb w 0)
      none-below zero = refl
      none-below (suc w) = rw (lt-leb (suc w) 0 (omega arith)) (sym (and-false (ltb 0 (suc w))))
