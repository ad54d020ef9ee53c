-- The earlier rule for an undecided IF, undefined in every leaf, is lawful, since undefined lies below every value and depends
-- on the branches' lengths alone; and it is 000's rule on constants, through `flatten`.
-- Assumes nothing.
use Prim.Native.Nat.{ℕ, zero-le}
use mathlib.Core.Path.{◌≡◌, refl}
use mathlib.Core.List.{List}
use lib.ListN.{length, replicate, length-append, replicate-append-replicate}
use Rattle.picoella.specs.Language.{Ty, Within}
use Rattle.meaning.specs.Values.{Both}
use Rattle.meaning.specs.Constants.{
  ConstantTree,
  Cons,
  CoTuple,
  ConstantOf,
  of_cons,
  of_tuple,
  bottom_of_const,
  flatten,
}
use Rattle.meaning.specs.RuleLaws.{undefined_leaves, bottom_of_then, Lawful, Agreeing}
use Rattle.meaning.proofs.Order.{
  both-lower,
  both-upper,
  both_refl,
  within-length,
  undefined-within,
  undefined-lowest,
}

undefined-monotone
    : {b v v' w w' : List ℕ} → Both b v v' → Both b w w' → Both b (undefined_leaves v w) (undefined_leaves v' w')
undefined-monotone {b} r s =
    rw (within-length (both-lower r), within-length (both-upper r)) (both_refl (undefined-within b))

undefined-below-then : {b v w : List ℕ} → Within b v → Within b w → Both b (undefined_leaves v w) v
undefined-below-then h k = rw (within-length h) (undefined-lowest h)

undefined-below-else : {b v w : List ℕ} → Within b v → Within b w → Both b (undefined_leaves v w) w
undefined-below-else h k = rw (within-length h) (undefined-lowest k)

pub undefined_lawful : Lawful undefined_leaves
undefined_lawful =
    record {
      monotone = undefined-monotone;
      below_then = undefined-below-then;
      below_else = undefined-below-else;
    }

bottom-of-type : {τ : Ty} {c : ConstantTree} → ConstantOf τ c → ConstantOf τ (bottom_of_const c)
bottom-of-type (of_cons h) = of_cons zero-le
bottom-of-type (of_tuple h k) = of_tuple (bottom-of-type h) (bottom-of-type k)

bottom-flattens : (c : ConstantTree) → flatten (bottom_of_const c) ≡ replicate (length (flatten c)) 0
bottom-flattens (Cons i t) = refl
bottom-flattens (CoTuple c d) =
    rw (bottom-flattens c, bottom-flattens d, length-append (flatten c) (flatten d))
    (replicate-append-replicate (length (flatten c)) (length (flatten d)) 0)

then-flattens
    : {τ : Ty} {c d : ConstantTree} → ConstantOf τ c → ConstantOf τ d
    → flatten (bottom_of_then c d) ≡ undefined_leaves (flatten c) (flatten d)
then-flattens {c} h k = bottom-flattens c

pub undefined_agreeing : Agreeing undefined_leaves bottom_of_then
undefined_agreeing = record { of_type = λ h k. bottom-of-type h; flattens = then-flattens }
