-- Lists that have their last element first, read from the bottom.
-- Assumes nothing.
use Prim.Native.Nat.{ℕ, suc, ◌+◌, ◌-◌, ◌<◌}
use native.Mathlib.Omega.{arith}
use mathlib.Core.Path.{◌≡◌, ap, ◌∙◌}
use mathlib.Core.List.{List, ◌∷◌}
use lib.ListN.{length, drop}
use Rattle.std.proofs.lemmas.List.{drop_more}
use Rattle.instructions.specs.Instruction.{Instruction, close_constant}
use Rattle.instructions.specs.Assembly.{DeclaredType, flat_type}
use Rattle.instructions.specs.Code.{from_bottom}
use Rattle.instructions.specs.Types.{type_from_bottom}

-- the instruction with k before it, and those before it
pub next-instruction : (C : List Instruction) (k : ℕ) → k < length C → drop (length C - (k + 1)) C ≡ from_bottom k C ∷ drop (length C - k) C
next-instruction C k l =
    let e : length C - (k + 1) ≡ length C - suc k = omega arith in
    let f : length C - suc k + 1 ≡ length C - k = omega arith in
    ap (λ n. drop n C) e ∙ drop_more C (length C - suc k) close_constant (omega arith) ∙ ap (λ n. from_bottom k C ∷ drop n C) f

pub next-type : (T : List DeclaredType) (k : ℕ) → k < length T → drop (length T - (k + 1)) T ≡ type_from_bottom k T ∷ drop (length T - k) T
next-type T k l =
    let e : length T - (k + 1) ≡ length T - suc k = omega arith in
    let f : length T - suc k + 1 ≡ length T - k = omega arith in
    ap (λ n. drop n T) e ∙ drop_more T (length T - suc k) (flat_type 0) (omega arith) ∙ ap (λ n. type_from_bottom k T ∷ drop n T) f
