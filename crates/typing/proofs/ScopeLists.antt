-- The types of the names in scope, the innermost last, seen as a list with the innermost first. Assumes nothing.
use mathlib.Core.Path.{◌≡◌, refl, ◌∙◌, ap}
use mathlib.Core.List.{List, ◌∷◌}
use Prim.Native.Nat.{ℕ, zero, suc, ◌+◌, ◌-◌, ◌≤◌, ◌<◌}
use native.Mathlib.Omega.{arith}
use native.Mathlib.Numerals.{add-one}
use lib.ListN.{length, get_or, set}
use lib.Seq.{get_or-set_same, get_or-set_other}
use Rattle.typing.specs.Judging.{scope_of}

-- a store above a stack's names leaves them
below-store : (stack : List ℕ) (m v n : ℕ) → n ≤ m → scope_of n (set stack m v) ≡ scope_of n stack
below-store stack m v zero h = refl
below-store stack m v (suc n) h =
    rw (get_or-set_other stack m n v 0 (λ e. omega arith), below-store stack m v n (omega arith))

pub one-name-more : (stack : List ℕ) (n t : ℕ) → length stack ≡ 64 → n < 64
    → scope_of (n + 1) (set stack n t) ≡ t ∷ scope_of n stack
one-name-more stack n t long h =
    rw (add-one n, get_or-set_same stack n t 0 (omega arith), below-store stack n t n (omega arith))

pub scope-length : (n : ℕ) (stack : List ℕ) → length (scope_of n stack) ≡ n
scope-length zero stack = refl
scope-length (suc n) stack = ap suc (scope-length n stack)

pub scope-at : (n : ℕ) (stack : List ℕ) (k : ℕ) → k < n → get_or (scope_of n stack) k 0 ≡ get_or stack (n - 1 - k) 0
scope-at zero stack k h = absurd (omega arith)
scope-at (suc n) stack zero h = ap (λ (i : ℕ). get_or stack i 0) (omega arith)
scope-at (suc n) stack (suc k) h = scope-at n stack k (omega arith) ∙ ap (λ (i : ℕ). get_or stack i 0) (omega arith)
