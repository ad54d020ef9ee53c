-- The table and the depth of a stack are the states that wait.
-- Assumes nothing.
use Prim.Native.Nat.{ℕ, zero, suc, ◌+◌, ◌≤◌, ◌<◌}
use native.Mathlib.Omega.{arith}
use native.Mathlib.Numerals.{add-one}
use native.Mathlib.Decide.{dec_lt}
use mathlib.Core.Path.{◌≡◌, refl, sym, ap, ap₂, subst, ◌∙◌}
use mathlib.Core.List.{List, ◌∷◌}
use lib.ListN.{length, get_or, set, length-set}
use lib.Seq.{get_or-set_same, get_or-set_other}
use Rattle.grammar.specs.Rows.{State}
use Rattle.recognizer.specs.Coded.{state_of, stack_of, Waiting}

pub length-stack : (n : ℕ) (s : List ℕ) → length (stack_of n s) ≡ n
length-stack zero s = refl
length-stack (suc n) s = ap suc (length-stack n s)

below-store : (stack : List ℕ) (m v n : ℕ) → n ≤ m → stack_of n (set stack m v) ≡ stack_of n stack
below-store stack m v zero h = refl
below-store stack m v (suc n) h =
    ap₂ (λ x K. state_of x ∷ K) (get_or-set_other stack m n v 0 (λ e. omega arith)) (below-store stack m v n (omega arith))

pub pushed : (stack : List ℕ) (n v : ℕ) → n < length stack → stack_of (n + 1) (set stack n v) ≡ state_of v ∷ stack_of n stack
pushed stack n v h =
    ap (λ m. stack_of m (set stack n v)) (add-one n)
    ∙ ap₂ (λ x K. state_of x ∷ K) (get_or-set_same stack n v 0 h) (below-store stack n v n (omega arith))

pub still-waiting : {depth : ℕ} {stack : List ℕ} (v : ℕ) → Waiting depth stack → depth < 65536 → v < 47 → Waiting (depth + 1) (set stack depth v)
still-waiting {depth} {stack} v w r few = record {
  fits = omega arith;
  long = length-set stack depth v ∙ w.long;
  waiting = λ k l. below k l (dec_lt k depth);
}
  where
    below : (k : ℕ) → k < depth + 1 → Dec (k < depth) → get_or (set stack depth v) k 0 < 47
    below k l (yes h) = subst (λ x. x < 47) (sym (get_or-set_other stack depth k v 0 (λ e. omega arith))) (w.waiting k h)
    below k l (no h) =
        let e : depth ≡ k = omega (arith, h) in
        subst (λ x. x < 47) (sym (ap (λ j. get_or (set stack depth v) j 0) (sym e) ∙ get_or-set_same stack depth v 0 (omega (arith, r, w.long)))) few

pub deep-room : (n : ℕ) (s : List ℕ) {K : List State} → stack_of n s ≡ K → length K < 65536 → n < 65536
deep-room n s e h = subst (λ x. x < 65536) (ap length (sym e) ∙ length-stack n s) h
