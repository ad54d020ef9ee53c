-- What kind a number is, by the definition's rows: a number of none of them is of an unknown kind, as all are from 65 on, and a
-- test of kinds passes at one number, computed at the numbers below 65. Assumes nothing.
use mathlib.Core.Path.{◌≡◌, refl, sym, subst}
use mathlib.Core.Bool.{Bool, true, false, ◌&&◌, beq}
use mathlib.Core.List.{List, [], ◌∷◌}
use Prim.Native.Nat.{ℕ, zero, suc, ◌≤◌, ◌<◌}
use native.Mathlib.Nat.{not-suc-le-zero}
use native.Mathlib.Omega.{arith}
use native.Mathlib.Decide.{dec_lt}
use borrow.Author.Tests.{ne_eqb}
use lib.Dec.{T, eqb, ltb, ltb→lt}
use Rattle.records.specs.Kinds.{
  Kind,
  unknown,
  sort_of,
  sort_number,
  is_flat,
  is_pair,
  is_header,
  is_delay,
  never,
  Row,
  row,
  kind_rows,
  number_in,
  row_in,
  row_of,
  kind_of,
}

both_left : (a b : Bool) → T (a && b) → T a
both_left true b t = tt
both_left false b t = t

both_right : (a b : Bool) → T (a && b) → T b
both_right true b t = t
both_right false b t = absurd t

-- beside what U says, n is the number of none of the rows: what a `match` on their numbers leaves
abbrev pub Others : Type 0 → List Row → ℕ → Type 0
Others U [] n = U
Others U (x ∷ xs) n = Others (U × (n ≡ number_in x → ⊥)) xs n

not_listed : (U : Type 0) (xs : List Row) (n : ℕ) → Others U xs n
    → U × (row_in xs n ≡ row n unknown never never never never never)
not_listed U [] n u = (u, refl)
not_listed U (x ∷ xs) n u =
    let v = not_listed (U × (n ≡ number_in x → ⊥)) xs n u in
    (v.0.0, rw (ne_eqb (number_in x) n (λ e. v.0.1 (sym e))) v.1)

pub unknown-other : (n : ℕ) → Others Unit kind_rows n → row_of n ≡ row n unknown never never never never never
unfolding row_of
unknown-other n u = (not_listed Unit kind_rows n u).1

-- no row has a number from 65 on
abbrev small : List Row → Bool
small [] = true
small (x ∷ xs) = ltb (number_in x) 65 && small xs

past_all : (U : Type 0) (xs : List Row) (n : ℕ) → T (small xs) → 65 ≤ n → U → Others U xs n
past_all U [] n t h u = u
past_all U (x ∷ xs) n t h u =
    let l = ltb→lt (number_in x) 65 (both_left (ltb (number_in x) 65) (small xs) t) in
    past_all (U × (n ≡ number_in x → ⊥)) xs n (both_right (ltb (number_in x) 65) (small xs) t) h (u, λ e. omega arith)

unknown-above : (n : ℕ) → 65 ≤ n → row_of n ≡ row n unknown never never never never never
unfolding row_of
unknown-above n h = unknown-other n (past_all Unit kind_rows n tt h tt)

pub sort-above : (kind : ℕ) → 65 ≤ kind → sort_number (sort_of (kind_of kind)) ≡ 0
unfolding kind_of
sort-above kind h = rw (unknown-above kind h)

-- A test of kinds that passes at one number alone: computed at the numbers below 65.
abbrev pub all_below : (ℕ → Bool) → ℕ → Bool
all_below f zero = true
all_below f (suc n) = f n && all_below f n

below_at : (f : ℕ → Bool) (n : ℕ) → T (all_below f n) → (k : ℕ) → k < n → T (f k)
below_at f zero t k h = absurd (not-suc-le-zero h)
below_at f (suc n) t k h = go (below_at f n (both_right (f n) (all_below f n) t) k) (dec_lt k n)
  where
    go : (k < n → T (f k)) → Dec (k < n) → T (f k)
    go lower (yes l) = lower l
    go lower (no l) = let e : n ≡ k = omega arith in subst (λ (x : ℕ). T (f x)) e (both_left (f n) (all_below f n) t)

beq→eq : (a b : Bool) → T (beq a b) → a ≡ b
beq→eq true true t = refl
beq→eq true false t = absurd t
beq→eq false true t = absurd t
beq→eq false false t = refl

module _ (f : Kind → Bool) (m : ℕ) (none : f unknown ≡ false) (small : m < 65) where
  abbrev kind-test : ℕ → Bool
  kind-test k = beq (f (kind_of k)) (eqb k m)

  pub only-kind : T (all_below kind-test 65) → (k : ℕ) → f (kind_of k) ≡ eqb k m
  unfolding kind_of
  only-kind t k = go (dec_lt k 65)
    where
      go : Dec (k < 65) → f (kind_of k) ≡ eqb k m
      go (yes h) = beq→eq _ _ (below_at kind-test 65 t k h)
      go (no h) = rw (unknown-above k (omega arith), ne_eqb k m (omega arith)) none

pub flat-number : (k : ℕ) → is_flat (kind_of k) ≡ eqb k 16
unfolding kind_of
flat-number = only-kind is_flat 16 refl (omega arith) tt

pub pair-number : (k : ℕ) → is_pair (kind_of k) ≡ eqb k 17
unfolding kind_of
pair-number = only-kind is_pair 17 refl (omega arith) tt

pub header-number : (k : ℕ) → is_header (kind_of k) ≡ eqb k 1
unfolding kind_of
header-number = only-kind is_header 1 refl (omega arith) tt

pub delay-number : (k : ℕ) → is_delay (kind_of k) ≡ eqb k 40
unfolding kind_of
delay-number = only-kind is_delay 40 refl (omega arith) tt
