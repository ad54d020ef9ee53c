-- The lowest number below n that passes a test is the lowest: it passes and no lower one does, and where none is found no
-- number below n passes. By induction on n: a number found below n stays, and else n itself is tried. No other answer fits
-- these facts, so they give the equation back.
-- Assumes nothing.
use Prim.Native.Nat.{ℕ, zero, suc, ◌<◌}
use mathlib.Core.Bool.{Bool, true, false}
use mathlib.Core.Option.{Option, none, some}
use mathlib.Core.Path.{◌≡◌, refl, subst}
use native.Mathlib.Omega.{arith}
use native.Mathlib.Decide.{ℕ_discrete, dec_lt}
use Rattle.answers.specs.Answers.{lowest, or_here}

never_both : (b : Bool) → b ≡ true → b ≡ false → ⊥
never_both b t f = let z : ◌≡◌ {A = ℕ} 0 1 = cc in omega arith

-- what holds below suc n holds at n and below
pub at-or-below : (P : ℕ → Type 0) (n : ℕ) → P n → ((r : ℕ) → r < n → P r) → (r : ℕ) → r < suc n → P r
at-or-below P n here below r h = go (ℕ_discrete n r)
  where
    go : Dec (n ≡ r) → P r
    go (yes e) = subst P e here
    go (no f) = below r (omega arith)

-- what an answer of the search says
abbrev pub FoundIn : (ℕ → Bool) → ℕ → Option ℕ → Type 0
FoundIn p n none = (r : ℕ) → r < n → p r ≡ false
FoundIn p n (some r) = (r < n) × (p r ≡ true) × ((q : ℕ) → q < r → p q ≡ false)

found-step : (p : ℕ → Bool) (n : ℕ) (o : Option ℕ) (b : Bool) → p n ≡ b → FoundIn p n o → FoundIn p (suc n) (or_here o b n)
found-step p n none true e f = (omega arith, e, f)
found-step p n none false e f = at-or-below (λ r. p r ≡ false) n e f
found-step p n (some r) b e f = (omega arith, f.1, f.2)

pub lowest_found : (p : ℕ → Bool) (n : ℕ) → FoundIn p n (lowest p n)
lowest_found p zero = λ r h. absurd (omega arith)
lowest_found p (suc n) = found-step p n (lowest p n) (p n) refl (lowest_found p n)

pub lowest-none-fails : (p : ℕ → Bool) (n : ℕ) → lowest p n ≡ none → (r : ℕ) → r < n → p r ≡ false
lowest-none-fails p n e = rw e at (lowest_found p n)

pub lowest-some-passes :
    (p : ℕ → Bool) (n r : ℕ) → lowest p n ≡ some r → (r < n) × (p r ≡ true) × ((q : ℕ) → q < r → p q ≡ false)
lowest-some-passes p n r e = rw e at (lowest_found p n)

pub lowest_none : (p : ℕ → Bool) (n : ℕ) → ((r : ℕ) → r < n → p r ≡ false) → lowest p n ≡ none
lowest_none p n fails = go (lowest p n) (lowest_found p n)
  where
    go : (o : Option ℕ) → FoundIn p n o → o ≡ none
    go none f = refl
    go (some r) f = absurd (never_both (p r) f.1 (fails r f.0))

pub lowest-is :
    (p : ℕ → Bool) (n r : ℕ) → r < n → p r ≡ true → ((q : ℕ) → q < r → p q ≡ false) → lowest p n ≡ some r
lowest-is p n r below passes least = go (lowest p n) (lowest_found p n)
  where
    same : (q : ℕ) → p q ≡ true → ((k : ℕ) → k < q → p k ≡ false) → Dec (q < r) → Dec (r < q) → q ≡ r
    same q t l (yes h) d = absurd (never_both (p q) t (least q h))
    same q t l (no h) (yes k) = absurd (never_both (p r) passes (l r k))
    same q t l (no h) (no k) = omega arith

    go : (o : Option ℕ) → FoundIn p n o → o ≡ some r
    go none f = absurd (never_both (p r) passes (f r below))
    go (some q) f = rw (same q f.1 f.2 (dec_lt q r) (dec_lt r q))
