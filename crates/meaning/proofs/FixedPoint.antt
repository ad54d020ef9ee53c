-- The chain of a monotone function on the values within some bounds, from undefined (000, §4.3.3: `iterate` computes the least
-- fixed point). A step that changes a value leaves fewer undefined leaves; so after as many steps as there are leaves the
-- chain stands still, there it is fixed, and it lies at or below every value that the function returns unchanged.
-- Assumes nothing.
use Prim.Native.Nat.{ℕ, zero, suc, ◌+◌, ◌-◌, ◌≤◌, ◌<◌, zero-le, suc-le-suc}
use native.Mathlib.Nat.{not-suc-le-zero, le_of_suc-le-suc, zero-add, suc-add}
use native.Mathlib.Omega.{arith}
use mathlib.Core.Path.{◌≡◌, refl, sym, ap, ap₂, subst, ◌∙◌}
use mathlib.Core.Logic.{◌⊎◌, inl, inr, ◌≢◌}
use mathlib.Core.Bool.{Bool, true, false, ◌&&◌}
use mathlib.Core.List.{List, [], ◌∷◌}
use lib.Dec.{T, eqb, eqb→eq, eqb_refl}
use lib.ListN.{replicate}
use Rattle.meaning.specs.Values.{Both, both_none, both_leaf}
use Rattle.meaning.proofs.Order.{zeros}
use Rattle.meaning.specs.Evaluation.{iter, unchanged, counted_from}

-- of two values in order the upper one is the same or has fewer undefined leaves
zeros-under : (n : ℕ) (vs ws : List ℕ) → zeros ws < zeros vs → zeros (n ∷ ws) < zeros (n ∷ vs)
zeros-under zero vs ws h = suc-le-suc h
zeros-under (suc n) vs ws h = h

leaf-same
    : (n : ℕ) (vs ws : List ℕ) → (vs ≡ ws) ⊎ (zeros ws < zeros vs)
    → (◌≡◌ {A = List ℕ} (n ∷ vs) (n ∷ ws)) ⊎ (zeros (n ∷ ws) < zeros (n ∷ vs))
leaf-same n vs ws (inl p) = inl (ap (λ us. n ∷ us) p)
leaf-same n vs ws (inr h) = inr (zeros-under n vs ws h)

leaf_defined
    : (w : ℕ) (vs ws : List ℕ) → (vs ≡ ws) ⊎ (zeros ws < zeros vs)
    → (◌≡◌ {A = List ℕ} (0 ∷ vs) (w ∷ ws)) ⊎ (zeros (w ∷ ws) < suc (zeros vs))
leaf_defined zero vs ws r = leaf-same 0 vs ws r
leaf_defined (suc w) vs ws (inl p) = inr (rw p (omega arith))
leaf_defined (suc w) vs ws (inr h) = inr (omega arith)

pub same-or-fewer : {b v w : List ℕ} → Both b v w → (v ≡ w) ⊎ (zeros w < zeros v)
same-or-fewer both_none = inl refl
same-or-fewer (both_leaf {w} {vs} {ws} h k (inl p) r) = rw p (leaf_defined w vs ws (same-or-fewer r))
same-or-fewer (both_leaf {w} {vs} {ws} h k (inr p) r) = rw p (leaf-same w vs ws (same-or-fewer r))

pub zeros-undefined : (n : ℕ) → zeros (replicate n 0) ≡ n
zeros-undefined zero = refl
zeros-undefined (suc n) = ap suc (zeros-undefined n)

-- an application repeated commutes with one more
pub iter-inside : (F : List ℕ → List ℕ) (k : ℕ) (v : List ℕ) → iter F k (F v) ≡ F (iter F k v)
iter-inside F zero v = refl
iter-inside F (suc k) v = ap F (iter-inside F k v)

pub iter-fixed : (F : List ℕ → List ℕ) (k : ℕ) {v : List ℕ} → F v ≡ v → iter F k v ≡ v
iter-fixed F zero p = refl
iter-fixed F (suc k) p = ap F (iter-fixed F k p) ∙ p

pub iter-stays
    : (F : List ℕ → List ℕ) (n : ℕ) (v : List ℕ) → F (iter F n v) ≡ iter F n v → (k : ℕ) → n ≤ k → iter F k v ≡ iter F n v
iter-stays F n v p k h = rw (parted) (past (k - n))
  where
    parted : k ≡ (k - n) + n
    parted = omega arith

    past : (d : ℕ) → iter F (d + n) v ≡ iter F n v
    past zero = rw zero-add
    past (suc d) = rw suc-add (ap F (past d) ∙ p)

module _ {b : List ℕ} (F : List ℕ → List ℕ) (mono : (v w : List ℕ) → Both b v w → Both b (F v) (F w)) where
  -- from a value below its application each application lies at or above the one before
  pub chain-rises : (k : ℕ) {v : List ℕ} → Both b v (F v) → Both b (iter F k v) (iter F (suc k) v)
  chain-rises zero r = r
  chain-rises (suc k) r = mono _ _ (chain-rises k r)

  -- after k applications the value is fixed, or k undefined leaves are gone
  fixed-or-gone : (k : ℕ) {v : List ℕ} → Both b v (F v) → (F (iter F k v) ≡ iter F k v) ⊎ (zeros (iter F k v) + k ≤ zeros v)
  fixed-or-gone zero r = inr (omega arith)
  fixed-or-gone (suc k) {v} r = go (fixed-or-gone k r) (same-or-fewer (chain-rises k r))
    where
      go
          : (F (iter F k v) ≡ iter F k v) ⊎ (zeros (iter F k v) + k ≤ zeros v)
          → (iter F k v ≡ iter F (suc k) v) ⊎ (zeros (iter F (suc k) v) < zeros (iter F k v))
          → (F (iter F (suc k) v) ≡ iter F (suc k) v) ⊎ (zeros (iter F (suc k) v) + suc k ≤ zeros v)
      go (inl p) s = inl (ap F p)
      go (inr h) (inl p) = inl (ap F (sym p))
      go (inr h) (inr l) = inr (omega arith)

  -- as many applications as there are undefined leaves reach a value that is returned unchanged
  pub chain-stable : (k : ℕ) {v : List ℕ} → Both b v (F v) → zeros v ≤ k → F (iter F k v) ≡ iter F k v
  chain-stable k {v} r h = go (fixed-or-gone k r) (same-or-fewer (chain-rises k r))
    where
      go
          : (F (iter F k v) ≡ iter F k v) ⊎ (zeros (iter F k v) + k ≤ zeros v)
          → (iter F k v ≡ iter F (suc k) v) ⊎ (zeros (iter F (suc k) v) < zeros (iter F k v)) → F (iter F k v) ≡ iter F k v
      go (inl p) s = p
      go (inr l) (inl p) = sym p
      go (inr l) (inr m) = absurd (omega arith)

  -- the chain stays below every value that is returned unchanged and that it began below
  pub chain-least : (k : ℕ) {v w : List ℕ} → Both b v w → F w ≡ w → Both b (iter F k v) w
  chain-least zero r p = r
  chain-least (suc k) {w} r p = rw p at (mono _ w (chain-least k r p))

-- the test for an unchanged value
pub unchanged-same : (v w : List ℕ) → T (unchanged v w) → v ≡ w
unchanged-same [] [] h = refl
unchanged-same [] (w ∷ ws) h = elim h [ ]
unchanged-same (v ∷ vs) [] h = elim h [ ]
unchanged-same (v ∷ vs) (w ∷ ws) h = go (eqb v w) (eqb→eq v w) (unchanged-same vs ws) h
  where
    go : (x : Bool) → (T x → v ≡ w) → (T (unchanged vs ws) → vs ≡ ws) → T (x && unchanged vs ws) → v ∷ vs ≡ w ∷ ws
    go true p q h = ap₂ (λ u us. u ∷ us) (p tt) (q h)
    go false p q h = absurd h

pub unchanged-refl : (v : List ℕ) → T (unchanged v v)
unchanged-refl [] = tt
unchanged-refl (v ∷ vs) = go (eqb v v) (eqb_refl v) (unchanged-refl vs)
  where
    go : (x : Bool) → T x → T (unchanged vs vs) → T (x && unchanged vs vs)
    go true h r = r
    go false h r = h

-- The count of the applications that change something, from v and at most k: they lead where k applications lead, and each of
-- them changes its value.
abbrev step : Bool → ℕ → ℕ
step x n = elim x [ true ↦ 0 | false ↦ suc n ]

pub counted-most : (F : List ℕ → List ℕ) (k : ℕ) (v : List ℕ) → counted_from F k v ≤ k
counted-most F zero v = zero-le
counted-most F (suc k) v = go (unchanged (F v) v) (counted-most F k (F v))
  where
    go : (x : Bool) → counted_from F k (F v) ≤ k → step x (counted_from F k (F v)) ≤ suc k
    go true h = zero-le
    go false h = suc-le-suc h

pub counted-reaches : (F : List ℕ → List ℕ) (k : ℕ) (v : List ℕ) → iter F (counted_from F k v) v ≡ iter F k v
counted-reaches F zero v = refl
counted-reaches F (suc k) v = go (unchanged (F v) v) (unchanged-same (F v) v) (counted-reaches F k (F v))
  where
    go
        : (x : Bool) → (T x → F v ≡ v) → iter F (counted_from F k (F v)) (F v) ≡ iter F k (F v)
        → iter F (step x (counted_from F k (F v))) v ≡ F (iter F k v)
    go true p q = sym (iter-fixed F (suc k) (p tt))
    go false p q = sym (iter-inside F (counted_from F k (F v)) v) ∙ q ∙ iter-inside F k v

pub counted-changes
    : (F : List ℕ → List ℕ) (k : ℕ) (v : List ℕ) (j : ℕ) → j < counted_from F k v → F (iter F j v) ≢ iter F j v
counted-changes F zero v j h = absurd (not-suc-le-zero h)
counted-changes F (suc k) v j h = go (unchanged (F v) v) refl (counted-changes F k (F v)) j h
  where
    go
        : (x : Bool) → unchanged (F v) v ≡ x
        → ((i : ℕ) → i < counted_from F k (F v) → F (iter F i (F v)) ≢ iter F i (F v))
        → (i : ℕ) → i < step x (counted_from F k (F v)) → F (iter F i v) ≢ iter F i v
    go true e q i l p = not-suc-le-zero l
    go false e q zero l p = subst T (ap (λ w. unchanged w v) (sym p) ∙ e) (unchanged-refl v)
    go false e q (suc i) l p = q i (le_of_suc-le-suc l) (ap F (iter-inside F i v) ∙ p ∙ sym (iter-inside F i v))
