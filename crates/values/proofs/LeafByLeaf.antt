-- A slice joined with another leaf by leaf: the leaves before the one at hand are joined, and the others are as they were.
-- Assumes nothing.
use Prim.Native.Nat.{ℕ, ◌+◌, ◌≤◌, ◌<◌}
use mathlib.Core.List.{List}
use mathlib.Core.Path.{◌≡◌, sym, ap, ◌∙◌}
use native.Mathlib.Decide.{ℕ_discrete}
use native.Mathlib.Omega.{arith}
use lib.ListN.{length, get_or, set, length-set}
use lib.Seq.{get_or-set_same, get_or-set_other, ext_get_or}

module _ (leaf : ℕ → ℕ → ℕ) (otherwise out₀ : List ℕ) where
  -- i leaves are done
  pub record JoinedTo (i : ℕ) (out : List ℕ) : Type 0 where
    pub few : i ≤ length out₀
    pub long : length out ≡ length out₀
    pub so_far : (j : ℕ) → j < i → get_or out j 0 ≡ leaf (get_or out₀ j 0) (get_or otherwise j 0)
    pub rest : (j : ℕ) → i ≤ j → get_or out j 0 ≡ get_or out₀ j 0

  pub join-next : (i : ℕ) (out : List ℕ) (v : ℕ) → i < length out₀ → JoinedTo i out
      → v ≡ leaf (get_or out i 0) (get_or otherwise i 0) → JoinedTo (i + 1) (set out i v)
  join-next i out v h c e =
      let l = c.long in
      record {
        few = omega arith;
        long = length-set out i v ∙ l;
        so_far = λ j k. at j k (ℕ_discrete j i);
        rest = λ j k. get_or-set_other out i j v 0 (λ p. omega arith) ∙ c.rest j (omega arith);
      }
    where
      at : (j : ℕ) → j < i + 1 → Dec (j ≡ i) → get_or (set out i v) j 0 ≡ leaf (get_or out₀ j 0) (get_or otherwise j 0)
      at j k (yes p) =
          let l = c.long in
          rw p
          (get_or-set_same out i v 0 (omega arith) ∙ e
          ∙ ap (λ u. leaf u (get_or otherwise i 0)) (c.rest i (omega arith)))
      at j k (no f) = get_or-set_other out i j v 0 f ∙ c.so_far j (omega arith)

  -- all are, and a list of as many leaves that has those is the slice
  pub all-joined : (joined : List ℕ) → length joined ≡ length out₀
      → ((j : ℕ) → j < length out₀ → get_or joined j 0 ≡ leaf (get_or out₀ j 0) (get_or otherwise j 0)) → (i : ℕ) (out : List ℕ)
      → length out₀ ≤ i → JoinedTo i out → out ≡ joined
  all-joined joined n f i out h c =
      let l = c.long in
      ext_get_or 0 out joined (l ∙ sym n) (λ j b. c.so_far j (omega arith) ∙ sym (f j (omega arith)))
