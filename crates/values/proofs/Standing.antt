-- A value held against what stands in a slot, leaf by leaf: the leaves before the one at hand are the same.
-- Assumes nothing.
use Prim.Native.Nat.{ℕ, ◌+◌, ◌≤◌, ◌<◌}
use mathlib.Core.Bool.{true, false}
use mathlib.Core.List.{List}
use mathlib.Core.Path.{◌≡◌, refl, sym, ap, ◌∙◌}
use mathlib.Core.Logic.{◌≢◌}
use native.Mathlib.Omega.{arith}
use native.Mathlib.Numerals.{add-one}
use lib.ListN.{length, get_or, take, drop, length-drop}
use lib.Seq.{take-length, take-suc, length-take-le, get_or-take}
use Rattle.records.proofs.Tests.{never_both}
use Rattle.values.specs.MatchAnswers.{ValuesCompared}

-- what is looked up is as long as the value
pub slot-long : (a w : ℕ) (env slot : List ℕ) → slot ≡ take w (drop a env) → a + w ≤ length env → length slot ≡ w
slot-long a w env slot e h = let l = length-drop a env in rw e (length-take-le w (drop a env) (omega arith))

module _ (value slot : List ℕ) where
  -- i leaves are the same
  pub record Same (i : ℕ) : Type 0 where
    pub few : i ≤ length value
    pub so_far : take i value ≡ take i slot

  pub none-the-same : Same 0
  none-the-same = record { few = omega arith; so_far = refl }

  module _ (long : length slot ≡ length value) where
    pub slot-same-next : (i : ℕ) → i < length value → Same i → get_or slot i 0 ≡ get_or value i 0 → Same (i + 1)
    slot-same-next i h c e =
        record {
          few = omega arith;
          so_far = rw (add-one i, take-suc value i 0 h, take-suc slot i 0 (omega arith), c.so_far, e) refl;
        }

    pub all_same : (i : ℕ) → length value ≤ i → Same i → {there : List ℕ} → slot ≡ there → ValuesCompared value there true
    all_same i h c t =
        let f = c.few in
        let e : i ≡ length value = omega arith in
        let v : take i value ≡ value = rw e (take-length value) in
        let l : take i slot ≡ slot = rw (e, ← long) (take-length slot) in
        record { same = λ _. sym v ∙ c.so_far ∙ l ∙ t; other = λ e. absurd (never_both true refl e) }

  pub slot-differs : (i : ℕ) → i < length value → get_or slot i 0 ≢ get_or value i 0 → ValuesCompared value (take (length value) slot) false
  slot-differs i h d =
      record {
        same = λ e. absurd (never_both false e refl);
        other = λ _ e. d (sym (ap (λ v. get_or v i 0) e ∙ get_or-take (length value) slot i 0 h));
      }
