-- Values compared leaf by leaf, and what is found in more and more cycles: a cycle that differs is
-- found, and then stays what is found.
-- Assumes nothing.
use Prim.Native.Nat.{ℕ, zero, suc, ◌+◌}
use mathlib.Core.Bool.{true, false}
use mathlib.Core.List.{List}
use mathlib.Core.Option.{Option, none, some}
use mathlib.Core.Path.{◌≡◌, refl}
use native.Mathlib.Nat.{zero-add, suc-add}
use lib.ListN.{get_or}
use borrow.Author.Tests.{eq-eqb, ne_eqb}
use Rattle.behaviour.specs.Run.{output_leaves}
use Rattle.replay.specs.Replay.{Agrees, Differs}
use Rattle.replay.specs.Replay.{output_of, recorded_of, leaf_differs, lowest_differing, found_in}

module _ (v u : List ℕ) (l : ℕ) where
  pub leaf-differing : (get_or v l 0 ≡ get_or u l 0 → ⊥) → leaf_differs v u l ≡ true
  leaf-differing f = rw (ne_eqb (get_or v l 0) (get_or u l 0) f) refl

  pub leaf-agrees : get_or v l 0 ≡ get_or u l 0 → leaf_differs v u l ≡ false
  leaf-agrees e = rw (eq-eqb (get_or v l 0) (get_or u l 0) e) refl

module _ (s stim recorded : List ℕ) where
  -- what a cycle is compared by
  abbrev pub InCycle : ℕ → Option ℕ → Type 0
  InCycle k found = lowest_differing (output_leaves s) (output_of s stim k) (recorded_of s recorded k) ≡ found

  pub cycle-agrees : (k : ℕ) → found_in s stim recorded k ≡ Agrees k → InCycle k none → found_in s stim recorded (suc k) ≡ Agrees (suc k)
  cycle-agrees k e f = rw (e, f) refl

  pub cycle-differs : (k l : ℕ) → found_in s stim recorded k ≡ Agrees k → InCycle k (some l) → found_in s stim recorded (suc k) ≡ Differs k l
  cycle-differs k l e f = rw (e, f) refl

  -- what differs stays found
  pub found-stays : (d m k l : ℕ) → found_in s stim recorded m ≡ Differs k l → found_in s stim recorded (d + m) ≡ Differs k l
  found-stays zero m k l e = rw (zero-add m) e
  found-stays (suc d) m k l e = rw (suc-add d m, found-stays d m k l e) refl
