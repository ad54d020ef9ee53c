-- The tests on a stimulus' length and bytes, by what they compare.
-- Assumes nothing.
use Prim.Native.Nat.{ℕ, ◌%◌, ◌≤◌, ◌<◌}
use mathlib.Core.Bool.{true, false, not}
use mathlib.Core.List.{List}
use mathlib.Core.Path.{◌≡◌, refl}
use borrow.Author.Tests.{lt-ltb, le-ltb}
use lib.Dec.{eqb}
use lib.ListN.{length, get_or}
use Rattle.stimulus.specs.Tests.{not_whole, above}

-- too long, or not whole cycles
pub long-refused : (all w : ℕ) → 65535 < all → true ≡ not_whole all w
long-refused all w h = rw (lt-ltb 65535 all h) refl

pub whole-or-not : (all w : ℕ) → all ≤ 65535 → not (eqb (all % w) 0) ≡ not_whole all w
whole-or-not all w h = rw (le-ltb 65535 all h) refl

-- a byte above its leaf's count, or not
module _ (bs stim : List ℕ) (i w : ℕ) (e : w ≡ length bs) where
  pub is-above : get_or bs (i % w) 0 < get_or stim i 0 → above bs stim i ≡ true
  is-above h = lt-ltb (get_or bs (i % length bs) 0) (get_or stim i 0) (rw e at h)

  pub is-not-above : get_or stim i 0 ≤ get_or bs (i % w) 0 → above bs stim i ≡ false
  is-not-above h = le-ltb (get_or bs (i % length bs) 0) (get_or stim i 0) (rw e at h)
