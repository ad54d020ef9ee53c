-- An input with one leaf set to a value within its bound is of its type.
-- Assumes nothing.
use Prim.Native.Nat.{ℕ, zero, suc, ◌≤◌}
use mathlib.Core.List.{List}
use lib.ListN.{get_or, set}
use Rattle.picoella.specs.Language.{Within, within_none, within_leaf}

pub set-within : {ns vs : List ℕ} → Within ns vs → (j c : ℕ) → c ≤ get_or ns j 0 → Within ns (set vs j c)
set-within within_none j c h = within_none
set-within (within_leaf g r) zero c h = within_leaf h r
set-within (within_leaf g r) (suc j) c h = within_leaf g (set-within r j c h)
