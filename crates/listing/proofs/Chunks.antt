-- Lines of cycles added chunk by chunk.
-- Assumes nothing.
use Prim.Native.Nat.{ℕ, ◌*◌, ◌≤◌}
use mathlib.Core.List.{List}
use mathlib.Core.Path.{◌≡◌}
use lib.ListN.{length, drop}
use Rattle.listing.specs.Lines.{cycle_lines}
use Rattle.listing.specs.Texts.{Written, Added}

-- the lines of the first `count` cycles are added, and the chunks of the others are left
pub record Adding (old : Written) (k w : ℕ) (leaves : List ℕ) (now : Written) (count : ℕ) (rest : List ℕ) (size : ℕ) : Type 0 where
  pub lines : Added old (cycle_lines w count k leaves) now
  pub inside : count * w ≤ length leaves
  pub left : rest ≡ drop (count * w) leaves
  pub long : size ≡ w
