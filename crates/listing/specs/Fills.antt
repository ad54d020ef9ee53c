-- Lines of cycles written until the leaves or the room run out, so that a listing is printed in large pieces.
use Rattle.std.specs.Prelude.{ℕ, ◌+◌, ◌*◌, ◌≤◌, ◌<◌, ◌≡◌, List, length, drop}
use Rattle.listing.specs.Lines.{cycle_lines}
use Rattle.listing.specs.Wrote.{TextPut, line_bytes}
use Rattle.listing.specs.Texts.{Written, Added}

-- the lines of `count` cycles from k on are added, w leaves each; more only where no cycle is left
-- or a line might not fit
pub record LinesAdded (old : Written) (k w : ℕ) (leaves : List ℕ) (new : Written) (count : ℕ) : Type 0 where
  pub lines : Added old (cycle_lines w count k leaves) new
  pub inside : count * w ≤ length leaves
  pub full : (count + 1) * w ≤ length leaves → new.room < length new.bytes + line_bytes

-- the same in a buffer, from a place on: the lines of `count` cycles are written, up to the leaf
-- `next`
pub record Filling (buffer : List ℕ) (at k w : ℕ) (outputs : List ℕ) (first : ℕ) (after : List ℕ) (count next end : ℕ) : Type 0 where
  pub wrote : TextPut buffer at (cycle_lines w count k (drop first outputs)) after end
  pub taken : next ≡ first + count * w
  pub numbered : k + count ≤ next
  pub inside : next ≤ length outputs

-- what is given: it stops only where no cycle is left or a line might not fit
pub record FilledLines (buffer : List ℕ) (at k w : ℕ) (outputs : List ℕ) (first : ℕ) (after : List ℕ) (count next end : ℕ) : Type 0 where
  pub lines : Filling buffer at k w outputs first after count next end
  pub full : next + w ≤ length outputs → length buffer < end + line_bytes
