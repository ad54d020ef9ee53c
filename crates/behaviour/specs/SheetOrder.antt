-- The order of sheets and of calls of the run (docs/SHEETS.md, "Runs in order"): two sheets that are the same or differ only in delay
-- leaves, each of the first at or below that of the second; and a call whose sheet is accepted, whose stimulus is well formed
-- and whose slices have the right lengths, with what it gave by its contract.
use Rattle.std.specs.Prelude.{ℕ, ◌<◌, ◌≡◌, get_or}
use mathlib.Core.List.{List, Memᴰ}
use Rattle.records.specs.Words.{word_a}
use Rattle.records.specs.Trees.{circuit, delay_leaves}
use Rattle.meaning.specs.Values.{LeafBelow, ◌⊑◌}
use Rattle.behaviour.specs.Entries.{put_word}
use Rattle.behaviour.specs.Afterwards.{OnlyDelays, WellFormed}
use Rattle.behaviour.specs.Run.{RunGiven}
use Rattle.behaviour.specs.Bench.{toggle}

-- the second sheet differs from the first in delay leaves alone, and each of the first is at or below that of the second
pub record SheetBelow (s s' : List ℕ) : Type 0 where
  pub only_delays : OnlyDelays s s'
  pub delays_below : (l : ℕ) → Memᴰ l (delay_leaves (circuit s)) → LeafBelow (word_a s l) (word_a s' l)

-- a well-formed call of the run on this sheet and stimulus, which gave these outputs and this next sheet
pub record FormedCall (sheet stimulus outputs next : List ℕ) : Type 0 where
  pub lent_out : List ℕ
  pub lent_next : List ℕ
  pub type : ℕ
  pub result : ℕ
  pub formed : WellFormed sheet stimulus lent_out lent_next type
  pub gives : RunGiven sheet stimulus lent_out lent_next result outputs next

-- two such calls in order, of which the first gives 0 in an output leaf and in a delay leaf where the second gives a constructor
pub record StrictlyBelow (s s' stimulus stimulus' outputs outputs' next next' : List ℕ) : Type 0 where
  pub sheets : SheetBelow s s'
  pub stimuli : stimulus ⊑ stimulus'
  pub first : FormedCall s stimulus outputs next
  pub second : FormedCall s' stimulus' outputs' next'
  pub leaf : ℕ
  pub leaf_undefined : get_or outputs leaf 0 ≡ 0
  pub leaf_defined : 0 < get_or outputs' leaf 0
  pub delay : ℕ
  pub is-delay : Memᴰ delay (delay_leaves (circuit next))
  pub delay_undefined : word_a next delay ≡ 0
  pub delay_defined : 0 < word_a next' delay

-- the sheet T with this value in its delay, whose leaf is record 4
abbrev pub holding : ℕ → List ℕ
holding v = put_word 4 v toggle
