-- The measure is by the distance to the last record: parts and nexts are higher. Assumes nothing.
use Rattle.records.specs.Words.{count}
use Prim.Native.Nat.{◌+◌, ◌*◌, ◌-◌}
use mathlib.Core.Path.{◌≡◌}
use Rattle.values.proofs.Gathering.{left}
use Rattle.sets.proofs.SetChains.{SetsGathered, SetsLeft}
use Rattle.sets.proofs.+match_pair_match_sets.Given as goal

abbrev pub decreases-match_pair : goal.decreases-match_pair
decreases-match_pair l = (2 * ((count l.sheet.now) - l.p))

abbrev pub decreases-match_sets : goal.decreases-match_sets
decreases-match_sets l = (2 * ((count l.sheet.now) - l.p) + 1)

abbrev pub invariant-match_sets-loop-at : goal.invariant-match_sets-loop-at
invariant-match_sets-loop-at l = SetsGathered l.sheet l.p l.value l.answer l.at × ((l.at ≡ 0 → ⊥) → SetsLeft l.sheet (count l.sheet) l.widths l.p l.value l.at)

abbrev pub decreases-match_sets-loop-at : goal.decreases-match_sets-loop-at
decreases-match_sets-loop-at l = left (count l.sheet) l.at
