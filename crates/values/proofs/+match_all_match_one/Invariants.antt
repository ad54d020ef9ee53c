-- The measure is by the distance to the last record: parts and nexts are higher. The loop's invariant: the whole chain is what was
-- matched so far, with what is left. Assumes nothing.
use Prim.Native.Nat.{◌+◌, ◌*◌, ◌-◌, ◌≤◌}
use mathlib.Core.Path.{◌≡◌}
use Rattle.records.specs.Words.{count}
use Rattle.values.specs.Matchings.{Matching}
use Rattle.values.proofs.Gathering.{Gathered, left}
use Rattle.values.proofs.+match_all_match_one.Given as goal

abbrev pub decreases-match_all : goal.decreases-match_all
decreases-match_all l = 2 * (count l.sheet.now - l.p) + 1

abbrev pub decreases-match_one : goal.decreases-match_one
decreases-match_one l = 2 * (count l.sheet.now - l.p)

abbrev pub invariant-match_all-loop-at : goal.invariant-match_all-loop-at
invariant-match_all-loop-at l = Gathered l.sheet l.p l.value l.answer l.at × ((l.at ≡ 0 → ⊥) → (l.p ≤ l.at) × Matching l.sheet (count l.sheet) l.widths l.at l.value)

abbrev pub decreases-match_all-loop-at : goal.decreases-match_all-loop-at
decreases-match_all-loop-at l = left (count l.sheet) l.at
