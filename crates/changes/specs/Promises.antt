-- What is promised of the changes that are counted, and of the report; one term of each stands in `proofs/Kept.antt`.
use Rattle.std.specs.Prelude.{ℕ, zero, suc, ◌*◌, ◌/◌, ◌≤◌, ◌<◌, ◌≡◌, ◌↔◌, ◌≢◌, length, get_or, take, drop}
use mathlib.Core.List.{List, [], ◌∷◌, ◌++◌, Memᴰ}
use Rattle.listing.specs.Lines.{ascii, cycle_line, cycle_lines}
use Rattle.changes.specs.Changes.{changes_of, Change, all_changes, total_changes, sum_below}
use Rattle.changes.specs.ReportLines.{report}

-- the part of the output record that is cycle k's
abbrev pub part_of : (w : ℕ) (outputs : List ℕ) (k : ℕ) → List ℕ
part_of w outputs k = take w (drop (k * w) outputs)

-- These are the numbers that the listing prints in the line of cycle k.
abbrev pub part_lines : (w : ℕ) (outputs : List ℕ) (count : ℕ) → List ℕ
part_lines w outputs zero = []
part_lines w outputs (suc k) = part_lines w outputs k ++ cycle_line k (part_of w outputs k)

abbrev pub ListedByParts : Type 0
ListedByParts = (w : ℕ) (outputs : List ℕ) (count : ℕ) → cycle_lines w count 0 outputs ≡ part_lines w outputs count

-- The pairs are exactly those of a cycle after the first and a leaf whose value differs from the cycle before,
abbrev pub ChangesExactly : Type 0
ChangesExactly =
    (w : ℕ) (outputs : List ℕ) (k l : ℕ)
    → Memᴰ (record { cycle = suc k; leaf = l }) (all_changes w outputs)
    ↔ ((suc k < length outputs / w) × (l < w) × (get_or (part_of w outputs k) l 0 ≢ get_or (part_of w outputs (suc k)) l 0))

abbrev pub NoneInFirst : Type 0
NoneInFirst = (w : ℕ) (outputs : List ℕ) (l : ℕ) → Memᴰ (record { cycle = 0; leaf = l }) (all_changes w outputs) → ⊥

-- and each stands once among them.
abbrev pub EachChangeOnce : Type 0
EachChangeOnce =
    (w : ℕ) (outputs : List ℕ) (none : Change) (i j : ℕ) → i < j → j < length (all_changes w outputs)
    → get_or (all_changes w outputs) i none ≢ get_or (all_changes w outputs) j none

-- Their number "equals the sum of the lines".
abbrev pub SumOfLines : Type 0
SumOfLines = (w : ℕ) (outputs : List ℕ) → total_changes w outputs ≡ sum_below (changes_of w outputs) w

-- "A run of none or one cycle prints zeros": nothing changes.
abbrev pub NothingChanges : Type 0
NothingChanges =
    (w : ℕ) (outputs : List ℕ) → length outputs / w ≤ 1 → ((l : ℕ) → changes_of w outputs l ≡ 0) × (total_changes w outputs ≡ 0)

-- Two leaves in four cycles: the first changes twice, the second once.
abbrev pub ReportExamples : Type 0
ReportExamples =
    (report 2 (1 ∷ 1 ∷ 2 ∷ 1 ∷ 1 ∷ 2 ∷ 1 ∷ 2 ∷ []) ≡ ascii "leaf 0: 2\nleaf 1: 1\ntotal 3\n")
    × (report 2 (1 ∷ 2 ∷ []) ≡ ascii "leaf 0: 0\nleaf 1: 0\ntotal 0\n")
    × (report 2 [] ≡ ascii "leaf 0: 0\nleaf 1: 0\ntotal 0\n")

-- all of them
pub record ChangePromises : Type 0 where
  pub listed_by_parts : ListedByParts
  pub changes_exactly : ChangesExactly
  pub none_in_first : NoneInFirst
  pub each_change_once : EachChangeOnce
  pub sum_of_lines : SumOfLines
  pub nothing_changes : NothingChanges
  pub examples : ReportExamples
