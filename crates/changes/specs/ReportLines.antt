-- The report (docs/SHEETS.md, "Shift report"): for each output leaf `leaf L: N`, from 0, and then `total T`.
use Rattle.std.specs.Prelude.{ℕ, zero, suc, List, [], ◌++◌}
use Rattle.listing.specs.Lines.{ascii, word_line, numbers_line}
use Rattle.changes.specs.Changes.{changes_of, total_changes}

abbrev pub leaf_line : (leaf changes : ℕ) → List ℕ
leaf_line l n = numbers_line (ascii "leaf ") l (ascii ": ") n

abbrev pub total_line : (changes : ℕ) → List ℕ
total_line n = word_line (ascii "total ") n

-- the lines of the first so many leaves
abbrev pub leaf_lines : (w : ℕ) (outputs : List ℕ) → ℕ → List ℕ
leaf_lines w outputs zero = []
leaf_lines w outputs (suc l) = leaf_lines w outputs l ++ leaf_line l (changes_of w outputs l)

abbrev pub report : (w : ℕ) (outputs : List ℕ) → List ℕ
report w outputs = leaf_lines w outputs w ++ total_line (total_changes w outputs)
