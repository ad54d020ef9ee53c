-- Matching (docs/SHEETS.md, "One cycle"; 000, §4.2.3: `match`), on leaves. A pair pattern cuts
-- the leaves at the width of its first part, which the pattern itself has: on a value of its type that is where the first part's leaves
-- end. All alternatives of a chain have one width; the first gives it. Without leaves a constructor pattern is undecided.
use Rattle.std.specs.Prelude.{ℕ, ◌+◌, List, get_or, take, drop}
use Rattle.picoella.specs.Language.{leaves, Pattern, Whole, Constructor, Parts, Bar}
use Rattle.meaning.specs.Decisions.{Decision, Yes, constructor_decision, pair_decision, chain_decision}

-- the number of leaves of the values that a pattern is for
abbrev pub pattern_width : Pattern → ℕ
pattern_width (Whole τ) = leaves τ
pattern_width (Constructor r n k) = 1
pattern_width (Parts p q) = pattern_width p + pattern_width q
pattern_width (Bar p q) = pattern_width p

-- whole type: yes, also on undefined
abbrev pub matches : Pattern → List ℕ → Decision
matches (Whole τ) v = Yes
matches (Constructor r n k) v = constructor_decision k (get_or v 0 0)
matches (Parts p q) v = pair_decision (matches p (take (pattern_width p) v)) (matches q (drop (pattern_width p) v))
matches (Bar p q) v = chain_decision (matches p v) (matches q v)
