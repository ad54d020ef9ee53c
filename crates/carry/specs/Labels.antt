-- Labels and shapes (docs/SHEETS.md, "Carrying"): word d of a delay is its label, 0 for none; two types have the same shape "if both
-- are flat with equal numbers of constructors, or both are pairs whose first parts have the same shape and whose second parts have".
use Rattle.std.specs.Prelude.{ℕ, Bool, false, cond, ◌&&◌, List, eqb, ltb}
use Rattle.std.proofs.Math.Option.{Option}
use Rattle.picoella.specs.Language.{Ty, Flat, TyTuple}
use Rattle.records.specs.Words.{count, word_a, word_d}
use Rattle.records.specs.Kinds.{is_delay}
use Rattle.records.specs.Says.{kind_at}
use Rattle.records.specs.Trees.{type_at}
use Rattle.answers.specs.Answers.{lowest, is_some}

-- the label of record r, 0 where it has none or is no delay
abbrev pub label : List ℕ → ℕ → ℕ
label s r = cond (is_delay (kind_at s r)) (word_d s r) 0

-- record q bears the label l; nothing bears 0
abbrev pub bears : List ℕ → ℕ → ℕ → Bool
bears s l q = ltb 0 l && eqb (label s q) l

-- the delay of the sheet with this label, the lowest where several have it
unfoldable pub bearer : List ℕ → ℕ → Option ℕ
bearer s l = lowest (bears s l) (count s)

-- a lower-numbered delay of the sheet bears the label of r
unfoldable pub label_twice : List ℕ → ℕ → Bool
label_twice s r = is_some (lowest (bears s (label s r)) r)

-- the type of delay r
abbrev pub delay_type : List ℕ → ℕ → Ty
delay_type s r = type_at s (word_a s r)

-- pairs, and flats of equal counts, in the same places
abbrev pub same_shape : Ty → Ty → Bool
same_shape (Flat t n) (Flat u m) = eqb n m
same_shape (Flat t n) (TyTuple υ ω) = false
same_shape (TyTuple σ τ) (Flat u m) = false
same_shape (TyTuple σ τ) (TyTuple υ ω) = same_shape σ υ && same_shape τ ω
