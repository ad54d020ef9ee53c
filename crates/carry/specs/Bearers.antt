-- A table of the delays below a record by their labels, one number a label: the lowest delay that bears it, 0 for none. What the
-- functions that fill it are called with, and what they give.
use Rattle.std.specs.Prelude.{ℕ, zero, suc, ◌+◌, ◌<◌, ◌≡◌, Bool, false, List, length, get_or}
use Rattle.std.specs.Prelude as Std
use Rattle.std.proofs.Math.Option.{Option, none, some}
use Rattle.records.specs.Limits.{word_bound}
use Rattle.records.specs.Sized.{Sized}
use Rattle.records.specs.Written.{Written}
use Rattle.answers.specs.Answers.{lowest}
use Rattle.answers.specs.Searches.{found}
use Rattle.carry.specs.Labels.{bears, label_twice}

-- the record that an entry stands for
abbrev pub entry_bearer : ℕ → Option ℕ
entry_bearer zero = none
entry_bearer (suc r) = some (suc r)

-- the delays below m
pub record Bearers (s : List ℕ) (m : ℕ) (table : List ℕ) : Type 0 where
  pub long : length table ≡ word_bound
  pub entries : (l : ℕ) → l < word_bound → entry_bearer (get_or table l 0) ≡ lowest (bears s l) m

-- record rec is entered
pub record Labelling (s : List ℕ) (n rec : ℕ) (table : List ℕ) : Type 0 where
  pub sized : Sized s n
  pub written : Written s
  pub there : rec < n
  pub below : Bearers s rec table

-- whether a lower one bears its label; where none does it is entered
pub record Labelled (s : List ℕ) (rec : ℕ) (twice : Bool) (table : List ℕ) : Type 0 where
  pub answered : twice ≡ label_twice s rec
  pub long : length table ≡ word_bound
  pub entered : twice ≡ false → Bearers s (rec + 1) table

-- and all records, up to the first whose label stands twice
pub record AllLabelled (s : List ℕ) (n : ℕ) (twice : Std.Option ℕ) (table : List ℕ) : Type 0 where
  pub answered : found twice ≡ lowest (label_twice s) n
  pub entered : found twice ≡ none → Bearers s n table
