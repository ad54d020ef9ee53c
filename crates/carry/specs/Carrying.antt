-- What the functions are called with that carry from an accepted sheet to another: two types to compare, two delays' leaves, and all
-- delays.
use Rattle.std.specs.Prelude.{ℕ, ◌<◌, ◌≡◌, List, length}
use Rattle.std.specs.Prelude as Std
use Rattle.std.proofs.Math.Option.{none}
use Rattle.records.specs.Kinds.{leafs}
use Rattle.records.specs.Says.{sort_at}
use Rattle.records.specs.Sized.{Sized}
use Rattle.records.specs.Written.{Written}
use Rattle.records.specs.Trees.{TypeRecord, chain}
use Rattle.verdict.specs.Verdict.{verdict}
use Rattle.answers.specs.Answers.{Accepted}
use Rattle.answers.specs.Answers.{lowest}
use Rattle.answers.specs.Searches.{found}
use Rattle.behaviour.specs.Entries.{put_all, put_word}
use Rattle.carry.specs.Labels.{label_twice}
use Rattle.carry.specs.Bearers.{Bearers}
use Rattle.carry.specs.Carried.{taken_below}

-- record t is a type of the sheet
pub record OfTypes (s : List ℕ) (n t : ℕ) : Type 0 where
  pub sized : Sized s n
  pub written : Written s
  pub type : TypeRecord s t

-- two types are compared
pub record Comparing (old : List ℕ) (n t : ℕ) (new : List ℕ) (m u : ℕ) : Type 0 where
  pub before : OfTypes old n t
  pub after : OfTypes new m u

-- record r begins a chain of leaves
pub record OfLeaves (s : List ℕ) (n r : ℕ) : Type 0 where
  pub sized : Sized s n
  pub written : Written s
  pub there : r < n
  pub sort : sort_at s r ≡ leafs

-- the leaves from `to` take those from `from`, as many
pub record Taking (old : List ℕ) (n from : ℕ) (new : List ℕ) (m to : ℕ) (next : List ℕ) : Type 0 where
  pub before : OfLeaves old n from
  pub after : OfLeaves new m to
  pub many : length (chain old from) ≡ length (chain new to)
  pub long : length next ≡ length new

-- a sheet of n records is accepted
pub record SheetAccepted (s : List ℕ) (n : ℕ) : Type 0 where
  pub sized : Sized s n
  pub type : ℕ
  pub accepted : verdict s ≡ Accepted type

-- the delays of the new sheet take those of the old one, by the table of its labels
pub record Carrying (old : List ℕ) (n : ℕ) (new : List ℕ) (m : ℕ) (table next : List ℕ) : Type 0 where
  pub before : SheetAccepted old n
  pub after : SheetAccepted new m
  pub labels : Bearers old n table
  pub long : length next ≡ length new

-- the lowest delay of the old sheet whose label a lower one bears; where there is none and the
-- slice is as long as the new sheet, the delays there take those of the old one
pub record ValuesCarried (old : List ℕ) (n : ℕ) (new : List ℕ) (m : ℕ) (before : List ℕ) (twice : Std.Option ℕ) (after : List ℕ) : Type 0 where
  pub answered : found twice ≡ lowest (label_twice old) n
  pub taken : found twice ≡ none → length before ≡ length new → after ≡ put_all put_word (taken_below old new m) before
