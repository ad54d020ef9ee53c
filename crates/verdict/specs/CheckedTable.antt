-- What the check does to a table that it is lent.
use Rattle.std.specs.Prelude.{ℕ, ◌≤◌, ◌<◌, ◌≡◌, Bool, true, false, List, length, get_or}
use Rattle.records.specs.Limits.{most_records}
use Rattle.picoella.specs.Language.{leaves}
use Rattle.records.specs.Words.{count}
use Rattle.records.specs.Kinds.{patterns}
use Rattle.records.specs.Says.{sort_at}
use Rattle.records.specs.Trees.{type_at, TypeRecord, tree_at}
use Rattle.typing.specs.ExpressionWidth.{width}
use Rattle.verdict.specs.Verdict.{verdict}
use Rattle.answers.specs.Answers.{Verdict}
use Rattle.answers.specs.Answers.{
  Accepted,
  WrongLength,
  WrongHeader,
  WrongRecord,
  WrongNaming,
  WrongType,
  TooDeep,
  IllTyped,
}
use Rattle.verdict.specs.Scopes.{Scope}
use Rattle.verdict.specs.Widths.{pattern_entry, has_entry, Widths}

-- `Widths` while the patterns are gone over from the last record to the first: those from m on have their entries, and those
-- below it none yet.
pub record PatternsFrom (s : List ℕ) (m : ℕ) (table : List ℕ) : Type 0 where
  pub long : length table ≡ most_records
  pub types : (t : ℕ) → TypeRecord s t → get_or table t 0 ≡ leaves (type_at s t)
  pub expressions : {q : ℕ} {Γ : List ℕ} → Scope s q Γ → get_or table q 0 ≡ width s Γ (tree_at s q)
  pub waiting : (p : ℕ) → p < m → sort_at s p ≡ patterns → get_or table p 0 ≡ 0
  pub patterns : (p : ℕ) → m ≤ p → p < count s → sort_at s p ≡ patterns → get_or table p 0 ≡ pattern_entry s p
  pub elsewhere : (r : ℕ) → r < most_records → (r < count s → has_entry (sort_at s r) ≡ false) → get_or table r 0 ≡ 0

-- What the check leaves in a lent table: an accepted sheet's widths, and on a refusal what was there.
abbrev pub accepts : Verdict → Bool
accepts (Accepted t) = true
accepts WrongLength = false
accepts WrongHeader = false
accepts (WrongRecord r) = false
accepts (WrongNaming r) = false
accepts (WrongType r) = false
accepts (TooDeep r) = false
accepts (IllTyped r) = false

pub record Checked (s : List ℕ) (answer : Verdict) (before after : List ℕ) : Type 0 where
  pub answered : answer ≡ verdict s
  pub refused : accepts answer ≡ false → after ≡ before
  pub accepted : accepts answer ≡ true → Widths s after
