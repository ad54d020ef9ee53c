-- The table of verdicts: sheets with the verdict that docs/SHEETS.md gives each of them. Each row that is refused breaks one rule,
-- which its name says, or shows which of two goes first; beside it stand sheets that just pass. The rows for code 7 stand in
-- `typing`, beside the rules that they try.
use Rattle.std.specs.Prelude.{ℕ, ◌≡◌, List, map}
use Prim.Native.String.{String}
use Rattle.records.specs.SheetOf.{Record, sheet_of}
use Rattle.typing.specs.Rows.{TypingRow, judged_to}
use Rattle.typing.specs.Outcomes.{Sound, Fault}
use Rattle.verdict.specs.Verdict.{verdict}
use Rattle.answers.specs.Answers.{Verdict}
use Rattle.answers.specs.Answers.{Accepted, IllTyped}

pub data VerdictRow : Type 0 where
  gives : (name : String) → List Record → Verdict → VerdictRow
  bytes_give : (name : String) → List ℕ → Verdict → VerdictRow

-- a row for code 7 as a row of verdicts
abbrev pub by_typing : TypingRow → VerdictRow
by_typing (judged_to name rs (Sound t)) = gives name rs (Accepted t)
by_typing (judged_to name rs (Fault r)) = gives name rs (IllTyped r)

-- the verdict in a row, and that on its sheet
abbrev pub named_verdict : VerdictRow → Verdict
named_verdict (gives name rs v) = v
named_verdict (bytes_give name s v) = v

abbrev pub found_verdict : VerdictRow → Verdict
found_verdict (gives name rs v) = verdict (sheet_of rs)
found_verdict (bytes_give name s v) = verdict s

-- they are the same in every row
abbrev pub VerdictsHold : List VerdictRow → Type 0
VerdictsHold rows = map found_verdict rows ≡ map named_verdict rows
