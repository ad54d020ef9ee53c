-- The rows of the table of verdicts for code 7: sheets to which none of the codes 1 to 6 applies, with what judging their circuit
-- gives by docs/SHEETS.md. Each row that has a fault breaks one rule, which its name says, or shows which of two is judged first;
-- beside it stand sheets that just pass. That the rows hold is shown where judging is defined, `Judging`.
use Prim.Native.String.{String}
use Rattle.std.specs.Prelude.{List}
use Rattle.records.specs.SheetOf.{Record}
use Rattle.typing.specs.Outcomes.{Outcome}

pub data TypingRow : Type 0 where
  judged_to : (name : String) → List Record → Outcome → TypingRow
