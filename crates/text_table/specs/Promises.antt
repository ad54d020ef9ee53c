-- What is promised of the table: each row of it holds of the translation. One term of each promise stands in `proofs/Kept.antt`.
use Rattle.std.specs.Prelude.{ℕ, ◌≡◌, List, [], ◌∷◌, length, take, replicate}
use Rattle.records.specs.SheetOf.{sheet_of}
use Rattle.answers.specs.Answers.{Answer}
use Rattle.answers.specs.Answers.{Done}
use Rattle.translator.specs.Translated.{Translated}
use Rattle.text_table.specs.Rows.{TextRow, text_row, text_rows}
use Rattle.text_table.specs.SheetRows.{SheetRow, sheet_row, sheet_rows}

-- the text is answered so, into a slice of so many bytes 255
abbrev pub AllAnswered : List TextRow → Type 0
AllAnswered [] = Unit {0}
AllAnswered (text_row bytes room a ∷ rows) = ((exit : List ℕ) × Translated bytes (replicate room 255) a exit) × AllAnswered rows

-- the text is translated into a sheet of these records
abbrev pub AllWritten : List SheetRow → Type 0
AllWritten [] = Unit {0}
AllWritten (sheet_row bytes rs ∷ rows) =
    Translated bytes (replicate (length (sheet_of rs)) 255) (Done (length (sheet_of rs))) (sheet_of rs) × AllWritten rows

abbrev pub RowsAnswered : Type 0
RowsAnswered = AllAnswered text_rows

abbrev pub RowsWritten : Type 0
RowsWritten = AllWritten sheet_rows

pub record TextTablePromises : Type 0 where
  pub rows_answered : RowsAnswered
  pub rows_written : RowsWritten
