-- One term of every promise: the rows by computation.
-- Assumes nothing.
use Prim.Native.Nat.{ℕ}
use mathlib.Core.Path.{◌≡◌, refl, ap, subst, ◌∙◌}
use mathlib.Core.List.{List, [], ◌∷◌}
use lib.ListN.{length, replicate, length-replicate}
use Rattle.records.specs.SheetOf.{Record, sheet_of}
use Rattle.answers.specs.Answers.{Answer}
use Rattle.answers.specs.Answers.{Done}
use Rattle.grammar.specs.Walk.{first_illegal}
use Rattle.translator.specs.Translated.{Translated}
use Rattle.text_table.specs.Computed.{computed_answer, computed_records}
use Rattle.text_table.specs.Rows.{TextRow, text_row, text_rows}
use Rattle.text_table.specs.SheetRows.{SheetRow, sheet_row, sheet_rows}
use Rattle.text_table.specs.Promises.{AllAnswered, AllWritten, RowsAnswered, TextTablePromises}
use Rattle.text_table.proofs.Computes.{computes, sheet-computed}

-- the answers of the rows, computed, and as they stand there
abbrev computed_of : List TextRow → List Answer
computed_of [] = []
computed_of (text_row bytes room a ∷ rows) = computed_answer bytes room ∷ computed_of rows

abbrev written_there : List TextRow → List Answer
written_there [] = []
written_there (text_row bytes room a ∷ rows) = a ∷ written_there rows

all-answered : (rows : List TextRow) → computed_of rows ≡ written_there rows → AllAnswered rows
all-answered [] h = tt
all-answered (text_row bytes room a ∷ rows) h =
    let c = computes bytes (replicate room 255) in
    let first : computed_answer bytes room ≡ a = cc in
    let others : computed_of rows ≡ written_there rows = cc in (
      (c.0, subst (λ x. Translated bytes (replicate room 255) x c.0) (ap (computed_answer bytes) (length-replicate room 255) ∙ first) c.1),
      all-answered rows others,
    )

rows-computed : computed_of text_rows ≡ written_there text_rows
unfolding first_illegal
rows-computed = refl

rows_answered : RowsAnswered
rows_answered = all-answered text_rows rows-computed

-- the records of the sheets, computed, and as they stand there
abbrev records_of : List SheetRow → List (List Record)
records_of [] = []
records_of (sheet_row bytes rs ∷ rows) = computed_records bytes ∷ records_of rows

abbrev records_there : List SheetRow → List (List Record)
records_there [] = []
records_there (sheet_row bytes rs ∷ rows) = rs ∷ records_there rows

abbrev answers_of : List SheetRow → List Answer
answers_of [] = []
answers_of (sheet_row bytes rs ∷ rows) = computed_answer bytes (length (sheet_of rs)) ∷ answers_of rows

abbrev lengths_there : List SheetRow → List Answer
lengths_there [] = []
lengths_there (sheet_row bytes rs ∷ rows) = Done (length (sheet_of rs)) ∷ lengths_there rows

all-written : (rows : List SheetRow) → answers_of rows ≡ lengths_there rows → records_of rows ≡ records_there rows → AllWritten rows
all-written [] h k = tt
all-written (sheet_row bytes rs ∷ rows) h k =
    let a : computed_answer bytes (length (sheet_of rs)) ≡ Done (length (sheet_of rs)) = cc in
    let b : computed_records bytes ≡ rs = cc in
    let c : answers_of rows ≡ lengths_there rows = cc in
    let d : records_of rows ≡ records_there rows = cc in
    (sheet-computed bytes rs a b, all-written rows c d)

lengths-computed : answers_of sheet_rows ≡ lengths_there sheet_rows
unfolding first_illegal
lengths-computed = refl

records-computed : records_of sheet_rows ≡ records_there sheet_rows
records-computed = refl

pub kept : TextTablePromises
kept = record { rows_answered = rows_answered; rows_written = all-written sheet_rows lengths-computed records-computed }
