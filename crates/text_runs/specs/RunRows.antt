-- Texts of the table of sheets run on bytes: T as a text, with the outputs of T and other bytes; and 001's parity checker: "It returns hi at time
-- t + 1 if there have been an even number of hi's on the input signal input during the closed time interval [0, t]. At time zero it
-- outputs hi." Where an input was undefined, so are the outputs after it. Outputs were found by hand.
use Rattle.std.specs.Prelude.{ℕ, zero, suc, ◌≡◌, List, [], ◌∷◌, length, replicate}
use Rattle.records.specs.SheetOf.{sheet_of}
use Rattle.answers.specs.Answers.{Done}
use Rattle.verdict.specs.Verdict.{verdict}
use Rattle.answers.specs.Answers.{Accepted}
use Rattle.behaviour.specs.Run.{answer, final_out}
use Rattle.translator.specs.Translated.{Translated}
use Rattle.text_table.specs.SheetRows.{SheetRow, sheet_row, sheet_rows}

-- the row of the table of sheets by its number, the stimulus, the outputs of one byte a cycle
pub data RunRow : Type 0 where
  run_row : (number : ℕ) (stimulus outputs : List ℕ) → RunRow

abbrev pub run_rows : List RunRow
run_rows =
    -- the parity checker
    run_row 0 (1 ∷ 1 ∷ 2 ∷ 1 ∷ []) (1 ∷ 2 ∷ 1 ∷ 1 ∷ [])
    ∷ run_row 0 (1 ∷ 0 ∷ 1 ∷ 2 ∷ []) (1 ∷ 2 ∷ 0 ∷ 0 ∷ [])
    -- T
    ∷ run_row 1 (1 ∷ 2 ∷ 1 ∷ []) (2 ∷ 1 ∷ 1 ∷ [])
    ∷ []

abbrev pub text_at : ℕ → List SheetRow → List ℕ
text_at k [] = []
text_at zero (sheet_row bytes rs ∷ rows) = bytes
text_at (suc k) (sheet_row bytes rs ∷ rows) = text_at k rows

abbrev pub sheet_at : ℕ → List SheetRow → List ℕ
sheet_at k [] = []
sheet_at zero (sheet_row bytes rs ∷ rows) = sheet_of rs
sheet_at (suc k) (sheet_row bytes rs ∷ rows) = sheet_at k rows

-- the text is translated into a sheet that is accepted, whose run gives as many cycles as there are outputs, and these outputs
abbrev pub RanSo : (text sheet stimulus outputs : List ℕ) → Type 0
RanSo text s stim outs =
    Translated text (replicate (length s) 255) (Done (length s)) s
    × (verdict s ≡ Accepted 1)
    × (answer s stim (replicate (length outs) 0) (replicate (length s) 0) ≡ Done (length outs))
    × (final_out s stim (replicate (length outs) 0) (replicate (length s) 0) ≡ outs)

abbrev pub AllRanSo : List RunRow → Type 0
AllRanSo [] = Unit {0}
AllRanSo (run_row k stim outs ∷ rows) = RanSo (text_at k sheet_rows) (sheet_at k sheet_rows) stim outs × AllRanSo rows

abbrev pub TextsRun : Type 0
TextsRun = AllRanSo run_rows
