-- Code 1 (docs/SHEETS.md, "Codes": "the sheet has fewer than 12 bytes, more than 49,152, or ends within a record"). A sheet of zeros
-- that passes the length is refused for its header.
use Rattle.std.specs.Prelude.{List, [], ◌∷◌, ◌++◌, replicate}
use Rattle.records.specs.SheetOf.{words, sheet_of}
use Rattle.answers.specs.Answers.{WrongLength, WrongHeader}
use Rattle.verdict_table.specs.Rows.{VerdictRow, bytes_give}

abbrev pub length_rows : List VerdictRow
length_rows =
    bytes_give "no bytes" [] WrongLength
    ∷ bytes_give "11 bytes" (replicate 11 0) WrongLength
    ∷ bytes_give "12 bytes pass the length" (replicate 12 0) WrongHeader
    ∷ bytes_give "a byte after the last record"
    (sheet_of (words 1 1 1 2 3 0 ∷ words 16 0 2 0 0 0 ∷ words 33 0 0 0 0 0 ∷ []) ++ (0 ∷ []))
    WrongLength
    ∷ bytes_give "49,152 bytes pass the length" (replicate 49152 0) WrongHeader
    ∷ bytes_give "49,164 bytes" (replicate 49164 0) WrongLength
    ∷ []
