-- What the functions that write records ask and give. The sheet is written from its last record to its first: from the record at the cursor on
-- it holds the records written, and after them what stood there before. That holds if the records fit; the cursor, the stack and the word
-- next are those of the emission in any case.
use Rattle.std.specs.Prelude.{ℕ, suc, ◌+◌, ◌-◌, ◌*◌, ◌≤◌, ◌<◌, ◌≡◌, List, [], ◌∷◌, ◌++◌, length, drop, get_or, replicate}
use Rattle.grammar.specs.Legal.{text_bytes}
use Rattle.records.specs.Limits.{most_records}
use Rattle.grammar.specs.Sizes.{text_table}
use Rattle.records.specs.SheetOf.{Record, words, sheet_of}
use Rattle.records.specs.Kinded.{kind_number}
use Rattle.records.specs.declared.kinds.Kind.{Kind}
use Rattle.instructions.specs.Instruction.{Instruction}
use Rattle.instructions.specs.Assembly.{DeclaredType}
use Rattle.instructions.specs.Emission.{Emission, emission, written_of, cursor_of, zeros_written, zeros_next, emit_all, types_written, records_written}
use Rattle.emitting.specs.declared.writer.Writer.{Writer}

-- the record of a kind's number and the five words after it
abbrev pub record_numbered : ℕ → List ℕ → Record
record_numbered kind w = words kind (get_or w 0 0) (get_or w 1 0) (get_or w 2 0) (get_or w 3 0) (get_or w 4 0)

-- the record of a kind and the five words after its own
abbrev pub record_of : Kind → List ℕ → Record
record_of kind w = record_numbered (kind_number kind) w

-- a record put before the one at the cursor
pub record RecordPut (before after : List ℕ) (cursor : ℕ) (w : Record) (r : ℕ) : Type 0 where
  pub one_less : r ≡ cursor - 1
  pub put_there : 0 < cursor → drop (12 * r) after ≡ sheet_of (w ∷ []) ++ drop (12 * cursor) before
  pub as_long : length after ≡ length before

-- what the functions that write records ask: room for those before the cursor, and for one slot more
pub record Advancing (sheet : List ℕ) (w : Writer) : Type 0 where
  pub sheet_long : 12 * w.cursor ≤ length sheet
  pub room : length w.stack < text_table

-- what one gives: from records R and a cursor on, the emission F
pub record Advanced (R : List Record) (c : ℕ) (F : Emission) (before after : List ℕ) (w : Writer) : Type 0 where
  pub state : F ≡ emission (written_of F) w.cursor w.stack w.next
  pub laid_out : (tail : List ℕ) → drop (12 * c) before ≡ sheet_of R ++ tail → length (written_of F) ≤ c + length R
      → drop (12 * w.cursor) after ≡ sheet_of (written_of F) ++ tail
  pub as_long : length after ≡ length before

-- from a writer to another, onto whatever records, with at most one slot more
abbrev pub InstructionWritten : (F : List Record → Emission) (before after : List ℕ) (w w' : Writer) → Type 0
InstructionWritten F before after w w' = ((R : List Record) → Advanced R w.cursor (F R) before after w') × (length w'.stack ≤ length w.stack + 1)

-- the emission of a writer, onto records
abbrev pub standing : Writer → List Record → Emission
standing w R = emission R w.cursor w.stack w.next

-- the record of an expression, by its kind's number and four words
abbrev pub expression_numbered : ℕ → List ℕ → Record
expression_numbered kind w = words kind 0 (get_or w 0 0) (get_or w 1 0) (get_or w 2 0) (get_or w 3 0)

-- and by its kind
abbrev pub expression_record : Kind → List ℕ → Record
expression_record kind w = expression_numbered (kind_number kind) w

-- so many undefined leaves
pub record ZerosPut (count : ℕ) (before after : List ℕ) (c x cursor next : ℕ) : Type 0 where
  pub cursor_moved : cursor ≡ c - count
  pub next_told : next ≡ zeros_next count c x
  pub laid_out : (R : List Record) (tail : List ℕ) → drop (12 * c) before ≡ sheet_of R ++ tail → count ≤ c
      → drop (12 * cursor) after ≡ sheet_of (zeros_written count R c x) ++ tail
  pub as_long : length after ≡ length before

-- the emission of instructions, the last first, for a sheet of so many records
abbrev pub emitted_from : List DeclaredType → List Instruction → (records : ℕ) → Emission
emitted_from T C records = emit_all T (emission [] records [] 0) C

-- the records of instructions, if they fit in front of the tail
pub record CodeWritten (T : List DeclaredType) (C : List Instruction) (records : ℕ) (before after : List ℕ) : Type 0 where
  pub laid_out : length (written_of (emitted_from T C records)) + cursor_of (emitted_from T C records) ≡ records
      → drop (12 * cursor_of (emitted_from T C records)) after ≡ sheet_of (written_of (emitted_from T C records)) ++ drop (12 * records) before
  pub as_long : length after ≡ length before

-- the records of the types before others
pub record TypesPut (T : List DeclaredType) (before after : List ℕ) : Type 0 where
  pub laid_out : (R : List Record) (tail : List ℕ) → drop (12 * (length T + 1)) before ≡ sheet_of R ++ tail
      → drop 12 after ≡ sheet_of (types_written T 0 R) ++ tail
  pub as_long : length after ≡ length before

-- what `write_sheet` asks, and gives
pub record Emitting (T : List DeclaredType) (C : List Instruction) (records : ℕ) (sheet : List ℕ) : Type 0 where
  pub few : records ≤ most_records
  pub sheet_long : 12 * records ≤ length sheet
  pub code_few : length C ≤ text_bytes
  pub types_few : length T < records
  pub ends : cursor_of (emitted_from T C records) ≡ suc (length T)
  pub fits : length (written_of (emitted_from T C records)) + suc (length T) ≡ records

pub record Emitted (T : List DeclaredType) (E : Emission) (input records : ℕ) (before after : List ℕ) : Type 0 where
  pub written_out : after ≡ sheet_of (records_written T input (written_of E)) ++ replicate (length before - 12 * records) 0
