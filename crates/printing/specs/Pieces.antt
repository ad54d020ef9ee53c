-- What a program prints of a call's answer, the line of a file that cannot be opened (docs/SHEETS.md, "Listing"), and text in pieces, each
-- as much as a buffer surely holds: what is left from a cycle on, and what a piece gives. Pieces laid end to end, each from where the
-- one before stopped, to the last.
use Rattle.std.specs.Prelude.{ℕ, zero, suc, ◌*◌, ◌-◌, ◌/◌, ◌≤◌, ◌<◌, ◌≡◌, Bool, true, false, List, [], ◌++◌, length, take, drop}
use Rattle.listing.specs.Lines.{cycle_lines, cycles_line, listing, refused_line}

-- the listing of outputs of w leaves each, or where the code is not 0 the line of a refusal
abbrev pub told_text : (code place t w : ℕ) (outputs : List ℕ) → List ℕ
told_text zero p t w outputs = listing t w outputs
told_text (suc c) p t w outputs = refused_line (suc c) p

-- 12: "a file that the program cannot open", at its place among the program's files
abbrev pub no_file_line : (place : ℕ) → List ℕ
no_file_line place = refused_line 12 place

-- that place: 1 for the sheet's, which "is tried first", 2 for the stimulus's, and 3 for the
-- record's, where a program reads one
abbrev pub unopened_file : (sheet_opened stimulus_opened : Bool) → ℕ
unopened_file false b = 1
unopened_file true false = 2
unopened_file true true = 3

-- the lines from cycle k on, of outputs of w leaves each, and the last line
abbrev pub text_from : (w k : ℕ) (outputs : List ℕ) → List ℕ
text_from w k outputs =
    cycle_lines w (length outputs / w - k) k (drop (k * w) outputs) ++ cycles_line (length outputs / w)

-- what is left after a piece: nothing after the last
abbrev pub text_left : (last : Bool) (w k : ℕ) (outputs : List ℕ) → List ℕ
text_left true w k outputs = []
text_left false w k outputs = text_from w k outputs

-- a piece of the text `before`: the buffer's bytes up to `end`, at least one
pub record Pieced (before : List ℕ) (w : ℕ) (outputs after : List ℕ) (end k first : ℕ) (last : Bool) : Type 0 where
  pub text : before ≡ take end after ++ text_left last w k outputs
  pub more : 0 < end
  pub room : end ≤ length after
  pub start : first ≡ k * w
  pub inside : first ≤ length outputs

pub data PiecesLaid (w : ℕ) (outputs : List ℕ) : (before text : List ℕ) → Type 0 where
  last_one :
      {before : List ℕ} (buffer : List ℕ) (end k first : ℕ) → Pieced before w outputs buffer end k first true
      → PiecesLaid w outputs before (take end buffer)
  then_more :
      {before text : List ℕ} (buffer : List ℕ) (end k first : ℕ) → Pieced before w outputs buffer end k first false
      → PiecesLaid w outputs (text_from w k outputs) text → PiecesLaid w outputs before (take end buffer ++ text)
