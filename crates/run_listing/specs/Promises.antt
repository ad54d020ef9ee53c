-- What is promised of what the program prints; one term of each stands in `proofs/Kept.antt`.
use Rattle.std.specs.Prelude.{ℕ, ◌≡◌, List, [], ◌∷◌, ◌++◌, length, take}
use Rattle.answers.specs.Answers.{Done}
use Rattle.answers.specs.Answers.{Accepted}
use Rattle.verdict.specs.Verdict.{verdict}
use Rattle.behaviour.specs.Bench.{toggle}
use Rattle.listing.specs.Lines.{ascii, type_line}
use Rattle.printing.specs.Pieces.{told_text, PiecesLaid}
use Rattle.run_listing.specs.Printout.{run_answer, run_sheet, printed, RunTold}

-- Whatever was told of a sheet and a stimulus, the pieces made from it, laid end to end from the first to the last, are the listing
-- for the run's answer, or the one line of a refusal.
abbrev pub PiecesArePrinted : Type 0
PiecesArePrinted =
    (s stim : List ℕ) (c p t w many : ℕ) (out' next' text : List ℕ) → RunTold s stim c p t w many out' next'
    → PiecesLaid w (take many out') (told_text c p t w (take many out')) text → text ≡ printed s stim

-- So the sheet T is listed (docs/SHEETS.md, "Sheet T").
abbrev pub ToggleListed : Type 0
ToggleListed =
    (printed toggle (1 ∷ 2 ∷ 1 ∷ []) ≡ ascii "type 1\n0: 2\n1: 1\n2: 1\ncycles 3\n")
    × (printed toggle (1 ∷ 3 ∷ []) ≡ ascii "refused 9 at 1\n")
    × (printed toggle [] ≡ ascii "type 1\ncycles 0\n")

-- An empty stimulus, for every accepted sheet: the answer is 0 with no cycles, what is printed is
-- the type line and `cycles 0`, and what next.bin receives, whatever was told, is the sheet.
pub record PrintsNone (s : List ℕ) (t : ℕ) : Type 0 where
  pub answered : run_answer s [] ≡ Done 0
  pub text : printed s [] ≡ type_line t ++ ascii "cycles 0\n"
  pub next_sheet : run_sheet s [] ≡ s
  pub next_told : (c p t' w many : ℕ) (out' next' : List ℕ) → RunTold s [] c p t' w many out' next'
      → (c ≡ 0) × (take (length s) next' ≡ s)

abbrev pub EmptyListed : Type 0
EmptyListed = (s : List ℕ) (t : ℕ) → verdict s ≡ Accepted t → PrintsNone s t

-- all of them
pub record PrintoutPromises : Type 0 where
  pub pieces_are_printed : PiecesArePrinted
  pub toggle_listed : ToggleListed
  pub empty_listed : EmptyListed
