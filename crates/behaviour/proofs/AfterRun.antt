-- The sheet after a run of an accepted sheet, under every lawful rule for an undecided IF: it reads as the term after the run,
-- differs from the first in delay leaves alone, and is accepted with the same type.
-- Assumes nothing.
use Prim.Native.Nat.{ℕ}
use mathlib.Core.List.{List, []}
use mathlib.Core.Path.{◌≡◌}
use Rattle.verdict.specs.Verdict.{verdict}
use Rattle.answers.specs.Answers.{Accepted}
use Rattle.meaning.specs.Values.{no_values, AllOf}
use Rattle.meaning.specs.RuleLaws.{Lawful}
use Rattle.meaning.specs.Run.{after}
use Rattle.meaning.proofs.NextTyped.{after-typed, After-frame}
use Rattle.behaviour.specs.Terms.{circuit_term}
use Rattle.behaviour.specs.Writable.{Writable}
use Rattle.behaviour.specs.Afterwards.{OnlyDelays}
use Rattle.stimulus.specs.Stimulus.{input_type}
use Rattle.behaviour.specs.Run.{sheet_after}
use Rattle.behaviour.proofs.Terms.{circuit-typed}
use Rattle.behaviour.proofs.Sheets.{write-only-delays, write_read, write-accepted}
use Rattle.behaviour.proofs.Run.{run-sheet}

module _
    {undecided : List ℕ → List ℕ → List ℕ}
    (law : Lawful undecided)
    {s : List ℕ}
    {t : ℕ}
    (v : verdict s ≡ Accepted t)
    {is : List (List ℕ)}
    (given : AllOf (input_type s) is)
  where
    run-writable : Writable s t (after undecided [] (circuit_term s) is)
    run-writable = record {
      frame = After-frame undecided [] (circuit_term s) is;
      typed = after-typed law (circuit-typed s t v) no_values given;
    }

    pub run-only-delays : OnlyDelays s (sheet_after undecided s is)
    run-only-delays =
        rw (run-sheet law s v given)
        (write-only-delays s (after undecided [] (circuit_term s) is) run-writable.frame)

-- no signature here determines the sheet
module _
    {undecided : List ℕ → List ℕ → List ℕ}
    (law : Lawful undecided)
    (s : List ℕ)
    {t : ℕ}
    (v : verdict s ≡ Accepted t)
    {is : List (List ℕ)}
    (given : AllOf (input_type s) is)
  where
    pub run-read : circuit_term (sheet_after undecided s is) ≡ after undecided [] (circuit_term s) is
    run-read =
        rw (run-sheet law s v given) (write_read s v (run-writable law v given))

    pub run-accepted : verdict (sheet_after undecided s is) ≡ verdict s
    run-accepted =
        rw (run-sheet law s v given) (write-accepted s v (run-writable law v given))
