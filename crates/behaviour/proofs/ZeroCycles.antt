-- A run of no cycles: the empty stimulus is whole, has no byte that is wrong and no cycle, so what is left are the lengths of the lent
-- slices; and the sheet after no cycles is the sheet. Assumes nothing.
use Prim.Native.Nat.{ℕ, zero, suc, ◌*◌, ◌/◌, ◌%◌}
use mathlib.Core.Bool.{false, not}
use mathlib.Core.List.{List, []}
use mathlib.Core.Path.{◌≡◌, refl, sym, ap, ◌∙◌}
use mathlib.Core.Logic.{◌≢◌}
use native.Mathlib.Omega.{arith}
use native.Mathlib.Nat.{zero-div, zero-mod, zero-mul}
use borrow.Author.Tests.{eq-eqb, ne_eqb}
use lib.Dec.{eqb}
use lib.ListN.{length}
use Rattle.picoella.specs.Language.{leaves}
use Rattle.records.specs.Trees.{type_at}
use Rattle.answers.specs.Answers.{first_applying}
use Rattle.answers.specs.Answers.{Done, Refused}
use Rattle.verdict.specs.Verdict.{verdict}
use Rattle.answers.specs.Answers.{Accepted}
use Rattle.stimulus.specs.Stimulus.{input_leaves, cycle_count, pieces, cycles, wrong_stimulus, stimulus_checks}
use Rattle.behaviour.specs.Run.{output_needed, answer, final_out, final_next}
use Rattle.behaviour.specs.Afterwards.{WellFormed}
use Rattle.behaviour.specs.Promises.{RunsNone, ZeroCycles}
use Rattle.behaviour.proofs.Afterwards.{answer-done}
use Rattle.behaviour.proofs.Answers.{output-refused, next-refused}

module _ (s : List ℕ) where
  no-cycles : cycle_count s [] ≡ 0
  no-cycles = zero-div (input_leaves s)

  whole : wrong_stimulus s [] ≡ false
  unfolding wrong_stimulus
  whole = rw (zero-mod (input_leaves s)) refl

  none-cut : cycles s [] ≡ []
  unfolding cycles
  none-cut = rw no-cycles refl

  stimulus-done : first_applying (stimulus_checks s []) (Done (cycle_count s [])) ≡ Done (cycle_count s [])
  stimulus-done = rw whole refl

  module _ {t : ℕ} (v : verdict s ≡ Accepted t) where
    needed : output_needed s t [] ≡ 0
    needed = rw no-cycles (zero-mul (leaves (type_at s t)))

    formed : (next : List ℕ) → length next ≡ length s → WellFormed s [] [] next t
    formed next e = record { accepted = v; whole = whole; fitting = refl; room = sym needed; long = e }

    answered : (next : List ℕ) → length next ≡ length s → answer s [] [] next ≡ Done 0
    answered next e = answer-done (formed next e) ∙ ap Done no-cycles

    runs_none : RunsNone s
    unfolding final_out final_next
    runs_none =
        record {
          done = λ next e. (answered next e, rw (answered next e, none-cut) refl, rw (answered next e, none-cut) refl);
          some_output = λ out next f.
              output-refused s [] out next v stimulus-done (λ e. f (e ∙ needed)) ∙ ap (Refused 10) needed;
          wrong_next = λ next f. next-refused s [] [] next v stimulus-done (sym needed) f;
        }

pub zero_cycles : ZeroCycles
zero_cycles s t v = runs_none s v
