-- The preview of the sheet T of docs/SHEETS.md, by computation: on 1 its delay's value, 2. What the functions ask is not
-- contradictory: T is accepted, there is a table for it, and its one cycle meets what is asked where it is shown.
-- Assumes nothing.
use Prim.Native.Nat.{ℕ, ◌*◌}
use mathlib.Core.List.{List, [], ◌∷◌}
use mathlib.Core.Path.{◌≡◌, refl}
use lib.ListN.{length, replicate}
use Rattle.records.specs.Words.{word, count}
use Rattle.records.specs.Kinds.{row_of, kind_of, ask_of}
use Rattle.records.specs.Says.{well_said, namings}
use Rattle.records.specs.Trees.{type_within, type_at, pair_of, chain_within, chain, alternatives_within, alternatives, tree_within, tree_at, circuit}
use Rattle.structure.specs.Rules.{
  ancestry_within,
  ancestry,
  depth,
  nesting,
  wrong_length,
  wrong_header,
  wrong_record,
  wrong_naming,
  wrong_type,
  too_deep,
  Passes,
}
use Rattle.verdict.specs.Verdict.{by_types, by_records, verdict}
use Rattle.answers.specs.Answers.{Accepted}
use Rattle.accepted.specs.Accepting.{Accepting}
use Rattle.accepted.proofs.Small.{accepted-passes, accepted-records}
use Rattle.accepted.proofs.Requirements as Requirements
use Rattle.meaning.specs.Undecided.{undecided_rule}
use Rattle.meaning.specs.Evaluation.{eval, next}
use Rattle.stimulus.specs.Stimulus.{wrong_stimulus, wrong_byte}
use Rattle.stimulus.specs.OneCycle.{not_one_cycle}
use Rattle.stimulus.proofs.OneCycle.{one-cycle-typed}
use Rattle.behaviour.specs.Terms.{circuit_term}
use Rattle.behaviour.specs.Cycle.{output_by}
use Rattle.behaviour.specs.Bench.{toggle}
use Rattle.evaluator.proofs.Frames.{zeros-long}
use Rattle.stepper.specs.Cycling.{Cycling}
use Rattle.preview.specs.Preview.{preview_answer, final_preview}
use Rattle.preview.specs.Showing.{Showing}
use Rattle.preview.specs.Promises.{PreviewToggle}
use Rattle.preview.proofs.Showing.{shown-cycling}

pub shown-toggle : PreviewToggle
unfolding preview_answer final_preview not_one_cycle wrong_length wrong_header wrong_record wrong_naming wrong_type too_deep depth nesting ancestry ancestry_within circuit tree_at tree_within alternatives alternatives_within chain chain_within pair_of type_at type_within namings well_said ask_of kind_of row_of word count wrong_stimulus wrong_byte eval next undecided_rule circuit_term output_by
shown-toggle = (refl, refl, refl, refl, refl)

pub toggle-accepted : verdict toggle ≡ Accepted 1
unfolding verdict by_records by_types wrong_length wrong_header wrong_record wrong_naming wrong_type too_deep depth nesting ancestry ancestry_within circuit tree_at tree_within alternatives alternatives_within chain chain_within pair_of type_at type_within namings well_said ask_of kind_of row_of word count
toggle-accepted = refl

pub toggle-passes : Passes toggle
toggle-passes = accepted-passes toggle-accepted

pub toggle-full : length toggle ≡ 12 * count toggle
toggle-full = accepted-records toggle toggle-accepted

abbrev pub toggle_table : List ℕ
toggle_table = (Requirements.widths toggle-passes toggle-full).0

pub toggle-accepting : Accepting toggle (count toggle) toggle_table
toggle-accepting =
    record {
      sized = Requirements.sized toggle-passes toggle-full;
      type = 1;
      accepted = toggle-accepted;
      table = (Requirements.widths toggle-passes toggle-full).1;
    }

toggle-showing : Showing toggle (count toggle) toggle_table (1 ∷ []) (9 ∷ [])
unfolding not_one_cycle wrong_stimulus wrong_byte type_at type_within kind_of row_of word
toggle-showing =
    record {
      accepting = toggle-accepting;
      type = 1;
      accepted = toggle-accepted;
      typed = one-cycle-typed toggle (1 ∷ []) (refl, (refl, tt));
      room = refl;
    }

toggle-shown : Cycling toggle (count toggle) toggle_table (replicate 4096 0) (replicate 4096 0) (1 ∷ []) toggle (9 ∷ [])
toggle-shown = shown-cycling toggle-showing (replicate 4096 0) (replicate 4096 0) (zeros-long 4096) (zeros-long 4096)
