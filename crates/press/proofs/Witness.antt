-- The AND of two bits and the sheet T, by computation. What the functions ask is not contradictory:
-- the sheet T on 1 meets it.
-- Assumes nothing.
use mathlib.Core.Path.{refl}
use mathlib.Core.List.{[], ◌∷◌}
use Rattle.picoella.specs.Language.{bounds}
use Rattle.records.specs.Words.{word, count}
use Rattle.records.specs.Kinds.{row_of, kind_of, ask_of}
use Rattle.records.specs.Says.{well_said, namings}
use Rattle.records.specs.Trees.{type_within, type_at, pair_of, chain_within, chain, alternatives_within, alternatives, tree_within, tree_at, circuit}
use Rattle.structure.specs.Rules.{ancestry_within, ancestry, depth, nesting, wrong_length, wrong_header, wrong_record, wrong_naming, wrong_type, too_deep}
use Rattle.meaning.specs.Undecided.{undecided_rule}
use Rattle.meaning.specs.Evaluation.{eval}
use Rattle.behaviour.specs.Terms.{circuit_term}
use Rattle.behaviour.specs.Cycle.{output_by}
use Rattle.probe.specs.OutputLeaf.{leaf_for}
use Rattle.stimulus.specs.Stimulus.{wrong_stimulus, wrong_byte}
use Rattle.stimulus.specs.OneCycle.{not_one_cycle}
use Rattle.press.specs.Press.{constructor_for, leaf_found, one_press, press_answer, final_press}
use Rattle.press.specs.Promises.{PressExamples}
use Rattle.stimulus.specs.Stimulus.{input_type}
use Rattle.stimulus.proofs.OneCycle.{one-cycle-typed}
use Rattle.behaviour.specs.Bench.{toggle}
use Rattle.preview.proofs.Witness.{toggle-accepted}
use Rattle.press.specs.Pressing.{Pressing, PressingAll}

pub pressed-examples : PressExamples
unfolding final_press press_answer one_press leaf_found constructor_for leaf_for not_one_cycle wrong_stimulus wrong_byte wrong_length wrong_header wrong_record wrong_naming wrong_type too_deep depth nesting ancestry ancestry_within circuit tree_at tree_within alternatives alternatives_within chain chain_within pair_of type_at type_within namings well_said ask_of kind_of row_of word count eval undecided_rule circuit_term output_by
pressed-examples = (refl, refl, refl, refl, refl, refl, refl)

toggle-pressing-all : PressingAll toggle (bounds (input_type toggle)) (1 ∷ [])
unfolding not_one_cycle wrong_stimulus wrong_byte type_at type_within kind_of row_of word
toggle-pressing-all =
    record {
      type = 1;
      accepted = toggle-accepted;
      counts_are = refl;
      typed = one-cycle-typed toggle (1 ∷ []) (refl, (refl, tt));
    }

toggle-pressing : Pressing toggle 0 (1 ∷ []) 2
unfolding leaf_for circuit tree_at tree_within alternatives alternatives_within chain chain_within pair_of type_at type_within namings well_said ask_of kind_of row_of word count eval undecided_rule circuit_term output_by
toggle-pressing = record { typed = toggle-pressing-all.typed; value = refl }
