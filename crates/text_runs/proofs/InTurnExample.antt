-- Two calls in turn, by computation: T as a text, its stimulus 1 2 1 in two pieces. The first call gives
-- the first output of the run over the whole stimulus, and the second, on the next sheet, the others.
-- Assumes nothing.
use Prim.Native.Nat.{ℕ}
use mathlib.Core.Path.{◌≡◌, refl, sym}
use mathlib.Core.List.{List, [], ◌∷◌}
use lib.ListN.{length, replicate}
use Rattle.records.specs.Words.{word, count}
use Rattle.records.specs.Kinds.{row_of, kind_of, ask_of}
use Rattle.records.specs.Says.{well_said, namings}
use Rattle.records.specs.Trees.{type_within, type_at, pair_of, chain_within, chain, alternatives_within, alternatives, tree_within, tree_at, circuit}
use Rattle.structure.specs.Rules.{ancestry_within, ancestry, depth, nesting, wrong_length, wrong_header, wrong_record, wrong_naming, wrong_type, too_deep}
use Rattle.verdict.specs.Verdict.{by_types, by_records, verdict}
use Rattle.meaning.specs.Undecided.{undecided_rule}
use Rattle.meaning.specs.Evaluation.{eval, next}
use Rattle.behaviour.specs.Terms.{circuit_term}
use Rattle.behaviour.specs.Sheets.{write}
use Rattle.behaviour.specs.Cycle.{output_by, after_by}
use Rattle.stimulus.specs.Stimulus.{cycles, wrong_stimulus, wrong_byte}
use Rattle.behaviour.specs.Run.{by_slices, answer, final_out, final_next}
use Rattle.behaviour.specs.Afterwards.{WellFormed}
use Rattle.text_meaning.specs.Promises.{CallsInTurn, no_call_left, one_call}
use Rattle.text_table.specs.SheetRows.{sheet_rows}
use Rattle.text_runs.specs.RunRows.{sheet_at}

abbrev started : List ℕ
started = sheet_at 1 sheet_rows

abbrev room : List ℕ
room = replicate (length started) 0

abbrev later : List ℕ
later = final_next started (1 ∷ []) (0 ∷ []) room

first-formed : WellFormed started (1 ∷ []) (0 ∷ []) room 1
unfolding verdict by_records by_types wrong_length wrong_header wrong_record wrong_naming wrong_type too_deep depth nesting ancestry ancestry_within circuit tree_at tree_within alternatives alternatives_within chain chain_within pair_of type_at type_within namings well_said ask_of kind_of row_of word count wrong_stimulus wrong_byte
first-formed = record { accepted = refl; whole = refl; fitting = refl; room = refl; long = refl }

first_out : final_out started (1 ∷ []) (0 ∷ []) room ≡ 2 ∷ []
unfolding verdict by_records by_types wrong_length wrong_header wrong_record wrong_naming wrong_type too_deep depth nesting ancestry ancestry_within circuit tree_at tree_within alternatives alternatives_within chain chain_within pair_of type_at type_within namings well_said ask_of kind_of row_of word count eval next undecided_rule circuit_term write output_by after_by cycles wrong_stimulus wrong_byte by_slices answer final_out final_next
first_out = refl

second-formed : WellFormed later (2 ∷ 1 ∷ []) (0 ∷ 0 ∷ []) room 1
unfolding verdict by_records by_types wrong_length wrong_header wrong_record wrong_naming wrong_type too_deep depth nesting ancestry ancestry_within circuit tree_at tree_within alternatives alternatives_within chain chain_within pair_of type_at type_within namings well_said ask_of kind_of row_of word count eval next undecided_rule circuit_term write output_by after_by cycles wrong_stimulus wrong_byte by_slices answer final_out final_next
second-formed = record { accepted = refl; whole = refl; fitting = refl; room = refl; long = refl }

second-out : final_out later (2 ∷ 1 ∷ []) (0 ∷ 0 ∷ []) room ≡ 1 ∷ 1 ∷ []
unfolding verdict by_records by_types wrong_length wrong_header wrong_record wrong_naming wrong_type too_deep depth nesting ancestry ancestry_within circuit tree_at tree_within alternatives alternatives_within chain chain_within pair_of type_at type_within namings well_said ask_of kind_of row_of word count eval next undecided_rule circuit_term write output_by after_by cycles wrong_stimulus wrong_byte by_slices answer final_out final_next
second-out = refl

in-turn : CallsInTurn 1 started ((1 ∷ []) ∷ (2 ∷ 1 ∷ []) ∷ []) ((2 ∷ []) ∷ (1 ∷ 1 ∷ []) ∷ [])
in-turn =
    one_call first-formed (record { result_is = refl; out_is = sym first_out; next_is = refl })
    (one_call second-formed (record { result_is = refl; out_is = sym second-out; next_is = refl }) no_call_left)
