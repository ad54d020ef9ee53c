-- The promises speak of some call: the sheet T of docs/SHEETS.md on 1 2 1, with slices of the right lengths, is well formed, by
-- computation; so demand 3 holds of it, its record 2 is a feedback, and it is a run of 000's rules.
-- Assumes nothing.
use Prim.Native.Nat.{ℕ}
use mathlib.Core.List.{List, [], ◌∷◌}
use mathlib.Core.Path.{refl}
use native.Mathlib.Omega.{arith}
use lib.ListN.{replicate}
use Rattle.records.specs.Words.{word, count}
use Rattle.records.specs.Kinds.{row_of, kind_of, ask_of}
use Rattle.records.specs.Says.{well_said, namings}
use Rattle.records.specs.Trees.{type_within, type_at, pair_of, chain_within, chain, alternatives_within, alternatives, tree_within, tree_at, circuit}
use Rattle.structure.specs.Rules.{ancestry_within, ancestry, depth, nesting, wrong_length, wrong_header, wrong_record, wrong_naming, wrong_type, too_deep}
use Rattle.verdict.specs.Verdict.{by_types, by_records, verdict}
use Rattle.stimulus.specs.Stimulus.{cycle_count, wrong_stimulus, wrong_byte}
use Rattle.answers.specs.Answers.{packed}
use Rattle.behaviour.specs.Run.{answer, final_out, final_next, RunsByRules}
use Rattle.behaviour.specs.Afterwards.{WellFormed, Afterwards, FeedbackAt}
use Rattle.behaviour.specs.Bench.{toggle}
use Rattle.behaviour.proofs.Afterwards.{afterwards}
use Rattle.behaviour.proofs.ByRules.{call_by_rules}

abbrev pub ones : List ℕ
ones = 1 ∷ 2 ∷ 1 ∷ []

abbrev pub room_of_t : List ℕ
room_of_t = replicate 3 0

abbrev pub lent : List ℕ
lent = replicate 204 0

pub toggle-formed : WellFormed toggle ones room_of_t lent 1
unfolding verdict by_records by_types wrong_length wrong_header wrong_record wrong_naming wrong_type too_deep depth nesting ancestry ancestry_within circuit tree_at tree_within alternatives alternatives_within chain chain_within pair_of type_at type_within namings well_said ask_of kind_of row_of word count wrong_stimulus wrong_byte
toggle-formed = record { accepted = refl; whole = refl; fitting = refl; room = refl; long = refl }

toggle-afterwards
    : Afterwards toggle ones 1 (packed (answer toggle ones room_of_t lent)) (final_out toggle ones room_of_t lent) (final_next toggle ones room_of_t lent)
toggle-afterwards = afterwards toggle-formed

toggle-feedback : FeedbackAt toggle toggle-afterwards.sheets (cycle_count toggle ones) 2
unfolding word count
toggle-feedback = toggle-afterwards.feedbacks 2 (omega arith) refl

toggle-by-rules : RunsByRules toggle ones 1 (final_out toggle ones room_of_t lent) (final_next toggle ones room_of_t lent)
toggle-by-rules =
    call_by_rules toggle ones room_of_t lent 1 _ _ _ (record { result_is = refl; out_is = refl; next_is = refl }) toggle-formed

-- and of a run of no cycles
toggle-none : WellFormed toggle [] [] lent 1
unfolding verdict by_records by_types wrong_length wrong_header wrong_record wrong_naming wrong_type too_deep depth nesting ancestry ancestry_within circuit tree_at tree_within alternatives alternatives_within chain chain_within pair_of type_at type_within namings well_said ask_of kind_of row_of word count wrong_stimulus wrong_byte
toggle-none = record { accepted = refl; whole = refl; fitting = refl; room = refl; long = refl }

toggle-none-afterwards
    : Afterwards toggle [] 1 (packed (answer toggle [] [] lent)) (final_out toggle [] [] lent) (final_next toggle [] [] lent)
toggle-none-afterwards = afterwards toggle-none
