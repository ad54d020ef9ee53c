-- The lines for the sheet T, by computation. What the function asks is met by T, with room of its
-- length and for one line.
-- Assumes nothing.
use Prim.Native.Nat.{ℕ, ◌≤◌}
use mathlib.Core.Path.{refl}
use native.Mathlib.Omega.{arith}
use lib.ListN.{length, replicate, length-replicate}
use Rattle.records.specs.Words.{word, count}
use Rattle.records.specs.Kinds.{row_of, kind_of, ask_of}
use Rattle.records.specs.Says.{well_said, namings}
use Rattle.records.specs.Trees.{type_within, type_at, pair_of, chain_within, chain, alternatives_within, alternatives, tree_within, tree_at, circuit}
use Rattle.structure.specs.Rules.{ancestry_within, ancestry, depth, nesting, wrong_length, wrong_header, wrong_record, wrong_naming, wrong_type, too_deep}
use Rattle.meaning.specs.Undecided.{undecided_rule}
use Rattle.meaning.specs.Evaluation.{eval, next}
use Rattle.stimulus.specs.Stimulus.{cycles, wrong_stimulus, wrong_byte}
use Rattle.behaviour.specs.Terms.{circuit_term}
use Rattle.behaviour.specs.Sheets.{write}
use Rattle.behaviour.specs.Bench.{toggle}
use Rattle.behaviour.specs.Cycle.{output_by, after_by}
use Rattle.listing.specs.Digits.{digits}
use Rattle.listing.specs.Wrote.{line_bytes}
use Rattle.replay.specs.Replay.{finding, replay_answer}
use Rattle.replay_line.specs.ReplayLine.{replay_printed}
use Rattle.replay_line.specs.Promises.{ToggleReplayed}

pub toggle_replayed : ToggleReplayed
unfolding replay_printed digits replay_answer finding cycles wrong_length wrong_header wrong_record wrong_naming wrong_type too_deep depth nesting ancestry ancestry_within circuit tree_at tree_within alternatives alternatives_within chain chain_within pair_of type_at type_within namings well_said ask_of kind_of row_of word count wrong_stimulus wrong_byte eval next undecided_rule circuit_term write output_by after_by
toggle_replayed = (refl, refl, refl, refl, refl)

toggle-tells : (length toggle ≤ length toggle) × (line_bytes ≤ length {A = ℕ} (replicate line_bytes 0))
toggle-tells = (omega arith, let l = length-replicate {A = ℕ} line_bytes 0 in omega arith)
