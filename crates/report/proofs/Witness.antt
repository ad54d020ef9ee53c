-- The report of the sheet T, of one cycle and of none, and a refusal, by computation. What the
-- function asks is met by T, with room of the lengths that it names.
-- Assumes nothing.
use Prim.Native.Nat.{ℕ, ◌≤◌}
use mathlib.Core.List.{List}
use mathlib.Core.Path.{refl}
use native.Mathlib.Omega.{arith}
use lib.ListN.{length, replicate, length-replicate}
use Rattle.records.specs.Words.{word, count}
use Rattle.records.specs.Kinds.{row_of, kind_of, ask_of}
use Rattle.records.specs.Says.{well_said, namings}
use Rattle.records.specs.Trees.{type_within, type_at, pair_of, chain_within, chain, alternatives_within, alternatives, tree_within, tree_at, circuit}
use Rattle.structure.specs.Rules.{ancestry_within, ancestry, depth, nesting, wrong_length, wrong_header, wrong_record, wrong_naming, wrong_type, too_deep}
use Rattle.verdict.specs.Verdict.{by_types, by_records, verdict}
use Rattle.meaning.specs.Undecided.{undecided_rule}
use Rattle.meaning.specs.Evaluation.{eval, next}
use Rattle.stimulus.specs.Stimulus.{cycles, wrong_stimulus, wrong_byte}
use Rattle.behaviour.specs.Terms.{circuit_term}
use Rattle.behaviour.specs.Sheets.{write}
use Rattle.behaviour.specs.Bench.{toggle}
use Rattle.behaviour.specs.Cycle.{output_by, after_by}
use Rattle.behaviour.specs.Run.{by_slices, answer}
use Rattle.listing.specs.Digits.{digits}
use Rattle.run_listing.specs.Printout.{run_answer, run_outputs}
use Rattle.rooms.specs.Rooms.{most_output}
use Rattle.report.specs.Reported.{reported, report_bytes}
use Rattle.report.specs.Promises.{ToggleReported}

pub toggle_reported : ToggleReported
unfolding reported run_answer run_outputs answer by_slices digits verdict by_records by_types wrong_length wrong_header wrong_record wrong_naming wrong_type too_deep depth nesting ancestry ancestry_within circuit tree_at tree_within alternatives alternatives_within chain chain_within pair_of type_at type_within namings well_said ask_of kind_of row_of word count wrong_stimulus wrong_byte cycles eval next undecided_rule circuit_term write output_by after_by
toggle_reported = (refl, refl, refl, refl)

long-enough : (n : ℕ) → n ≤ length {A = ℕ} (replicate n 0)
long-enough n = let l = length-replicate {A = ℕ} n 0 in omega arith

same-long : (s : List ℕ) → length s ≤ length s
same-long s = omega arith

toggle-tells : (most_output ≤ length {A = ℕ} (replicate most_output 0)) × (length toggle ≤ length toggle) × (report_bytes ≤ length {A = ℕ} (replicate report_bytes 0))
toggle-tells = (long-enough most_output, same-long toggle, long-enough report_bytes)
