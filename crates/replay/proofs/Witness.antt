-- Replays of the sheet T of docs/SHEETS.md, by computation. What the functions ask is not
-- contradictory: every call to which no check applies meets it, with a table and with room; so T on
-- 1 2 1, whose outputs are 2 1 1.
-- Assumes nothing.
use Prim.Native.Nat.{ℕ, ◌*◌, ◌<◌}
use mathlib.Core.List.{List, [], ◌∷◌}
use mathlib.Core.Path.{◌≡◌, refl}
use native.Mathlib.Omega.{arith}
use lib.ListN.{length, replicate}
use Rattle.records.specs.Words.{word, count}
use Rattle.records.specs.Kinds.{row_of, kind_of, ask_of}
use Rattle.records.specs.Says.{well_said, namings}
use Rattle.records.specs.Trees.{type_within, type_at, pair_of, chain_within, chain, alternatives_within, alternatives, tree_within, tree_at, circuit}
use Rattle.structure.specs.Rules.{ancestry_within, ancestry, depth, nesting, wrong_length, wrong_header, wrong_record, wrong_naming, wrong_type, too_deep}
use Rattle.structure.specs.Rules.{Passes}
use Rattle.answers.specs.Answers.{Done}
use Rattle.verdict.specs.Verdict.{output_type, verdict}
use Rattle.answers.specs.Answers.{Accepted}
use Rattle.accepted.specs.Accepting.{Accepting}
use Rattle.accepted.proofs.Small.{accepted-passes, accepted-records}
use Rattle.accepted.proofs.Requirements as Requirements
use Rattle.meaning.specs.Undecided.{undecided_rule}
use Rattle.meaning.specs.Evaluation.{eval, next}
use Rattle.stimulus.specs.Stimulus.{input_leaves, cycle_count, cycles, wrong_stimulus, wrong_byte}
use Rattle.behaviour.specs.Terms.{circuit_term}
use Rattle.behaviour.specs.Sheets.{write}
use Rattle.behaviour.specs.Cycle.{output_by, after_by}
use Rattle.behaviour.specs.Run.{output_leaves}
use Rattle.behaviour.specs.Bench.{toggle}
use Rattle.evaluator.proofs.Frames.{zeros-long}
use Rattle.stepper.specs.CycleByCycle.{WholeCycles}
use Rattle.replay.specs.Replay.{finding, replay_answer}
use Rattle.replay.specs.Replaying.{ReplayingCycles, ReplayingInto}
use Rattle.replay.specs.Promises.{FormedReplay, ReplayToggle}
use Rattle.replay.proofs.Answered.{replay_laws}
use Rattle.replay.proofs.Cycles.{ReplayingCycle, before-replay, replaying}

pub replayed-toggle : ReplayToggle
unfolding replay_answer finding cycles wrong_length wrong_header wrong_record wrong_naming wrong_type too_deep depth nesting ancestry ancestry_within circuit tree_at tree_within alternatives alternatives_within chain chain_within pair_of type_at type_within namings well_said ask_of kind_of row_of word count wrong_stimulus wrong_byte eval next undecided_rule circuit_term write output_by after_by
replayed-toggle = (refl, refl, refl, refl, refl, refl, refl)

abbrev names : List ℕ
names = replicate 4096 0

module _ {s stim recorded next : List ℕ} (h : FormedReplay s stim recorded next) where
  passes : Passes s
  passes = accepted-passes h.accepted

  full : length s ≡ 12 * count s
  full = accepted-records s h.accepted

  abbrev table : List ℕ
  table = (Requirements.widths passes full).0

  accepted-ready : Accepting s (count s) table × (verdict s ≡ Accepted (output_type s))
  accepted-ready = (
    record {
      sized = Requirements.sized passes full;
      type = output_type s;
      accepted = h.accepted;
      table = (Requirements.widths passes full).1;
    },
    h.accepted,
  )

  over : WholeCycles s (count s) table stim (input_leaves s) (output_leaves s) (cycle_count s stim)
  over =
      record {
        sized = Requirements.sized passes full;
        type = output_type s;
        accepted = h.accepted;
        table = (Requirements.widths passes full).1;
        whole = h.whole;
        fitting = h.fitting;
        takes = refl;
        gives = refl;
        counted = refl;
      }

  into-ready : ReplayingInto s (count s) table stim recorded (input_leaves s) (output_leaves s) (cycle_count s stim) next
  into-ready = record { over = over; recorded_long = h.recorded_long; long = h.next_long }

  cycles-ready : ReplayingCycles s (count s) table stim recorded (input_leaves s) (output_leaves s) (cycle_count s stim) s
  cycles-ready = record { over = over; recorded_long = h.recorded_long; start = refl }

  first-ready : (out : List ℕ) → length out ≡ output_leaves s → 0 < cycle_count s stim
      → ReplayingCycle s (count s) table names names stim 0 (input_leaves s) recorded 0 (output_leaves s) s out
  first-ready out o some = replaying cycles-ready (before-replay cycles-ready (zeros-long 4096) (zeros-long 4096) o) some

-- the sheet T
toggle-formed : FormedReplay toggle (1 ∷ 2 ∷ 1 ∷ []) (2 ∷ 1 ∷ 1 ∷ []) toggle
toggle-formed =
    (((replay_laws toggle (1 ∷ 2 ∷ 1 ∷ []) (2 ∷ 1 ∷ 1 ∷ []) toggle).lowest_first (Done 0)).0 replayed-toggle.0).0

toggle-accepted-ready : Accepting toggle (count toggle) (table toggle-formed) × (verdict toggle ≡ Accepted (output_type toggle))
toggle-accepted-ready = accepted-ready toggle-formed

toggle-into-ready
    : ReplayingInto toggle (count toggle) (table toggle-formed) (1 ∷ 2 ∷ 1 ∷ []) (2 ∷ 1 ∷ 1 ∷ []) (input_leaves toggle)
    (output_leaves toggle) (cycle_count toggle (1 ∷ 2 ∷ 1 ∷ [])) toggle
toggle-into-ready = into-ready toggle-formed

toggle-cycles-ready
    : ReplayingCycles toggle (count toggle) (table toggle-formed) (1 ∷ 2 ∷ 1 ∷ []) (2 ∷ 1 ∷ 1 ∷ []) (input_leaves toggle)
    (output_leaves toggle) (cycle_count toggle (1 ∷ 2 ∷ 1 ∷ [])) toggle
toggle-cycles-ready = cycles-ready toggle-formed

toggle-first-ready
    : ReplayingCycle toggle (count toggle) (table toggle-formed) names names (1 ∷ 2 ∷ 1 ∷ []) 0 (input_leaves toggle)
    (2 ∷ 1 ∷ 1 ∷ []) 0 (output_leaves toggle) toggle (9 ∷ [])
unfolding type_at type_within kind_of row_of word wrong_length wrong_header wrong_record wrong_naming wrong_type too_deep depth nesting ancestry ancestry_within circuit tree_at tree_within alternatives alternatives_within chain chain_within pair_of namings well_said ask_of count
toggle-first-ready = first-ready toggle-formed (9 ∷ []) refl (omega arith)

-- the outputs of the first cycle, and the record's first part
values-ready : length {A = ℕ} (2 ∷ []) ≡ length {A = ℕ} (2 ∷ [])
values-ready = refl
