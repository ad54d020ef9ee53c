-- Which alternatives of the sheet T of docs/SHEETS.md fire, by computation. What the functions ask is not contradictory: T is accepted,
-- there is a table for it, and its one cycle meets what is asked where its words are told.
-- Assumes nothing.
use Prim.Native.Nat.{ℕ, ◌*◌}
use mathlib.Core.List.{List, [], ◌∷◌}
use mathlib.Core.Path.{◌≡◌, refl}
use lib.ListN.{length, replicate}
use Rattle.records.specs.Words.{word, count}
use Rattle.records.specs.Kinds.{row_of, kind_of, ask_of}
use Rattle.records.specs.Says.{well_said, namings}
use Rattle.records.specs.Trees.{type_within, type_at, pair_of, chain_within, chain, alternatives_within, alternatives, tree_within, tree_at, circuit}
use Rattle.structure.specs.Rules.{
  ancestry_within,
  ancestry,
  depth,
  nesting,
  wrong_length,
  wrong_header,
  wrong_record,
  wrong_naming,
  wrong_type,
  too_deep,
  Passes,
}
use Rattle.verdict.specs.Verdict.{by_types, by_records, verdict}
use Rattle.answers.specs.Answers.{Accepted}
use Rattle.accepted.specs.Accepting.{Accepting}
use Rattle.accepted.proofs.Small.{accepted-passes, accepted-records}
use Rattle.accepted.proofs.Requirements as Requirements
use Rattle.meaning.specs.Undecided.{undecided_rule}
use Rattle.meaning.specs.Evaluation.{eval}
use Rattle.stimulus.specs.Stimulus.{wrong_stimulus, wrong_byte}
use Rattle.stimulus.specs.OneCycle.{not_one_cycle}
use Rattle.stimulus.proofs.OneCycle.{one-cycle-typed}
use Rattle.behaviour.specs.Bench.{toggle}
use Rattle.behaviour.specs.Firing.{fired}
use Rattle.fired.specs.Telling.{fired_answer, final_fired}
use Rattle.fired.specs.TellingCycle.{TellingFired}
use Rattle.fired.specs.Promises.{FiredToggle}

pub toggle_fires : FiredToggle
unfolding fired_answer final_fired fired not_one_cycle wrong_length wrong_header wrong_record wrong_naming wrong_type too_deep depth nesting ancestry ancestry_within circuit tree_at tree_within alternatives alternatives_within chain chain_within pair_of type_at type_within namings well_said ask_of kind_of row_of word count wrong_stimulus wrong_byte eval undecided_rule
toggle_fires = (refl, refl, refl, refl, refl, refl)

toggle-accepted : verdict toggle ≡ Accepted 1
unfolding verdict by_records by_types wrong_length wrong_header wrong_record wrong_naming wrong_type too_deep depth nesting ancestry ancestry_within circuit tree_at tree_within alternatives alternatives_within chain chain_within pair_of type_at type_within namings well_said ask_of kind_of row_of word count
toggle-accepted = refl

passes : Passes toggle
passes = accepted-passes toggle-accepted

full : length toggle ≡ 12 * count toggle
full = accepted-records toggle toggle-accepted

abbrev table : List ℕ
table = (Requirements.widths passes full).0

toggle-accepting : Accepting toggle (count toggle) table
toggle-accepting =
    record {
      sized = Requirements.sized passes full;
      type = 1;
      accepted = toggle-accepted;
      table = (Requirements.widths passes full).1;
    }

toggle-telling : TellingFired toggle (count toggle) table 1 (1 ∷ []) (replicate 17 9)
unfolding not_one_cycle wrong_stimulus wrong_byte type_at type_within kind_of row_of word count
toggle-telling =
    record {
      accepting = toggle-accepting;
      accepted = toggle-accepted;
      typed = one-cycle-typed toggle (1 ∷ []) (refl, (refl, tt));
      room = refl;
    }
