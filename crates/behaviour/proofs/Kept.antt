-- One term of each promise of the front page, `specs/Promises.antt`; the theorems stand in the files beside this one and in
-- `stimulus`. A promise without a term is refused here.
-- Assumes nothing.
use Rattle.behaviour.proofs.Sheets.{write-only-delays, write_read, write-accepted}
use Rattle.behaviour.proofs.Sheets as Sheets
use Rattle.behaviour.specs.Promises.{RunPromises}
use Rattle.stimulus.proofs.Stimulus.{cycles-joined, cycles-counted}
use Rattle.records.specs.Trees.{tree_at}
use Rattle.accepted.proofs.Small.{accepted-passes}
use Rattle.accepted.proofs.Scopes.{scope-checked}
use Rattle.behaviour.proofs.Terms.{checked-term, erase-term}
use Rattle.behaviour.proofs.Run.{run-outputs, run-sheet}
use Rattle.behaviour.proofs.Reduces.{run_reduces}
use Rattle.behaviour.proofs.ByRules.{call_by_rules}
use Rattle.behaviour.proofs.ZeroCycles.{zero_cycles}
use Rattle.behaviour.proofs.Answers.{run_laws, gives-afterwards}
use Rattle.behaviour.proofs.SheetRunOrdered.{sheet_run_ordered, late_scanner}
use Rattle.behaviour.proofs.LateToggle.{late_input, late_delay}
use Rattle.behaviour.proofs.EarlierBelow.{earlier_below, earlier_strictly_below}

pub kept : RunPromises
kept = record {
  run_laws = run_laws;
  zero_cycles = zero_cycles;
  write_reads = λ s t v e h. record {
    only_delays = write-only-delays s e h.frame;
    reads = write_read s v h;
    again = write-accepted s v h;
  };
  write_own = λ s t v. Sheets.write_own s v;
  cycles_whole = λ s stim e. (cycles-joined s stim e, cycles-counted s stim);
  run_means = λ undecided law s t v inputs given.
      (run-outputs law s v given, run-sheet law s v given);
  run_reduces = run_reduces;
  call_by_rules = call_by_rules;
  holds_afterwards = λ s stim out next t result out' next' g h. gives-afterwards g h;
  terms_elaborate = λ s t v q Γ c.
      let p = accepted-passes v in (checked-term p (scope-checked t p v c), erase-term s Γ (tree_at s q));
  sheet_run_ordered = sheet_run_ordered;
  late_scanner = late_scanner;
  late_input = late_input;
  late_delay = late_delay;
  earlier_below = earlier_below;
  earlier_strictly_below = earlier_strictly_below;
}
