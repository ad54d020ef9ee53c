-- One term of each promise of the front page, `specs/Promises.antt`.
-- Assumes nothing.
use mathlib.Core.Path.{refl}
use Rattle.listing.specs.Digits.{digits}
use Rattle.changes.specs.Promises.{ReportExamples, ChangePromises}
use Rattle.changes.proofs.Counts.{sum_of_lines, nothing_changes}
use Rattle.changes.proofs.Listed.{listed_by_parts}
use Rattle.changes.proofs.Pairs.{changes_exactly, none_in_first, each_change_once}

report-examples : ReportExamples
unfolding digits
report-examples = (refl, refl, refl)

pub kept : ChangePromises
kept = record {
  listed_by_parts = listed_by_parts;
  changes_exactly = changes_exactly;
  none_in_first = none_in_first;
  each_change_once = each_change_once;
  sum_of_lines = sum_of_lines;
  nothing_changes = nothing_changes;
  examples = report-examples;
}
