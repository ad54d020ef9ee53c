-- One term of each promise of the front page, `specs/Promises.antt`.
-- Assumes nothing.
use Rattle.report.specs.Promises.{ReportPromises}
use Rattle.report.proofs.Telling.{refuses_as_run, report_of_listing}
use Rattle.report.proofs.Witness.{toggle_reported}

pub kept : ReportPromises
kept = record { refuses_as_run = refuses_as_run; report_of_listing = report_of_listing; toggle_reported = toggle_reported }
