-- Assumes nothing.
use Rattle.std.proofs.Common.{Err}
use Rattle.run_listing.proofs.Telling.{told-refused}
use Rattle.run_listing.proofs.tell.Goals as goal

pub returns-in-Err : goal.returns-in-Err
returns-in-Err c = told-refused _ _ (Err c.from-refusal.result) c.in-Err.fault c.from-refusal.ensures c.in-Err.ensures.verdict _ _
