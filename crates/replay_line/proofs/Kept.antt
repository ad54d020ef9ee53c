-- One term of each promise of the front page, `specs/Promises.antt`.
-- Assumes nothing.
use Rattle.replay_line.specs.Promises.{LinePromises}
use Rattle.replay_line.proofs.Witness.{toggle_replayed}

pub kept : LinePromises
kept = record { toggle_replayed = toggle_replayed }
