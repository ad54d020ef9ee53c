-- Assumes nothing.
use Rattle.std.proofs.Common.{Err}
use Rattle.replay.proofs.Answered.{replay-refused-sheet}
use Rattle.replay.proofs.replay_answer.Goals as goal

pub returns-in-Err : goal.returns-in-Err
returns-in-Err c = replay-refused-sheet _ _ _ _ (Err c.from.result) c.in-Err.fault c.from.ensures c.in-Err.ensures.verdict
