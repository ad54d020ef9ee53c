-- One term of each promise of the front page, `specs/Promises.antt`. A promise without a term is
-- refused here.
-- Assumes nothing.
use Rattle.replay.specs.Promises.{ReplayPromises}
use Rattle.replay.proofs.Answered as Answered
use Rattle.replay.proofs.Found as Found
use Rattle.replay.proofs.OfRuns as OfRuns
use Rattle.replay.proofs.InParts as InParts
use Rattle.replay.proofs.ByRules.{agrees_by_rules}
use Rattle.replay.proofs.Witness.{replayed-toggle}

pub kept : ReplayPromises
kept = record {
  replay_laws = Answered.replay_laws;
  as_run = Answered.replay-as-run;
  differing_unaltered = Answered.differing_unaltered;
  agrees_exactly = Found.agrees_exactly;
  one_record_agrees = Found.one_record_agrees;
  agrees_by_rules = agrees_by_rules;
  differs_exactly = Found.differs_exactly;
  next_as_run = OfRuns.next_as_run;
  own_outputs_agree = OfRuns.own_outputs_agree;
  changed_byte_found = OfRuns.changed_byte_found;
  front_agrees = InParts.front_agrees;
  in_parts = InParts.in_parts;
  toggle = replayed-toggle;
}
