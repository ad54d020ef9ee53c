-- One term of each promise of the front page, `specs/Promises.antt`. A promise without a term is refused here.
-- Assumes nothing.
use Rattle.preview.specs.Promises.{PreviewPromises}
use Rattle.preview.proofs.Answered as Answered
use Rattle.preview.proofs.Witness.{shown-toggle}

pub kept : PreviewPromises
kept = record {
  preview_laws = Answered.preview_laws;
  as_run = Answered.as_run;
  typed = Answered.typed;
  toggle = shown-toggle;
}
