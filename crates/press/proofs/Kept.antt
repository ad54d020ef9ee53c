-- One term of each promise of the front page, `specs/Promises.antt`. A promise without a term is
-- refused here.
-- Assumes nothing.
use Rattle.press.specs.Promises.{PressPromises}
use Rattle.press.proofs.Promised as Promised
use Rattle.press.proofs.Witness.{pressed-examples}

pub kept : PressPromises
kept = record {
  press_laws = Promised.press_laws;
  refused_untold = Promised.press-refused-untold;
  told = Promised.press-told;
  none_told = Promised.press-none-told;
  as_shown = Promised.press-as-shown;
  examples = pressed-examples;
}
