-- One term of each promise of the front page, `specs/Promises.antt`. A promise without a term is refused here.
-- Assumes nothing.
use Rattle.behaviour.proofs.FiredWords.{fired-words}
use Rattle.fired.specs.Promises.{FiringPromises}
use Rattle.fired.proofs.Telling as Telling
use Rattle.fired.proofs.Witness.{toggle_fires}

pub kept : FiringPromises
kept = record {
  fired_laws = Telling.fired_laws;
  reached_once = Telling.reached_once;
  reached_expressions = Telling.reached_expressions;
  fired_word = fired-words;
  fired_in = Telling.fired_in;
  first_yes_tells = Telling.first_yes_tells;
  toggle_fires = toggle_fires;
}
