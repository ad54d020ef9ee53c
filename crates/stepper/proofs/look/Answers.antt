-- Assumes nothing.
use Rattle.stepper.proofs.Cycling.{input-room, root-evaluating, look-done}
use Rattle.stepper.proofs.look.Goals as goal

pub enter_value-requires : goal.enter_value-requires
enter_value-requires c = input-room c.requires

pub eval-requires : goal.eval-requires
eval-requires c = (_, root-evaluating c.requires c.word-root.ensures.0 c.enter_value.ensures)

pub returns : goal.returns
returns c = look-done c.requires c.word-root.ensures.0 c.enter_value.ensures c.eval.ensures
