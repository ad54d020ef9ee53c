-- Assumes nothing.
use Rattle.simulator.proofs.Calls.{call-runs}
use Rattle.simulator.proofs.run.Goals as goal

pub returns : goal.returns
returns c = call-runs c.type_inv.sheet c.run_answer.ensures c.packed.ensures
