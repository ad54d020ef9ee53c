-- Assumes nothing.
use mathlib.Core.Path.{refl}
use Rattle.remaining.proofs.Inputs.{start_fits, root-sets-ready, root-done}
use Rattle.remaining.proofs.root_sets.Goals as goal

pub slice_bounds-value-end : goal.slice_bounds-value-end
slice_bounds-value-end c = start_fits c.requires.0 refl

pub estimate-requires : goal.estimate-requires
estimate-requires c = (_, _, root-sets-ready c.requires.0 refl c.input_sets.ensures c.args.env.now c.requires.1 c.enter_value.ensures c.word-root.ensures.0)

pub returns : goal.returns
returns c = root-done c.requires.0 refl c.input_sets.ensures c.args.env.now c.requires.1 c.enter_value.ensures c.word-root.ensures.0 c.estimate.ensures
