-- The search finds the pair type. Assumes nothing.
use mathlib.Core.Path.{◌∙◌, ap}
use Rattle.structure.specs.PairIndex.{some_record}
use Rattle.structure.proofs.pairs.PairIndex.pair_of.Goals as goal

pub returns : goal.returns
returns c = c.held.ensures ∙ ap some_record (c.requires.finds c.args.a c.args.b c.slot_of.result c.slot_of.ensures.0)
