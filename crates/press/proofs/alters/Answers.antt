-- Assumes nothing.
use Rattle.probe.proofs.Inputs.{set-within}
use Rattle.press.proofs.Pressing.{other-value, put_back}
use Rattle.press.proofs.alters.Goals as goal

pub leaf_for-value-requires : goal.leaf_for-value-requires
leaf_for-value-requires c = set-within c.requires.0.typed _ _ c.requires.2

pub returns : goal.returns
returns c = (other-value _ _ _ _ _ c.if-c-old.false c.leaf_for-value.ensures.0 c.requires.0.value, c.leaf_for-value.ensures.1, put_back c.args.input.now c.args.input.now 0 _ _)
