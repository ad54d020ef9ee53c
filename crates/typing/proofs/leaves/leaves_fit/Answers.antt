-- The chain fits where taking the type's leaves off leaves none. Assumes nothing.
use Rattle.structure.proofs.Passes.{written}
use Rattle.typing.proofs.Chains.{misfit-whole, fits_whole}
use Rattle.typing.proofs.leaves.leaves_fit.Goals as goal

pub returns-in-Some : goal.returns-in-Some
returns-in-Some c = fits_whole (written c.requires.0) _ _ c.requires.2 c.requires.3 _ c.take_off.ensures c.in-Some.is

pub returns-in-None : goal.returns-in-None
returns-in-None c = misfit-whole (written c.requires.0) _ _ c.requires.2 c.requires.3 _ c.take_off.ensures c.in-None.is
