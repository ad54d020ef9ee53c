-- The measure is the type's record: its parts are lower. Assumes nothing.
use Rattle.typing.proofs.leaves.+take_off.Given as goal

abbrev pub decreases-take_off : goal.decreases-take_off
decreases-take_off l = l.t
