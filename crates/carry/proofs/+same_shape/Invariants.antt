-- The measure is the old sheet's type, whose parts are lower records. Assumes nothing.
use Rattle.carry.proofs.+same_shape.Given as goal

abbrev pub decreases-same_shape : goal.decreases-same_shape
decreases-same_shape l = l.t
