-- The measure is the number, of which the front digits have a tenth. Assumes nothing.
use Rattle.listing.proofs.Text.+put_number.Given as goal

abbrev pub decreases-put_number : goal.decreases-put_number
decreases-put_number l = l.n
