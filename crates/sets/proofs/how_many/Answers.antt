-- Assumes nothing.
use Rattle.possibilities.proofs.SetWords.{word-members}
use mathlib.Core.Path.{refl, ap, ◌∙◌}
use lib.Count.{ones}
use Rattle.sets.proofs.how_many.Goals as goal

pub returns : goal.returns
returns c = record { ones-of = refl; of_set = λ S e. ap ones e ∙ word-members S }
