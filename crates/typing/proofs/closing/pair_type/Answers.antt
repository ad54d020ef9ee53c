-- By the search for the pair record. Assumes nothing.
use mathlib.Core.Path.{◌∙◌, sym}
use Rattle.typing.proofs.Closings.{no-pair-closed, pair-is-type, pair-closed}
use Rattle.typing.proofs.closing.pair_type.Goals as goal

pub returns-in_default : goal.returns-in_default
returns-in_default c = no-pair-closed c.requires.0 _ _ _ (sym c.pair_of.ensures ∙ c.in_default.is) c.at.ensures

pub note-requires : goal.note-requires
note-requires c = (c.requires.0, pair-is-type c.requires.0 _ _ _ (sym c.pair_of.ensures ∙ c.in-Some.is))

pub returns : goal.returns
returns c = pair-closed c.requires.0 _ _ _ (sym c.pair_of.ensures ∙ c.in-Some.is) _ c.note.ensures.0
