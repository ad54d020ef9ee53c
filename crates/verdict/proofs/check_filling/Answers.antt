-- The stages decide, and an accepted sheet's patterns are noted. Assumes nothing.
use Rattle.verdict.proofs.Lending.{patterns-ready}
use Rattle.verdict.proofs.check_filling.Goals as goal

pub check_stages-requires : goal.check_stages-requires
check_stages-requires c = c.requires

pub note_patterns-requires : goal.note_patterns-requires
note_patterns-requires c = patterns-ready c.in_ok-output_type.ensures
