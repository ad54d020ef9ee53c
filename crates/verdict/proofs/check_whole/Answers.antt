-- The lent table gets an accepted sheet's widths. Assumes nothing.
use Rattle.verdict.proofs.check_whole.Goals as goal

pub check_filling-requires : goal.check_filling-requires
check_filling-requires c = (c.requires, c.no_leaves-widths.ensures _)
