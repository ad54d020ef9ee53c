use Rattle.run_listing.proofs.Telling.{told-printed, refused-printed}
use Rattle.sheetrun.proofs.run_files.Goals as goal

-- what was told is what is printed of the sheet and the stimulus
pub print_listing-requires : goal.print_listing-requires
print_listing-requires g c = told-printed c.in-Ok.ensures

pub print_refusal-requires : goal.print_refusal-requires
print_refusal-requires g c = rw (c.number.ensures, c.from-place.ensures) (refused-printed _ c.in-Err.ensures)
