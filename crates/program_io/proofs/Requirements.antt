-- What a function asks of its caller can be had: the line of the sheet's file.
-- Assumes nothing.
use mathlib.Core.Path.{◌≡◌, refl}
use Rattle.listing.specs.Digits.{digits}
use Rattle.listing.specs.Lines.{ascii}
use Rattle.printing.specs.Pieces.{no_file_line}

write-no-file : ascii "refused 12 at 1\n" ≡ no_file_line 1
unfolding digits
write-no-file = refl
