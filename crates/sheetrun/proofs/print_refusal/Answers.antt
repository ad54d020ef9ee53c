use mathlib.Core.Path.{◌∙◌}
use Rattle.listing.proofs.Front.{text-front}
use Rattle.sheetrun.proofs.print_refusal.Goals as goal

-- the line is the front of what was written to the buffer
pub write_line-requires : goal.write_line-requires
write_line-requires g c = (text-front c.put_refusal-end.ensures.line).0 ∙ c.requires
