-- Assumes nothing.
use Rattle.listing.proofs.Front.{text-front}
use Rattle.program_io.proofs.refuse_file.Goals as goal

-- the line is the front of what was written to the buffer
pub write_no_file-requires : goal.write_no_file-requires
write_no_file-requires g c = (text-front c.put_no_file-end.ensures).0
