use Rattle.std.proofs.Common.{ℕ, sym}
use Rattle.std.proofs.lemmas.List.{length-replicate}
use Rattle.rooms.proofs.output_room.Goals as goal

-- a repeat of a number has as many elements as it says; antt does not count them out
pub returns : goal.returns
returns c = sym (length-replicate {A = ℕ} 4194240 0)
