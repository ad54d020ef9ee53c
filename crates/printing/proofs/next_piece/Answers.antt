-- Assumes nothing.
use Rattle.std.proofs.Common.{rules}
use Rattle.printing.proofs.Pieces.{next-piece}
use Rattle.printing.proofs.next_piece.Goals as goal

pub returns : goal.returns
returns c = next-piece c.new-text.ensures c.put_rest-next.new.text (search rules) c.len.ensures c.put_rest-next.ensures
