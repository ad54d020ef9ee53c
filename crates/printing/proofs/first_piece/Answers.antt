-- Assumes nothing.
use Rattle.std.proofs.Common.{rules}
use Rattle.printing.proofs.Pieces.{first-lines, first-piece}
use Rattle.printing.proofs.first_piece.Goals as goal

pub put_rest-next-requires : goal.put_rest-next-requires
put_rest-next-requires c = first-lines c.args.t (rw c.new-text.ensures at c.put_type.ensures) c.ranges.t.fits c.requires

pub returns : goal.returns
returns c = first-piece c.new-text.ensures c.put_rest-next.new.text (search rules) c.len.ensures c.args.t c.put_type.ensures c.put_rest-next.ensures
