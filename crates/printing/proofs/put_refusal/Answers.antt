-- The text's buffer is the one lent, so what stands in it is known after the text is gone.
-- Assumes nothing.
use Rattle.std.proofs.Common.{rules}
use Rattle.listing.proofs.Front.{front-put}
use Rattle.printing.proofs.Pieces.{refusal-pieced}
use Rattle.printing.proofs.put_refusal.Goals as goal

pub returns-clause-line : goal.returns-clause-line
returns-clause-line c = front-put c.put_refused.new.self (search rules) c.len.ensures c.new-text.ensures c.put_refused.ensures

pub returns-clause-piece : goal.returns-clause-piece
returns-clause-piece c = λ t w outputs d.
    refusal-pieced c.args.code c.args.place t w outputs d
    (front-put c.put_refused.new.self (search rules) c.len.ensures c.new-text.ensures c.put_refused.ensures)
