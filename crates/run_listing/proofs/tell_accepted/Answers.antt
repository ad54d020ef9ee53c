-- Assumes nothing.
use mathlib.Core.Path.{refl}
use borrow.Author.Rules.{rules}
use Rattle.run_listing.proofs.Telling.{lent-refused, lent-done}
use Rattle.run_listing.proofs.tell_accepted.Goals as goal

pub returns-in_err-cycles : goal.returns-in_err-cycles
returns-in_err-cycles c =
    lent-refused c.args.checked.now.sheet c.args.stim.now _ _ _ _ c.leaves_of-leaves.ensures c.outputs_length-length.ensures c.args.out.now c.args.next.now
    (c.requires.0, c.requires.1) (rw c.bytes-long.ensures at c.in_err-cycles.ensures) _ c.in_err-cycles.field-0.0 refl c.from_residual.ensures.1 _ _

pub returns : goal.returns
returns c =
    rw c.bytes-long.ensures
    (lent-done c.args.checked.now.sheet c.args.stim.now _ _ _ _ c.leaves_of-leaves.ensures c.outputs_length-length.ensures c.args.out.now c.args.next.now
    (c.requires.0, c.requires.1) (rw c.bytes-long.ensures at c.in_ok-cycles.ensures) _ refl (search rules) (search rules))
