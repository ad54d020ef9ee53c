-- The invariant: what is left begins inside the outputs or at their end. The measure is the text
-- that is left; each piece has a byte at least.
use Rattle.std.proofs.Common.{◌≡◌, ◌≤◌, ◌*◌, length}
use Rattle.printing.specs.PutLines.{next_cycle, text_after}
use Rattle.sheetrun.proofs.print_listing.Given as goal

abbrev pub invariant-loop-next : goal.invariant-loop-next
invariant-loop-next g l = (length l.buffer ≡ 65536) × (next_cycle l.next * l.outputs.width ≤ length l.outputs.leaves.now)

abbrev pub decreases-loop-next : goal.decreases-loop-next
decreases-loop-next g l = length (text_after l.outputs.width l.outputs.leaves.now l.next)
