-- The last line follows the lines of all leaves. Assumes nothing.
use Rattle.listing.proofs.Added.{added_then}
use Rattle.changes.proofs.put_report.Goals as goal

pub returns : goal.returns
returns c = added_then c.put_leaf_lines.ensures.lines (rw c.all_changes.ensures at c.put_total.ensures)
