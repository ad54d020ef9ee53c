-- The lines of the leaves before the one at hand are written. Assumes nothing.
use Rattle.std.proofs.Common.{◌+◌, ◌*◌, ◌≤◌, length}
use Rattle.listing.specs.Wrote.{line_bytes}
use Rattle.listing.specs.Texts.{Added}
use Rattle.listing.specs.Seen.{written}
use Rattle.changes.specs.ReportLines.{leaf_lines}
use Rattle.changes.proofs.put_leaf_lines.Given as goal

abbrev pub invariant-loop-leaf : goal.invariant-loop-leaf
invariant-loop-leaf l =
    Added (written l.initial.text) (leaf_lines l.outputs.width l.outputs.leaves.now l.leaf) (written l.text)
    × (length (written l.text).bytes ≤ length (written l.initial.text).bytes + l.leaf * line_bytes)
