-- The lines of the cycles before the one at hand are written. Assumes nothing.
use Rattle.std.specs.Slice.Iter.{chunks_exact_rest, chunks_exact_size}
use Rattle.listing.proofs.Chunks.{Adding}
use Rattle.listing.specs.Seen.{written}
use Rattle.listing.proofs.Text.put_lines.Given as goal

abbrev pub invariant-loop-line : goal.invariant-loop-line
invariant-loop-line l =
    (goal.iterator-loop-line).can_next l.line-iterator
    × (goal.iterator-loop-line).is_finite l.line-iterator
    × Adding (written l.initial.self) l.k l.w l.leaves (written l.self) l.count (chunks_exact_rest l.line-iterator) (chunks_exact_size l.line-iterator)
