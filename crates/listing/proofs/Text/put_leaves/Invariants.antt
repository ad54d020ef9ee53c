-- The leaves before the one at hand are written. Assumes nothing.
use Rattle.std.proofs.Common.{take}
use Rattle.listing.specs.Lines.{leaf_texts}
use Rattle.listing.specs.Texts.{Added}
use Rattle.listing.specs.Seen.{written}
use Rattle.listing.proofs.Text.put_leaves.Given as goal

abbrev pub invariant-loop-leaf : goal.invariant-loop-leaf
invariant-loop-leaf l = Added (written l.initial.self) (leaf_texts (take l.leaf-index l.leaves)) (written l.self)
