-- The invariant: the leaves before the one at hand are those on which both agree, and the others are as they were. Assumes nothing.
use borrow.Author.Rules.{rules}
use Rattle.meaning.specs.Undecided.{agreed_leaf}
use Rattle.values.proofs.LeafByLeaf.{join-next}
use Rattle.values.proofs.Agreement.{one-leaf, all-agreed}
use Rattle.values.proofs.undecided.Goals as goal

pub loop-i-preserved : goal.loop-i-preserved
loop-i-preserved c = join-next agreed_leaf _ _ _ _ _ (search rules) c.loop-i.invariant (one-leaf _ _ _ c.agreed.ensures)

pub returns : goal.returns
returns c = all-agreed _ _ _ _ c.requires (search rules) c.loop-i.invariant
