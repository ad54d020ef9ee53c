-- Assumes nothing.
use borrow.Author.Rules.{rules}
use Rattle.values.proofs.Gathering.{left-falls}
use Rattle.sets.proofs.Naming.{next-fitting, naming-begun, named-on, naming-ended}
use Rattle.sets.proofs.named_by.Goals as goal

pub loop-at-init : goal.loop-at-init
loop-at-init c = (naming-begun c.requires.1, λ f. c.requires)

pub loop-at-smaller : goal.loop-at-smaller
loop-at-smaller c =
    let v = c.loop-at.invariant.1 (search rules) in
    left-falls _ _ _ (search rules) v.1.against.there (λ f. let q = next-fitting v.1 c.word-at.ensures.0 f in (q.0, q.1.against.there))

pub loop-at-preserved : goal.loop-at-preserved
loop-at-preserved c =
    let v = c.loop-at.invariant.1 (search rules) in (
      named-on (search rules) c.loop-at.invariant.0 c.named_one-named.ensures c.word-at.ensures.0,
      λ f. (v.0, (next-fitting v.1 c.word-at.ensures.0 f).1),
    )

pub returns : goal.returns
returns c = naming-ended c.loop-at.invariant.0 (search rules)
