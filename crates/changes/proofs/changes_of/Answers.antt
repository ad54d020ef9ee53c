-- Assumes nothing.
use native.Mathlib.Omega.{arith}
use mathlib.Core.Path.{refl, ◌∙◌}
use native.Mathlib.Numerals.{add-one}
use borrow.Author.Rules.{rules}
use Rattle.changes.specs.Changes.{change_at}
use Rattle.changes.proofs.Counts.{many-few}
use Rattle.changes.proofs.Loops.{change-at-place, leaf-ended}
use Rattle.changes.proofs.changes_of.Goals as goal

pub overflow_add-changes : goal.overflow_add-changes
overflow_add-changes c = let few = many-few (λ k. change_at c.args.outputs.width c.args.outputs.leaves.now k c.args.leaf) c.loop-k.k in let inv = c.loop-k.invariant.0 in search rules

pub loop-k-preserved : goal.loop-k-preserved
loop-k-preserved c =
    let here = change-at-place c.args.outputs.width c.args.outputs.leaves.now c.loop-k.k c.args.leaf _ (omega arith) refl in
    let one = c.changed-changes.ensures in
    let inv = c.loop-k.invariant.0 in
    (rw (add-one c.loop-k.k) (omega arith), omega arith)

pub returns : goal.returns
returns c =
    let counted = c.loop-k.invariant in
    counted.0 ∙ leaf-ended c.args.outputs.width c.args.outputs.leaves.now c.loop-k.k (omega arith) (omega arith) (omega arith) c.args.leaf
