-- Assumes nothing.
use native.Mathlib.Omega.{arith}
use native.Mathlib.Numerals.{add-one}
use mathlib.Core.Path.{◌≡◌, ◌∙◌}
use Prim.Native.Nat.{ℕ, ◌+◌, ◌*◌, ◌-◌}
use borrow.Author.Rules.{rules}
use Rattle.changes.proofs.Loops.{change-at-place, cycle-few, cycle-ended}
use Rattle.changes.proofs.changes_in.Goals as goal

pub overflow_add-changes : goal.overflow_add-changes
overflow_add-changes c = let few = cycle-few c.args.outputs.width c.args.outputs.leaves.now c.args.k (c.loop-at.at - c.args.k * c.args.outputs.width) in let inv = c.loop-at.invariant in search rules

pub loop-at-preserved : goal.loop-at-preserved
loop-at-preserved c =
    let leaf : ℕ = c.loop-at.at - c.args.k * c.args.outputs.width in
    let next : c.loop-at.at + 1 - c.args.k * c.args.outputs.width ≡ leaf + 1 = omega arith in
    let here = change-at-place c.args.outputs.width c.args.outputs.leaves.now c.args.k leaf c.loop-at.at (omega arith) (omega arith) in
    let one = c.changed-changes.ensures in
    let inv = c.loop-at.invariant in
    rw (next, add-one leaf) (omega arith)

pub returns-clause-changes : goal.returns-clause-changes
returns-clause-changes c = c.loop-at.invariant ∙ cycle-ended c.args.outputs.width c.args.outputs.leaves.now c.args.k (c.loop-at.at - c.args.k * c.args.outputs.width) (omega arith)

pub returns-clause-few : goal.returns-clause-few
returns-clause-few c = let few = cycle-few c.args.outputs.width c.args.outputs.leaves.now c.args.k (c.loop-at.at - c.args.k * c.args.outputs.width) in let inv = c.loop-at.invariant in omega arith
