-- Assumes nothing.
use borrow.Author.Rules.{rules}
use native.Mathlib.Omega.{arith}
use mathlib.Core.Path.{sym}
use lib.ListN.{length}
use Rattle.answers.proofs.Lowest.{lowest-is, lowest_none}
use Rattle.replay.specs.Replay.{leaf_differs}
use Rattle.replay.proofs.Comparing.{leaf-differing}
use Rattle.replay.proofs.find_differing.Goals as goal

pub returns-then-value-leaf : goal.returns-then-value-leaf
returns-then-value-leaf c = sym (lowest-is (leaf_differs c.args.value.now c.args.other.now) (length c.args.value.now) c.loop-leaf.leaf (search rules) (leaf-differing c.args.value.now c.args.other.now c.loop-leaf.leaf c.if-value-leaf.true) c.loop-leaf.invariant)

pub returns : goal.returns
returns c = sym (lowest_none (leaf_differs c.args.value.now c.args.other.now) (length c.args.value.now) (λ q h. c.loop-leaf.invariant q (let l = c.loop-leaf-test.false in omega arith)))
