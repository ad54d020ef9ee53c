-- Assumes nothing.
use borrow.Author.Rules.{rules}
use native.Mathlib.Omega.{arith}
use mathlib.Core.Path.{refl, sym}
use lib.ListN.{length}
use Rattle.answers.proofs.Lowest.{lowest-is, lowest_none}
use Rattle.stimulus.specs.Tests.{above}
use Rattle.stimulus.proofs.Tests.{is-above}
use Rattle.stimulus.proofs.find_above.Goals as goal

pub returns-then-bounds-i : goal.returns-then-bounds-i
returns-then-bounds-i c = sym (lowest-is (above c.args.bounds.now c.args.stim.now) (length c.args.stim.now) c.loop-i.i (search rules) (is-above c.args.bounds.now c.args.stim.now c.loop-i.i _ refl c.if-bounds-i.true) c.loop-i.invariant)

pub returns : goal.returns
returns c = sym (lowest_none (above c.args.bounds.now c.args.stim.now) (length c.args.stim.now) (λ q h. c.loop-i.invariant q (let l = c.loop-i-test.false in omega arith)))
