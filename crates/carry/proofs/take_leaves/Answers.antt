-- The invariant: what is left to take, put where it is taken, makes the whole. Assumes nothing.
use native.Mathlib.Omega.{arith}
use Rattle.carry.proofs.Taking.{taking-in, giving-in, giving-byte, taking-bytes, high-byte, next-remain, remaining-falls, none-remain}
use Rattle.carry.proofs.take_leaves.Goals as goal

pub offset-at-requires : goal.offset-at-requires
offset-at-requires c = let h = taking-in c.requires (c.loop-taking.invariant c.requires) c.loop-taking-test.true in let f = c.requires.after.sized.few in (omega arith, omega arith)

pub word-requires : goal.word-requires
word-requires c = (giving-in c.requires (c.loop-taking.invariant c.requires) c.loop-taking-test.true, omega arith)

pub overflow_cast-next : goal.overflow_cast-next
overflow_cast-next c = let b = giving-byte c.requires (c.loop-taking.invariant c.requires) c.loop-taking-test.true in let w = c.word.ensures.0 in omega arith

pub bounds-next-at : goal.bounds-next-at
bounds-next-at c = let h = taking-bytes c.requires (c.loop-taking.invariant c.requires) c.loop-taking-test.true in omega (arith, c.offset-at.ensures)

pub bounds-next-at-in-loop-taking : goal.bounds-next-at-in-loop-taking
bounds-next-at-in-loop-taking c = rw c.offset-at.ensures (high-byte c.requires (c.loop-taking.invariant c.requires) c.loop-taking-test.true _)

pub word-giving-requires : goal.word-giving-requires
word-giving-requires c = (giving-in c.requires (c.loop-taking.invariant c.requires) c.loop-taking-test.true, omega arith)

pub word-taking-requires : goal.word-taking-requires
word-taking-requires c = (taking-in c.requires (c.loop-taking.invariant c.requires) c.loop-taking-test.true, omega arith)

pub loop-taking-smaller : goal.loop-taking-smaller
loop-taking-smaller c = remaining-falls c.requires (c.loop-taking.invariant c.requires) c.loop-taking-test.true _ c.word-taking.ensures.0

pub loop-taking-preserved : goal.loop-taking-preserved
loop-taking-preserved c = λ g. rw c.offset-at.ensures (next-remain g (c.loop-taking.invariant g) c.loop-taking-test.true _ c.word.ensures.0 _ c.word-giving.ensures.0 _ c.word-taking.ensures.0)

pub returns : goal.returns
returns c = none-remain c.requires (c.loop-taking.invariant c.requires) c.loop-taking-test.false
