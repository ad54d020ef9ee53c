-- Assumes nothing.
use Rattle.stimulus.proofs.Holding.{input-typed, input-there, input-takes, input-some, held-by-length, byte_small, held-by-byte, held_whole}
use Rattle.accepted.proofs.Calls.{accepting}
use native.Mathlib.Omega.{arith}
use Rattle.stimulus.proofs.check_stimulus.Goals as goal

pub bounds-checked-t : goal.bounds-checked-t
bounds-checked-t c = input-there (accepting c.args.checked.now) c.word-t.ensures.0

pub not_whole-requires : goal.not_whole-requires
not_whole-requires c = input-some (accepting c.args.checked.now) c.word-t.ensures.0

pub returns-then-not_whole : goal.returns-then-not_whole
returns-then-not_whole c = held-by-length (accepting c.args.checked.now) c.word-t.ensures.0 c.args.stim.now _ c.not_whole.ensures c.if-not_whole.true

pub first_above-requires : goal.first_above-requires
first_above-requires c = (input-typed (accepting c.args.checked.now) c.word-t.ensures.0, input-takes (accepting c.args.checked.now) c.word-t.ensures.0)

pub returns-in-Some : goal.returns-in-Some
returns-in-Some c = held-by-byte (accepting c.args.checked.now) c.word-t.ensures.0 c.args.stim.now _ c.not_whole.ensures c.if-not_whole.false _ c.first_above.ensures _ c.in-Some.is

pub nonzero_div-result : goal.nonzero_div-result
nonzero_div-result c = let s = input-some (accepting c.args.checked.now) c.word-t.ensures.0 in omega arith

pub returns : goal.returns
returns c = held_whole (accepting c.args.checked.now) c.word-t.ensures.0 c.args.stim.now _ c.not_whole.ensures c.if-not_whole.false _ c.first_above.ensures c.in_default.is

pub word-t-requires : goal.word-t-requires
word-t-requires c = ((accepting c.args.checked.now).sized.some, omega arith)

pub overflow_cast-result : goal.overflow_cast-result
overflow_cast-result c = omega (arith, byte_small (accepting c.args.checked.now) c.word-t.ensures.0 c.args.stim.now _ c.not_whole.ensures c.if-not_whole.false _ c.first_above.ensures _ c.in-Some.is)
