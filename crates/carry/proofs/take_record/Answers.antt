-- By the entry of its label, the two shapes, and then leaf by leaf. Assumes nothing.
use native.Mathlib.Omega.{arith}
use Rattle.carry.proofs.Takes.{none-takes, bearer-in, comparing, other-shape, taking, takes-from-giver}
use Rattle.carry.proofs.take_record.Goals as goal

pub returns-in_default : goal.returns-in_default
returns-in_default c = none-takes c.requires.0 c.requires.1 c.label_of.ensures.0 c.label_of.ensures.1 c.bearer.ensures c.in_default.is

pub word-requires : goal.word-requires
word-requires c = (bearer-in c.requires.0 c.requires.1 c.label_of.ensures.0 c.label_of.ensures.1 c.bearer.ensures c.in-Some.is, omega arith)

pub same_shape-requires : goal.same_shape-requires
same_shape-requires c = comparing c.requires.0 c.requires.1 c.label_of.ensures.0 c.label_of.ensures.1 c.bearer.ensures c.in-Some.is c.word.ensures.0 c.word-2.ensures.0

pub word-requires-then-same_shape : goal.word-requires-then-same_shape
word-requires-then-same_shape c = (bearer-in c.requires.0 c.requires.1 c.label_of.ensures.0 c.label_of.ensures.1 c.bearer.ensures c.in-Some.is, omega arith)

pub take_leaves-requires : goal.take_leaves-requires
take_leaves-requires c = taking c.requires.0 c.requires.1 c.label_of.ensures.0 c.label_of.ensures.1 c.bearer.ensures c.in-Some.is c.word.ensures.0 c.word-2.ensures.0 c.same_shape.ensures c.if-same_shape.true c.word-then-same_shape.ensures.0 c.word-then-same_shape-2.ensures.0

pub returns-then-same_shape : goal.returns-then-same_shape
returns-then-same_shape c = takes-from-giver c.requires.0 c.requires.1 c.label_of.ensures.0 c.label_of.ensures.1 c.bearer.ensures c.in-Some.is c.word.ensures.0 c.word-2.ensures.0 c.same_shape.ensures c.if-same_shape.true c.word-then-same_shape.ensures.0 c.word-then-same_shape-2.ensures.0 _ c.take_leaves.ensures

pub returns-else-same_shape : goal.returns-else-same_shape
returns-else-same_shape c = other-shape c.requires.0 c.requires.1 c.label_of.ensures.0 c.label_of.ensures.1 c.bearer.ensures c.in-Some.is c.word.ensures.0 c.word-2.ensures.0 c.same_shape.ensures c.if-same_shape.false
