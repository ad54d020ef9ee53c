-- In each arm the kind is a constructor, whose row antt looks up. Assumes nothing.
use Rattle.records.specs.Kinds.{row_of}
use Rattle.records.specs.Kinded.{asks_of}
use Rattle.records.proofs.kinds.Kind.asks.Goals as goal

pub returns-in-Header : goal.returns-in-Header
unfolding asks_of row_of
returns-in-Header c = rw c.in-Header.is

pub returns-in-FlatType : goal.returns-in-FlatType
unfolding asks_of row_of
returns-in-FlatType c = rw c.in-FlatType.is

pub returns-in-PairType : goal.returns-in-PairType
unfolding asks_of row_of
returns-in-PairType c = rw c.in-PairType.is

pub returns-in-Constant : goal.returns-in-Constant
unfolding asks_of row_of
returns-in-Constant c = rw c.in-Constant.is

pub returns-in-Name : goal.returns-in-Name
unfolding asks_of row_of
returns-in-Name c = rw c.in-Name.is

pub returns-in-Pair : goal.returns-in-Pair
unfolding asks_of row_of
returns-in-Pair c = rw c.in-Pair.is

pub returns-in-First : goal.returns-in-First
unfolding asks_of row_of
returns-in-First c = rw c.in-First.is

pub returns-in-Second : goal.returns-in-Second
unfolding asks_of row_of
returns-in-Second c = rw c.in-Second.is

pub returns-in-Let : goal.returns-in-Let
unfolding asks_of row_of
returns-in-Let c = rw c.in-Let.is

pub returns-in-Feedback : goal.returns-in-Feedback
unfolding asks_of row_of
returns-in-Feedback c = rw c.in-Feedback.is

pub returns-in-If : goal.returns-in-If
unfolding asks_of row_of
returns-in-If c = rw c.in-If.is

pub returns-in-Delay : goal.returns-in-Delay
unfolding asks_of row_of
returns-in-Delay c = rw c.in-Delay.is

pub returns-in-WholePattern : goal.returns-in-WholePattern
unfolding asks_of row_of
returns-in-WholePattern c = rw c.in-WholePattern.is

pub returns-in-ConstructorPattern : goal.returns-in-ConstructorPattern
unfolding asks_of row_of
returns-in-ConstructorPattern c = rw c.in-ConstructorPattern.is

pub returns-in-PairPattern : goal.returns-in-PairPattern
unfolding asks_of row_of
returns-in-PairPattern c = rw c.in-PairPattern.is

pub returns-in-Leaf : goal.returns-in-Leaf
unfolding asks_of row_of
returns-in-Leaf c = rw c.in-Leaf.is

pub returns-in-Unknown : goal.returns-in-Unknown
unfolding asks_of row_of
returns-in-Unknown c = rw c.in-Unknown.is
