-- In each arm the kind is a number, whose row antt looks up; in the last it is the number of no row. Assumes nothing.
use Rattle.records.specs.Kinds.{kind_of, row_of}
use Rattle.records.proofs.CodeTable.{unknown-other}
use Rattle.records.proofs.kinds.KindFromUsize.from.Goals as goal

pub returns-in-1 : goal.returns-in-1
unfolding kind_of row_of
returns-in-1 c = rw c.in-1.is

pub returns-in-16 : goal.returns-in-16
unfolding kind_of row_of
returns-in-16 c = rw c.in-16.is

pub returns-in-17 : goal.returns-in-17
unfolding kind_of row_of
returns-in-17 c = rw c.in-17.is

pub returns-in-32 : goal.returns-in-32
unfolding kind_of row_of
returns-in-32 c = rw c.in-32.is

pub returns-in-33 : goal.returns-in-33
unfolding kind_of row_of
returns-in-33 c = rw c.in-33.is

pub returns-in-34 : goal.returns-in-34
unfolding kind_of row_of
returns-in-34 c = rw c.in-34.is

pub returns-in-35 : goal.returns-in-35
unfolding kind_of row_of
returns-in-35 c = rw c.in-35.is

pub returns-in-36 : goal.returns-in-36
unfolding kind_of row_of
returns-in-36 c = rw c.in-36.is

pub returns-in-37 : goal.returns-in-37
unfolding kind_of row_of
returns-in-37 c = rw c.in-37.is

pub returns-in-38 : goal.returns-in-38
unfolding kind_of row_of
returns-in-38 c = rw c.in-38.is

pub returns-in-39 : goal.returns-in-39
unfolding kind_of row_of
returns-in-39 c = rw c.in-39.is

pub returns-in-40 : goal.returns-in-40
unfolding kind_of row_of
returns-in-40 c = rw c.in-40.is

pub returns-in-48 : goal.returns-in-48
unfolding kind_of row_of
returns-in-48 c = rw c.in-48.is

pub returns-in-49 : goal.returns-in-49
unfolding kind_of row_of
returns-in-49 c = rw c.in-49.is

pub returns-in-50 : goal.returns-in-50
unfolding kind_of row_of
returns-in-50 c = rw c.in-50.is

pub returns-in-64 : goal.returns-in-64
unfolding kind_of row_of
returns-in-64 c = rw c.in-64.is

pub returns-in_default : goal.returns-in_default
unfolding kind_of row_of
returns-in_default c = rw (unknown-other c.args.number c.in_default.in_default-own.rest)
