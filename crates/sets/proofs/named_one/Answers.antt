-- Assumes nothing.
use borrow.Author.Rules.{rules}
use mathlib.Core.Path.{sym}
use Rattle.sets.proofs.Naming.{named-type-in, whole-count-few, whole-named, named-few, constructor-named}
use Rattle.sets.proofs.named_one.Goals as goal

pub word-requires-in-WholePattern : goal.word-requires-in-WholePattern
word-requires-in-WholePattern c = (named-type-in c.requires.1 (sym c.in-WholePattern.ensures) c.word.ensures.0, search rules)

pub all_of-requires : goal.all_of-requires
all_of-requires c = whole-count-few c.requires.1 (sym c.in-WholePattern.ensures) c.word.ensures.0 c.word-in-WholePattern.ensures.0

pub returns-in-WholePattern : goal.returns-in-WholePattern
returns-in-WholePattern c = whole-named c.requires.1 (sym c.in-WholePattern.ensures) c.word.ensures.0 c.word-in-WholePattern.ensures.0 c.all_of.ensures

pub one_of-requires : goal.one_of-requires
one_of-requires c = named-few c.requires.1 _ c.kind.ensures c.in_default.not-WholePattern c.word-in_default.ensures.0

pub returns-in_default : goal.returns-in_default
returns-in_default c = constructor-named c.requires.1 _ c.kind.ensures c.in_default.not-WholePattern c.word-in_default.ensures.0 c.one_of.ensures
