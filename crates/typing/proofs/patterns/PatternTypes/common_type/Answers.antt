-- By what follows the alternative. Assumes nothing.
use Rattle.typing.proofs.TypedPatterns.{next_low, last-alternative, entry-same, entry-other}
use Rattle.typing.proofs.patterns.PatternTypes.common_type.Goals as goal
use Rattle.typing.proofs.patterns.PatternTypes.common_type.Goals.{else-following-ne0-via-then-following-ne0+else-ne, else-following-ne0-via-else-following-ne0}

pub of-requires : goal.of-requires
of-requires c = (next_low c.requires.0 c.requires.1 c.word-following.ensures.0 c.if-following-ne0.true, c.requires.0.above.long)

pub returns-then-ne : goal.returns-then-ne
returns-then-ne c = entry-other c.requires.0 c.requires.1 c.word-following.ensures.0 c.if-following-ne0.true _ c.one_type-one.ensures.0 _ c.of.ensures _ c.ne.ensures c.if-ne.true

pub returns : goal.returns
returns c = (
  elim c.else-following-ne0.branch [
    | else-following-ne0-via-then-following-ne0+else-ne w ↦
        entry-same c.requires.0 c.requires.1 c.word-following.ensures.0 w.if-following-ne0.true _ c.one_type-one.ensures.0 _ w.of.ensures _ w.ne.ensures w.if-ne.false
    | else-following-ne0-via-else-following-ne0 w ↦ last-alternative c.requires.0 c.requires.1 c.word-following.ensures.0 _ c.one_type-one.ensures.0 w.if-following-ne0.false
  ],
  c.one_type-one.ensures.1,
)
