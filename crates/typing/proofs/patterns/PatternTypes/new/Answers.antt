-- No record lies past the last. Assumes nothing.
use Rattle.typing.proofs.TypedPatterns.{no-types-typed}
use Rattle.typing.proofs.patterns.PatternTypes.new.Goals as goal

pub returns : goal.returns
returns c = no-types-typed
