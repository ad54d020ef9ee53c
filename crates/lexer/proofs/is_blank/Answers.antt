-- The class of a byte says what it is.
-- Assumes nothing.
use borrow.Author.Rules.{rules}
use Rattle.lexer.proofs.Runs.{blank-told}
use Rattle.lexer.proofs.is_blank.Goals as goal

pub returns : goal.returns
returns c = blank-told c.args.b c.of.ensures (search rules)
