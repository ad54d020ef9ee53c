-- The class of a byte says what it is.
-- Assumes nothing.
use borrow.Author.Rules.{rules}
use Rattle.lexer.proofs.Runs.{letter-told}
use Rattle.lexer.proofs.is_letter.Goals as goal

pub returns : goal.returns
returns c = letter-told c.args.b c.of.ensures (search rules)
