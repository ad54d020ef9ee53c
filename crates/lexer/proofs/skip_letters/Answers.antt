-- What is counted is how many bytes pass the test at the beginning.
-- Assumes nothing.
use Rattle.lexer.proofs.Runs.{letters-counted}
use Rattle.lexer.proofs.skip_letters.Goals as goal

pub returns : goal.returns
returns c = letters-counted c.args.text.now c.args.i c.requires c.leading_letters.ensures
