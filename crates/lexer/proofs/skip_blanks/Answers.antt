-- What is counted is how many bytes pass the test at the beginning.
-- Assumes nothing.
use Rattle.lexer.proofs.Runs.{blanks-counted}
use Rattle.lexer.proofs.skip_blanks.Goals as goal

pub returns : goal.returns
returns c = blanks-counted c.args.text.now c.args.i c.requires c.leading_blanks.ensures
