-- What the reading of the bytes found is the answer, or the text is handed on.
-- Assumes nothing.
use Rattle.translator.specs.Translated.{outside_grammar}
use Rattle.translator.proofs.LaysOut.{told_at}
use Rattle.translator.proofs.translate_any.Goals as goal

pub returns-in-Some : goal.returns-in-Some
returns-in-Some c = outside_grammar (told_at c.first_illegal.ensures c.in-Some.is)
