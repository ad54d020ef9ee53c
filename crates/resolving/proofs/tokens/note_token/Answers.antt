-- A name by its span, any other token by its effect.
-- Assumes nothing.
use Rattle.recognizer.proofs.MachineLaws.{told-true, told-false}
use Rattle.resolving.proofs.Noted.{scope-name-noted, scope-other-noted}
use Rattle.resolving.proofs.tokens.note_token.Goals as goal

pub returns-then-is_small_letter : goal.returns-then-is_small_letter
returns-then-is_small_letter c = scope-name-noted (told-true c.is_small_letter.ensures c.if-is_small_letter.true) c.note_name.ensures

pub returns : goal.returns
returns c = scope-other-noted (told-false c.is_small_letter.ensures c.if-is_small_letter.false) c.note_other.ensures.0
