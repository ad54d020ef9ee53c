-- Assumes nothing.
use mathlib.Core.Path.{sym}
use Rattle.remaining.proofs.PastRecords.{past-feedback, past-flat, past-neither}
use Rattle.remaining.proofs.is_past.Goals as goal

pub returns-in-Feedback : goal.returns-in-Feedback
returns-in-Feedback c = past-feedback _ _ (sym c.in-Feedback.ensures)

pub returns-in-FlatType : goal.returns-in-FlatType
returns-in-FlatType c = past-flat _ _ (sym c.in-FlatType.ensures) c.word.ensures.0

pub returns-in_default : goal.returns-in_default
returns-in_default c = past-neither _ _ _ c.kind.ensures c.in_default.not-Feedback c.in_default.not-FlatType
