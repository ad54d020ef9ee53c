-- By the name's number. Assumes nothing.
use Rattle.typing.proofs.Readiness.{judging-written, judging-counted, ready-closing}
use Rattle.typing.proofs.Judgings.{name-closing, name-outside, name-inside, name_typed}
use Rattle.typing.proofs.simple.of_name.Goals as goal

pub returns-in_default : goal.returns-in_default
returns-in_default c =
    name-closing (judging-written c.requires.0) c.requires.0.there c.requires.1 _ c.word.ensures.0 _ _
    (name-outside (ready-closing c.requires.0 c.args.widths.now (judging-counted c.requires.0)) c.args.scope.now c.word.result _ c.in_default.ensures c.at.ensures)

pub note-requires : goal.note-requires
note-requires c = (
  ready-closing c.requires.0 c.args.widths.now (judging-counted c.requires.0),
  name_typed c.args.scope.now c.word.result _ c.in-Some.ensures.0 c.in-Some.ensures.1 c.requires.0.context,
)

pub returns : goal.returns
returns c =
    name-closing (judging-written c.requires.0) c.requires.0.there c.requires.1 _ c.word.ensures.0 _ _
    (name-inside (ready-closing c.requires.0 c.args.widths.now (judging-counted c.requires.0)) c.args.scope.now c.word.result _ _ c.in-Some.ensures.0 c.in-Some.ensures.1 c.note.ensures.0)
