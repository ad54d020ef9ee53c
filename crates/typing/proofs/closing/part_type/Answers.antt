-- By the kind of the type's record. Assumes nothing.
use mathlib.Core.Path.{◌∙◌, sym}
use Rattle.typing.proofs.Closings.{part-is-type, part-closed}
use Rattle.typing.proofs.KindTests.{pair-tested}
use Rattle.typing.proofs.closing.part_type.Goals as goal

pub note-requires : goal.note-requires
note-requires c = (
  c.requires.0,
  part-is-type c.requires.0 _ _ _ c.requires.1 (sym (pair-tested _ _ _ c.kind.ensures c.eq.ensures) ∙ c.in_ok-require.ensures) c.word-part.ensures.0
      c.requires.2 c.requires.3,
)

pub returns : goal.returns
returns c =
    part-closed c.requires.0 _ _ _ _ (sym (pair-tested _ _ _ c.kind.ensures c.eq.ensures) ∙ c.in_ok-require.ensures) c.word-part.ensures.0 c.note.ensures.0
