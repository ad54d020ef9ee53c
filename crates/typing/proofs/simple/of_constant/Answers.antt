-- By the leaves. Assumes nothing.
use mathlib.Core.Path.{refl, sym, ◌∙◌}
use Rattle.std.proofs.lemmas.Result.{err_from_is_err_and}
use Rattle.records.specs.Kinds.{expression, constant}
use Rattle.records.proofs.Table.{ask_of_kind}
use Rattle.typing.proofs.Bounds.{ground-written}
use Rattle.typing.proofs.Closings.{closing-counted}
use Rattle.typing.proofs.Readiness.{leaves-there, typed-word}
use Rattle.typing.proofs.Judgings.{constant-fault, constant_typed}
use Rattle.typing.proofs.simple.of_constant.Goals as goal

pub leaves_fit-requires : goal.leaves_fit-requires
leaves_fit-requires c =
    let l = leaves-there c.requires.0 (expression constant) c.requires.1 3 refl (unfold ask_of_kind in refl) _ c.word.ensures.0 in
    (c.requires.0.ground.passes, typed-word c.requires.0 (expression constant) c.requires.1 2 refl (unfold ask_of_kind in refl) _ c.word-t.ensures.0, l.0, l.1)

pub returns-in_err-require : goal.returns-in_err-require
returns-in_err-require c =
    λ Γ.
    let p = err_from_is_err_and c.from_residual.result c.from_residual.ensures.1 in
    rw (p.1, p.2)
    (constant-fault (ground-written c.requires.0.ground) c.requires.0.there c.requires.1 _ _ c.word-t.ensures.0 c.word.ensures.0 _ _
    (sym c.leaves_fit.ensures ∙ c.in_err-require.ensures.0) c.in_err-require.ensures.1 refl (closing-counted c.requires.0))

pub note-requires : goal.note-requires
note-requires c = (c.requires.0, typed-word c.requires.0 (expression constant) c.requires.1 2 refl (unfold ask_of_kind in refl) _ c.word-t.ensures.0)

pub returns : goal.returns
returns c =
    λ Γ.
    constant_typed (ground-written c.requires.0.ground) c.requires.0.there c.requires.1 _ _ c.word-t.ensures.0 c.word.ensures.0 _ _
    (sym c.leaves_fit.ensures ∙ c.in_ok-require.ensures) refl c.note.ensures.0 c.note.ensures.1
