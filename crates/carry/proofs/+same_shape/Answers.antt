-- The measure is the old sheet's type, whose parts are lower records. Assumes nothing.
use native.Mathlib.Omega.{arith}
use mathlib.Core.Path.{sym, ◌∙◌}
use Rattle.carry.proofs.Shapes.{shape-pair, flat-and-pair, pair-and-flat, flats, first-shapes, second-shapes, firsts-unlike, pair-shapes}
use Rattle.carry.proofs.+same_shape.Goals as goal

pub same_shape-requires : goal.same_shape-requires
same_shape-requires t c =
    let e = shape-pair c.requires.before _ c.kind.ensures c.in_default.not-FlatType in
    let d = shape-pair c.requires.after _ c.kind-in_default.ensures c.in_default-kind-2.not-FlatType in
    let p = first-shapes c.requires _ c.word-a.ensures.0 _ c.word-b.ensures.0 e d in
    (omega (arith, c.decreases, p.1), p.0)

pub same_shape-requires-then-same_shape : goal.same_shape-requires-then-same_shape
same_shape-requires-then-same_shape t c =
    let e = shape-pair c.requires.before _ c.kind.ensures c.in_default.not-FlatType in
    let d = shape-pair c.requires.after _ c.kind-in_default.ensures c.in_default-kind-2.not-FlatType in
    let p = second-shapes c.requires _ c.word-a.ensures.0 _ c.word-b.ensures.0 e d _ _ c.word.ensures.0 c.word-then-same_shape.ensures.0 in
    (omega (arith, c.decreases, p.1), p.0)

pub returns-in-FlatType-kind : goal.returns-in-FlatType-kind
returns-in-FlatType-kind t c = flats c.requires _ c.word-a.ensures.0 _ c.word-b.ensures.0 (sym c.in-FlatType.ensures) (sym c.in-FlatType-kind.ensures)

pub returns-in_default-kind : goal.returns-in_default-kind
returns-in_default-kind t c = flat-and-pair c.requires (sym c.in-FlatType.ensures) (shape-pair c.requires.after _ c.kind-in-FlatType.ensures c.in_default-kind.not-FlatType)

pub returns-in-FlatType-kind-2 : goal.returns-in-FlatType-kind-2
returns-in-FlatType-kind-2 t c = pair-and-flat c.requires (shape-pair c.requires.before _ c.kind.ensures c.in_default.not-FlatType) (sym c.in-FlatType-kind-2.ensures)

pub returns-then-same_shape : goal.returns-then-same_shape
returns-then-same_shape t c =
    let e = shape-pair c.requires.before _ c.kind.ensures c.in_default.not-FlatType in
    let d = shape-pair c.requires.after _ c.kind-in_default.ensures c.in_default-kind-2.not-FlatType in
    pair-shapes c.requires _ c.word-a.ensures.0 _ c.word-b.ensures.0 e d _ c.same_shape.ensures c.if-same_shape.true _ _ c.word.ensures.0 c.word-then-same_shape.ensures.0 _ c.same_shape-then-same_shape.ensures

pub returns-else-same_shape : goal.returns-else-same_shape
returns-else-same_shape t c =
    let e = shape-pair c.requires.before _ c.kind.ensures c.in_default.not-FlatType in
    let d = shape-pair c.requires.after _ c.kind-in_default.ensures c.in_default-kind-2.not-FlatType in
    c.if-same_shape.false ∙ firsts-unlike c.requires _ c.word-a.ensures.0 _ c.word-b.ensures.0 e d _ c.same_shape.ensures c.if-same_shape.false
