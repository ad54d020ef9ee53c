-- By the depths and nestings. Assumes nothing.
use Rattle.records.specs.Kinds.{expressions}
use borrow.Author.Tests.{lt-ltb}
use mathlib.Core.Path.{◌∙◌}
use Rattle.records.proofs.Kinded.{same-expression, sort-equal}
use Rattle.structure.proofs.DepthCounts.{no-expression, deep, by-nesting}
use Rattle.structure.proofs.depth.Placements.too_deep.Goals as goal

pub returns-then-self-rec-gt-MOST_DEPTH : goal.returns-then-self-rec-gt-MOST_DEPTH
returns-then-self-rec-gt-MOST_DEPTH c =
    lt-ltb _ _ c.if-self-rec-gt-MOST_DEPTH.true
    ∙ deep c.requires.2 c.args.rec c.requires.0
    (sort-equal c.args.sheet.now c.args.rec c.kind.result c.sort.result expressions (same-expression c.sort.result) c.sort.ensures c.kind.ensures c.eq.ensures c.if-eq.true)
    c.if-self-rec-gt-MOST_DEPTH.true

pub returns-else-self-rec-gt-MOST_DEPTH : goal.returns-else-self-rec-gt-MOST_DEPTH
returns-else-self-rec-gt-MOST_DEPTH c =
    by-nesting c.requires.2 c.args.rec c.requires.0
    (sort-equal c.args.sheet.now c.args.rec c.kind.result c.sort.result expressions (same-expression c.sort.result) c.sort.ensures c.kind.ensures c.eq.ensures c.if-eq.true)
    c.if-self-rec-gt-MOST_DEPTH.false

pub returns-else-eq : goal.returns-else-eq
returns-else-eq c =
    c.if-eq.false
    ∙ no-expression c.args.sheet.now c.args.rec
    (sort-equal c.args.sheet.now c.args.rec c.kind.result c.sort.result expressions (same-expression c.sort.result) c.sort.ensures c.kind.ensures c.eq.ensures c.if-eq.false)
