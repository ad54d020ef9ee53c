-- By the leaf count in the table and the search for a lower pair. Assumes nothing.
use borrow.Author.Tests.{lt-ltb}
use mathlib.Core.Path.{◌∙◌}
use Rattle.records.specs.Kinds.{is_pair}
use Rattle.records.proofs.Kinded.{pair-same, kind-equal}
use Rattle.structure.proofs.LeafCounts.{no-pair-fits, many-leaves, few-leaves-fit}
use Rattle.structure.proofs.types.wrong_type.Goals as goal

pub returns-then-table-rec-gt-MOST_LEAVES : goal.returns-then-table-rec-gt-MOST_LEAVES
returns-then-table-rec-gt-MOST_LEAVES c =
    (lt-ltb _ _ c.if-table-rec-gt-MOST_LEAVES.true ∙ many-leaves c.requires.2 c.args.rec c.requires.0 (kind-equal is_pair c.args.sheet.now c.args.rec c.kind.result (pair-same c.kind.result) c.kind.ensures c.eq.ensures c.if-eq.true) c.if-table-rec-gt-MOST_LEAVES.true, c.note-lower.ensures.1)

pub returns-else-table-rec-gt-MOST_LEAVES : goal.returns-else-table-rec-gt-MOST_LEAVES
returns-else-table-rec-gt-MOST_LEAVES c =
    (c.is_some.ensures ∙ few-leaves-fit c.requires.2 c.args.rec c.requires.0 (kind-equal is_pair c.args.sheet.now c.args.rec c.kind.result (pair-same c.kind.result) c.kind.ensures c.eq.ensures c.if-eq.true) c.if-table-rec-gt-MOST_LEAVES.false c.note-lower.ensures.0, c.note-lower.ensures.1)

pub returns-else-eq : goal.returns-else-eq
returns-else-eq c =
    (c.if-eq.false ∙ no-pair-fits c.args.sheet.now c.args.rec (kind-equal is_pair c.args.sheet.now c.args.rec c.kind.result (pair-same c.kind.result) c.kind.ensures c.eq.ensures c.if-eq.false), c.note-lower.ensures.1)
