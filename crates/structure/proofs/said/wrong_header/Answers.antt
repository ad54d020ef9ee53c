-- The header is of another kind, or a word of it is not what is asked. Assumes nothing.
use mathlib.Core.Path.{◌∙◌, ap}
use Rattle.records.specs.Says.{kind_at, well_said}
use Rattle.structure.proofs.WrongRecords.{no_header, header-tested}
use Rattle.structure.proofs.said.wrong_header.Goals as goal

pub returns-then-ne : goal.returns-then-ne
returns-then-ne c =
    no_header c.args.sheet.now c.kind.result (c.kind.ensures ∙ ap (kind_at c.args.sheet.now) c.header-header.ensures.0) c.ne.ensures c.if-ne.true

pub returns-else-ne : goal.returns-else-ne
returns-else-ne c =
    header-tested c.args.sheet.now c.kind.result (c.kind.ensures ∙ ap (kind_at c.args.sheet.now) c.header-header.ensures.0) c.ne.ensures c.if-ne.false (c.well_said.ensures ∙ ap (well_said c.args.sheet.now) c.header-header.ensures.0)
