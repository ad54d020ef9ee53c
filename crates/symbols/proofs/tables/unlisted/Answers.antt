-- Whether the letters are those of `input`.
-- Assumes nothing.
use Rattle.std.proofs.Common.{sym, ap, ◌∙◌, cond}
use Rattle.symbols.proofs.Letters.{input-told}
use Rattle.symbols.proofs.tables.unlisted.Goals as goal

pub returns-then-eq : goal.returns-then-eq
returns-then-eq c = ap (λ x. cond x 2 4) (sym c.if-eq.true ∙ input-told _ _ c.eq.ensures c.as_slice.ensures)

pub returns-else-eq : goal.returns-else-eq
returns-else-eq c = ap (λ x. cond x 2 4) (sym c.if-eq.false ∙ input-told _ _ c.eq.ensures c.as_slice.ensures)
