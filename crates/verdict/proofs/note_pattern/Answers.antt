-- By the pattern's kind. Assumes nothing.
use native.Mathlib.Omega.{arith}
use Rattle.structure.proofs.Passes.{length-fits}
use mathlib.Core.Path.{refl, sym}
use Rattle.verdict.proofs.Widths.{whole-in-table, whole-widths, constructor-widths, first-in-table, second-in-table, first-width-few, second-width-few, parts-widths}
use Rattle.verdict.proofs.note_pattern.Goals as goal

pub bounds-widths-word : goal.bounds-widths-word
bounds-widths-word c = whole-in-table _ _ c.requires.0 refl c.requires.1 c.requires.2 (sym c.in-WholePattern.ensures) _ c.word.ensures.0

pub bounds-widths-rec : goal.bounds-widths-rec
bounds-widths-rec c = omega (arith, (length-fits _ c.requires.0.length).1, c.requires.1)

pub bounds-widths-rec-in-ConstructorPattern : goal.bounds-widths-rec-in-ConstructorPattern
bounds-widths-rec-in-ConstructorPattern c = omega (arith, (length-fits _ c.requires.0.length).1, c.requires.1)

pub bounds-widths-word-in-PairPattern : goal.bounds-widths-word-in-PairPattern
bounds-widths-word-in-PairPattern c = first-in-table _ _ c.requires.0 refl c.requires.1 c.requires.2 (sym c.in-PairPattern.ensures) _ c.word-in-PairPattern.ensures.0

pub bounds-widths-word-in-PairPattern-2 : goal.bounds-widths-word-in-PairPattern-2
bounds-widths-word-in-PairPattern-2 c = second-in-table _ _ c.requires.0 refl c.requires.1 c.requires.2 (sym c.in-PairPattern.ensures) _ c.word-in-PairPattern-2.ensures.0

pub capped_sum-requires : goal.capped_sum-requires
capped_sum-requires c = (
  first-width-few _ _ c.requires.0 refl c.requires.1 c.requires.2 (sym c.in-PairPattern.ensures) _ c.word-in-PairPattern.ensures.0,
  second-width-few _ _ c.requires.0 refl c.requires.1 c.requires.2 (sym c.in-PairPattern.ensures) _ c.word-in-PairPattern-2.ensures.0,
)

pub bounds-widths-rec-in-PairPattern : goal.bounds-widths-rec-in-PairPattern
bounds-widths-rec-in-PairPattern c = omega (arith, (length-fits _ c.requires.0.length).1, c.requires.1)

pub returns-in-WholePattern : goal.returns-in-WholePattern
returns-in-WholePattern c = whole-widths _ _ c.requires.0 refl c.requires.1 c.requires.2 (sym c.in-WholePattern.ensures) _ c.word.ensures.0

pub returns-in-ConstructorPattern : goal.returns-in-ConstructorPattern
returns-in-ConstructorPattern c = constructor-widths _ _ c.requires.0 refl c.requires.1 c.requires.2 (sym c.in-ConstructorPattern.ensures)

pub returns-in-PairPattern : goal.returns-in-PairPattern
returns-in-PairPattern c =
    rw c.capped_sum.ensures
    (parts-widths _ _ c.requires.0 refl c.requires.1 c.requires.2 (sym c.in-PairPattern.ensures) _ _ c.word-in-PairPattern.ensures.0 c.word-in-PairPattern-2.ensures.0)
