-- A flat type has one leaf, a pair type those of its parts, any other record none. Assumes nothing.
use borrow.Author.Rules.{rules}
use native.Mathlib.Omega.{arith}
use mathlib.Core.Path.{sym, ◌∙◌, ap}
use Rattle.records.specs.Kinded.{kind_meant}
use Rattle.structure.proofs.LeafCounts.{counts-flat, counts-pair, first_counted, second-counted}
use Rattle.structure.proofs.types.count_type.Goals as goal

pub returns-in-FlatType : goal.returns-in-FlatType
returns-in-FlatType c = counts-flat c.requires.2 (search rules) (sym c.kind.ensures ∙ ap kind_meant c.in-FlatType.is)

pub bounds-table-a : goal.bounds-table-a
bounds-table-a c =
    let p = first_counted c.requires.2 (search rules)
    c.requires.1 c.requires.0 (sym c.kind.ensures ∙ ap kind_meant c.in-PairType.is) c.word-a.ensures.0 in
    omega arith

pub bounds-table-b : goal.bounds-table-b
bounds-table-b c =
    let p = second-counted c.requires.2 (search rules)
    c.requires.1 c.requires.0 (sym c.kind.ensures ∙ ap kind_meant c.in-PairType.is) c.word-b.ensures.0 in
    omega arith

pub returns-in-PairType : goal.returns-in-PairType
returns-in-PairType c =
    counts-pair c.requires.2 (search rules)
    c.requires.1 c.requires.0 (sym c.kind.ensures ∙ ap kind_meant c.in-PairType.is) c.word-a.ensures.0 c.word-b.ensures.0 c.capped_sum.ensures
