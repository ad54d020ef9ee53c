-- By the record's kind, and by what the slot holds at which the search for its parts ends. Assumes nothing.
use borrow.Author.Rules.{rules}
use mathlib.Core.Path.{sym, ◌∙◌, ap}
use Rattle.std.specs.Option.{is_some}
use Rattle.records.specs.Kinds.{is_pair}
use Rattle.records.proofs.Kinded.{pair-same, kind-unequal}
use Rattle.structure.proofs.PairSearch.{no-pair-noted, lower-noted, pair-noted, none-given, some-given}
use Rattle.structure.proofs.pairs.PairIndex.note.Goals as goal

pub returns-then-ne : goal.returns-then-ne
returns-then-ne c = no-pair-noted c.requires.1 (kind-unequal is_pair c.args.sheet.now c.args.rec c.kind.result (pair-same c.kind.result) c.kind.ensures c.ne.ensures c.if-ne.true)

pub returns-then-is_none : goal.returns-then-is_none
returns-then-is_none c =
    let p = pair-noted c.requires.1 (kind-unequal is_pair c.args.sheet.now c.args.rec c.kind.result (pair-same c.kind.result) c.kind.ensures c.ne.ensures c.if-ne.false)
    c.word.ensures.0 c.word-2.ensures.0 c.slot_of-slot.ensures.0 (search rules)
    (none-given _ (ap is_some (sym c.held-lower.ensures) ∙ c.if-is_none.ensures)) in
    (c.held-lower.ensures ∙ p.0, rw c.self.view_is p.1)

pub returns-else-is_none : goal.returns-else-is_none
returns-else-is_none c =
    let p = lower-noted c.requires.1 (kind-unequal is_pair c.args.sheet.now c.args.rec c.kind.result (pair-same c.kind.result) c.kind.ensures c.ne.ensures c.if-ne.false)
    c.word.ensures.0 c.word-2.ensures.0 c.slot_of-slot.ensures.0
    (some-given _ (ap is_some (sym c.held-lower.ensures) ∙ c.if-is_none.ensures)) in
    (c.held-lower.ensures ∙ p.0, p.1)
