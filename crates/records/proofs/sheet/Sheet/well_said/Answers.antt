-- The word at which the loop ends is not what the table asks. Assumes nothing.
use native.Mathlib.Omega.{arith}
use mathlib.Core.Path.{sym, ◌∙◌}
use borrow.Author.Count.{below_more}
use Rattle.records.proofs.Asked.{all-meet, one-fails}
use Rattle.records.proofs.Kinded.{meets-asked}
use Rattle.records.proofs.sheet.Sheet.well_said.Goals as goal

pub loop-k-preserved : goal.loop-k-preserved
loop-k-preserved c =
    below_more _ _ c.loop-k.invariant
    (λ low. sym (meets-asked c.args.self.now c.args.rec c.loop-k.k c.kind.result c.asks-asks.result _ c.word.result _ c.kind.ensures c.asks-asks.ensures c.loop-k-test.true c.word.ensures.0 c.meets.ensures) ∙ c.if-not-meets.false)

pub returns-then-not-meets : goal.returns-then-not-meets
returns-then-not-meets c =
    sym
    (one-fails c.args.self.now c.args.rec c.loop-k.k (omega arith) c.loop-k-test.true
    (sym (meets-asked c.args.self.now c.args.rec c.loop-k.k c.kind.result c.asks-asks.result _ c.word.result _ c.kind.ensures c.asks-asks.ensures c.loop-k-test.true c.word.ensures.0 c.meets.ensures) ∙ c.if-not-meets.true))

pub returns : goal.returns
returns c = sym (all-meet c.args.self.now c.args.rec (λ j low high. c.loop-k.invariant j (omega arith) low))
