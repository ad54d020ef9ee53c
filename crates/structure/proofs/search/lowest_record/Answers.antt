-- The record at which the loop ends is the lowest that passes. Assumes nothing.
use native.Mathlib.Omega.{arith}
use mathlib.Core.Path.{sym, ◌∙◌}
use borrow.Author.Count.{below_more}
use Rattle.records.specs.Words.{count}
use Rattle.answers.proofs.Lowest.{lowest-is, lowest_none}
use Rattle.structure.proofs.search.lowest_record.Goals as goal

pub loop-rec-init : goal.loop-rec-init
loop-rec-init g c = λ p a. a.0

pub returns-then-test : goal.returns-then-test
returns-then-test g c =
    λ p a.
    let e = c.records-rec-end.ensures.counted in
    sym (lowest-is p (count c.args.sheet.now) c.loop-rec.rec (omega arith) (sym (a.1 c.loop-rec.rec _ (omega arith) (omega arith) c.test.ensures) ∙ c.if-test.true) (c.loop-rec.invariant p a))

pub loop-rec-preserved : goal.loop-rec-preserved
loop-rec-preserved g c =
    λ p a.
    let e = c.records-rec-end.ensures.counted in
    below_more _ _ (c.loop-rec.invariant p a) (sym (a.1 c.loop-rec.rec _ (omega arith) (omega arith) c.test.ensures) ∙ c.if-test.false)

pub returns : goal.returns
returns g c =
    λ p a.
    let e = c.records-rec-end.ensures.counted in
    sym (lowest_none p (count c.args.sheet.now) (λ q h. c.loop-rec.invariant p a q (omega arith)))
