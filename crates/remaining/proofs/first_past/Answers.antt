-- Assumes nothing.
use native.Mathlib.Omega.{arith}
use mathlib.Core.Path.{sym, ◌∙◌}
use Rattle.records.specs.Words.{count}
use Rattle.possible.specs.Possible.{past_sets}
use Rattle.answers.proofs.Lowest.{lowest-is, lowest_none}
use Rattle.remaining.proofs.first_past.Goals as goal

pub returns-then-is_past : goal.returns-then-is_past
returns-then-is_past c = sym (lowest-is (past_sets c.args.sheet.now) (count c.args.sheet.now) c.loop-rec.rec (let e = c.records-rec-end.ensures.counted in let h = c.loop-rec-test.true in omega arith) (sym c.is_past.ensures ∙ c.if-is_past.true) c.loop-rec.invariant)

pub returns : goal.returns
returns c = sym (lowest_none (past_sets c.args.sheet.now) (count c.args.sheet.now) (λ q h. c.loop-rec.invariant q (let e = c.records-rec-end.ensures.counted in let k = c.loop-rec-test.false in omega arith)))
