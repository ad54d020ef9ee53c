-- Those passed begin no pattern.
-- Assumes nothing.
use Prim.Native.Nat.{suc, ◌+◌, ◌-◌, ◌<◌, ◌≤◌}
use native.Mathlib.Omega.{arith}
use borrow.Author.Rules.{rules}
use mathlib.Core.Path.{◌≡◌, sym, ap, subst, ◌∙◌}
use lib.ListN.{length, get_or}
use Rattle.instructions.specs.Instruction.{close_constant}
use Rattle.instructions.specs.Assembly.{begins_pattern}
use Rattle.instructions.specs.declared.Op.TheVariants.{BeginPattern}
use Rattle.ordering.proofs.ListLaws.{PatternSought, pattern-passed}
use Rattle.ordering.proofs.OpLaws.{begins-no-pattern}
use Rattle.ordering.proofs.code.pattern_start.Goals as goal

pub loop-k-preserved : goal.loop-k-preserved
loop-k-preserved c =
    let W = c.args.waiting.now in
    let k = c.loop-k.k in
    let other : (c.get.result.op ≡ BeginPattern → ⊥) = search rules in
    let below : k ≤ length W = (let b = c.loop-k.auto.k in let e = c.len-k.ensures in omega arith) in
    let above : 0 < k = c.loop-k-test.true in
    let at : length W - suc (k - 1) ≡ length W - k = omega arith in
    let next : length W - k + 1 ≡ length W - (k - 1) = omega arith in
    subst (PatternSought W) next
    (pattern-passed c.loop-k.invariant (omega arith)
    (ap (λ i. begins_pattern (get_or W i close_constant)) (sym at)
    ∙ ap begins_pattern (sym c.get.ensures)
    ∙ begins-no-pattern c.get.result.op c.get.result.first c.get.result.second other))
