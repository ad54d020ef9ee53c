-- The record at which the loop ends is the lowest that is wrong. Assumes nothing.
use native.Mathlib.Omega.{arith}
use Prim.Native.Nat.{ℕ}
use mathlib.Core.Path.{◌≡◌, sym, ◌∙◌, subst}
use Rattle.records.specs.Words.{count}
use Rattle.structure.specs.Rules.{wrong_type}
use Rattle.structure.specs.PairIndex.{Indexed}
use Rattle.answers.proofs.Lowest.{lowest-is, lowest_none}
use Rattle.structure.proofs.types.first_wrong_type.Goals as goal

pub returns-then-wrong_type : goal.returns-then-wrong_type
returns-then-wrong_type c =
    let e = c.records-rec-end.ensures.counted in
    (sym (lowest-is (wrong_type c.args.sheet.now) (count c.args.sheet.now) c.loop-rec.rec (omega arith) (sym c.wrong_type.ensures.0 ∙ c.if-wrong_type.true) c.loop-rec.invariant.0), λ q. let z : ◌≡◌ {A = ℕ} 0 1 = cc in absurd (omega arith))

pub returns : goal.returns
returns c =
    let n = c.records-rec-end.ensures.counted in
    let z = c.loop-rec.auto in
    let e : c.loop-rec.rec ≡ count c.args.sheet.now = omega arith in
    (sym (lowest_none (wrong_type c.args.sheet.now) (count c.args.sheet.now) (λ q h. c.loop-rec.invariant.0 q (omega arith))), λ _. subst (λ (m : ℕ). Indexed c.args.sheet.now m c.loop-rec.index) e c.loop-rec.invariant.1)
