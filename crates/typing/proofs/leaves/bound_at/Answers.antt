-- The invariant: the leaf `at` of `flat` is leaf i of t. Each turn goes to a lower record. Assumes nothing.
use native.Mathlib.Omega.{arith}
use Rattle.typing.proofs.Bounds.{reached-first, reached-second, reached-flat, parts-lower}
use Rattle.typing.proofs.KindTests.{is-pair-type, no-pair-type}
use Rattle.typing.proofs.leaves.bound_at.Goals as goal

pub kind-requires : goal.kind-requires
kind-requires c = (c.loop-first.invariant c.requires.0).typed.there

pub word-first-requires : goal.word-first-requires
word-first-requires c = ((c.loop-first.invariant c.requires.0).typed.there, omega arith)

pub bounds-table-first : goal.bounds-table-first
bounds-table-first c =
    let r = c.loop-first.invariant c.requires.0 in
    let p = parts-lower c.requires.0 _ _ _ _ r (is-pair-type _ _ _ c.kind.ensures c.eq.ensures c.loop-first-test.true) in
    let h = r.typed.there in
    let few = c.requires.0.sized.few in
    omega (arith, c.word-first.ensures.0)

pub loop-first-smaller-then-at-w : goal.loop-first-smaller-then-at-w
loop-first-smaller-then-at-w c =
    let r = c.loop-first.invariant c.requires.0 in
    let p = parts-lower c.requires.0 _ _ _ _ r (is-pair-type _ _ _ c.kind.ensures c.eq.ensures c.loop-first-test.true) in
    omega (arith, c.word-first.ensures.0)

pub loop-first-preserved-then-at-w : goal.loop-first-preserved-then-at-w
loop-first-preserved-then-at-w c =
    λ g.
    reached-first g _ _ _ _ (c.loop-first.invariant g) (is-pair-type _ _ _ c.kind.ensures c.eq.ensures c.loop-first-test.true) _ _
    c.word-first.ensures.0 c.from-w.ensures c.if-at-w.true

pub word-flat-requires : goal.word-flat-requires
word-flat-requires c = ((c.loop-first.invariant c.requires.0).typed.there, omega arith)

pub loop-first-smaller : goal.loop-first-smaller
loop-first-smaller c =
    let r = c.loop-first.invariant c.requires.0 in
    let p = parts-lower c.requires.0 _ _ _ _ r (is-pair-type _ _ _ c.kind.ensures c.eq.ensures c.loop-first-test.true) in
    omega (arith, c.word-flat.ensures.0)

pub loop-first-preserved : goal.loop-first-preserved
loop-first-preserved c =
    λ g.
    reached-second g _ _ _ _ (c.loop-first.invariant g) (is-pair-type _ _ _ c.kind.ensures c.eq.ensures c.loop-first-test.true) _ _ _
    c.word-first.ensures.0 c.word-flat.ensures.0 c.from-w.ensures c.if-at-w.false

pub word-requires : goal.word-requires
word-requires c = ((c.loop-first.invariant c.requires.0).typed.there, omega arith)

pub returns : goal.returns
returns c = reached-flat c.requires.0 _ _ _ _ (c.loop-first.invariant c.requires.0) _ (no-pair-type _ _ _ c.kind.ensures c.eq.ensures c.loop-first-test.false) c.word.ensures.0
