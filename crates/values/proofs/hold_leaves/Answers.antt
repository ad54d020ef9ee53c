-- The invariant: the value is held at the leaves before the one at hand. Assumes nothing.
use native.Mathlib.Omega.{arith}
use Rattle.values.proofs.Leaves.{along-next, held_next, all_held}
use Rattle.values.proofs.hold_leaves.Goals as goal

pub bounds-held-leaf : goal.bounds-held-leaf
bounds-held-leaf c =
    let g = c.requires in let v = c.loop-byte.invariant g in let m = g.many in let e = g.sized.counted in
    let f = g.sized.few in let h = v.0.there (omega arith) in omega arith

pub word-leaf-requires : goal.word-leaf-requires
word-leaf-requires c =
    let g = c.requires in let v = c.loop-byte.invariant g in let m = g.many in let e = g.sized.counted in
    let h = v.0.there (omega arith) in (omega arith, omega arith)

pub loop-byte-preserved : goal.loop-byte-preserved
loop-byte-preserved c =
    λ g. let v = c.loop-byte.invariant g in let m = g.many in (
      along-next _ _ v.0 (omega arith) c.word-leaf.ensures.0,
      held_next g.written _ _ _ _ _ v.0 m (omega arith) _ v.1,
    )

pub returns : goal.returns
returns c =
    let g = c.requires in let v = c.loop-byte.invariant g in let m = g.many in
    all_held g.written _ c.args.value.now c.args.held.now c.loop-byte.byte-index m (omega arith) (omega arith) _ v.1
