-- The invariant: the leaves before the one at hand are read. Assumes nothing.
use native.Mathlib.Omega.{arith}
use Rattle.values.proofs.Leaves.{leaf-byte, along-next, read_next, all_read}
use Rattle.values.proofs.read_leaves.Goals as goal

pub word-requires : goal.word-requires
word-requires c =
    let g = c.requires in let v = c.loop-value.invariant g in let m = g.many in let e = g.sized.counted in
    let h = v.0.there (omega arith) in (omega arith, omega arith)

pub overflow_cast-value : goal.overflow_cast-value
overflow_cast-value c =
    let g = c.requires in let v = c.loop-value.invariant g in let m = g.many in
    let b = leaf-byte g.written (v.0.there (omega arith)) (v.0.sort (omega arith)) in let w = c.word.ensures.0 in
    omega arith

pub word-leaf-requires : goal.word-leaf-requires
word-leaf-requires c =
    let g = c.requires in let v = c.loop-value.invariant g in let m = g.many in let e = g.sized.counted in
    let h = v.0.there (omega arith) in (omega arith, omega arith)

pub loop-value-preserved : goal.loop-value-preserved
loop-value-preserved c =
    λ g. let v = c.loop-value.invariant g in let m = g.many in (
      along-next _ _ v.0 (omega arith) c.word-leaf.ensures.0,
      read_next _ _ v.0 (omega arith) _ c.word.ensures.0 v.1,
    )

pub returns : goal.returns
returns c =
    let g = c.requires in let v = c.loop-value.invariant g in let m = g.many in let l = v.1.long in
    all_read _ _ _ _ (omega arith) (omega arith) v.1
