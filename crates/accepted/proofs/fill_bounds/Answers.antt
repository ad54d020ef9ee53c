-- Assumes nothing.
use native.Mathlib.Omega.{arith}
use Rattle.accepted.proofs.Calls.{accepting}
use Rattle.accepted.proofs.LeafBounds.{bound-small, accepting-ground, none_filled, type-bounds}
use Rattle.accepted.proofs.fill_bounds.Goals as goal

pub loop-i-init : goal.loop-i-init
loop-i-init c = none_filled _ (type-bounds _ _ c.args.out.now c.requires.1)

pub bound_at-requires : goal.bound_at-requires
bound_at-requires c =
    let l = c.loop-i-test.true in
    let e = c.requires.1 in
    (accepting-ground (accepting c.args.checked.now), c.requires.0, omega arith)

pub overflow_cast-bound : goal.overflow_cast-bound
overflow_cast-bound c =
    let b = bound-small (accepting c.args.checked.now) _ c.requires.0 c.loop-i.i in
    omega (arith, c.bound_at.ensures)
