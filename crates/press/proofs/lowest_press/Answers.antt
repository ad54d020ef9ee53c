-- Assumes nothing.
use native.Mathlib.Omega.{arith}
use Prim.Native.Nat.{ℕ}
use mathlib.Core.List.{List}
use lib.ListN.{length, get_or}
use Rattle.press.proofs.Pressing.{press-lowest, press-none, constructor-small, counts-as-many, typed-as-many}
use mathlib.Core.Path.{ap}
use Rattle.press.proofs.lowest_press.Goals as goal

pub lowest_constructor-requires : goal.lowest_constructor-requires
lowest_constructor-requires c =
    let f = c.loop-j.invariant in
    rw (f.0, f.1) (
      c.requires.0,
      (let h = c.loop-j-test.true in let k = typed-as-many c.requires.0 in let m = ap length c.requires.1 in omega arith),
      ap (λ (x : List ℕ). get_or x c.loop-j.j 0) c.requires.1,
    )

pub overflow_add-result : goal.overflow_add-result
overflow_add-result c =
    let p = c.args.probe.now in
    let q = rw (c.loop-j.invariant.0, c.loop-j.invariant.1) at c.lowest_constructor.ensures.0 in
    constructor-small p.sheet c.args.input.now p.leaf c.loop-j.j c.args.counts.now c.requires.1 c.type_inv.counts c.lowest_constructor.result c.in-Some.is q

pub returns-in-Some : goal.returns-in-Some
returns-in-Some c =
    let f = c.loop-j.invariant in
    let p = c.args.probe.now in
    let q = rw (f.0, f.1) at c.lowest_constructor.ensures.0 in
    let h = c.loop-j-test.true in
    let m = counts-as-many p.sheet c.args.counts.now c.requires.1 in
    press-lowest p.sheet c.args.input.now p.leaf c.loop-j.j f.2 (omega arith) _ c.lowest_constructor.result c.in-Some.is q

pub returns : goal.returns
returns c =
    let p = c.args.probe.now in
    let h = c.loop-j-test.false in
    let m = counts-as-many p.sheet c.args.counts.now c.requires.1 in
    press-none p.sheet c.args.input.now p.leaf c.loop-j.j c.loop-j.invariant.2 (omega arith)
