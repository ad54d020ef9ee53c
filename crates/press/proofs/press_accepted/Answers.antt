-- Assumes nothing.
use native.Mathlib.Omega.{arith}
use mathlib.Core.Path.{refl}
use Rattle.accepted.proofs.Calls.{accepting}
use Rattle.stimulus.proofs.Holding.{input-typed, input-there, input-takes, counts-fit, counts-taken, counts-inside, counts-ready, counts-long}
use Rattle.stepper.proofs.CallCycles.{output-there}
use Rattle.probe.proofs.Rooms.{counts-front}
use Rattle.press.proofs.Calls.{press-refused-input, press-refused-leaf, pressing-all, leaf-below, press-done}
use Rattle.press.proofs.press_accepted.Goals as goal

pub returns-in_err-check_one_cycle : goal.returns-in_err-check_one_cycle
returns-in_err-check_one_cycle c = press-refused-input (accepting c.args.checked.now) c.args.checked.now.accepted c.in_err-check_one_cycle.ensures _ _ c.in_err-check_one_cycle.field-0.0 c.from_residual.ensures.1 refl

pub bounds-checked-checked : goal.bounds-checked-checked
bounds-checked-checked c = output-there (accepting c.args.checked.now) c.args.checked.now.accepted

pub returns-then-wo-leaf : goal.returns-then-wo-leaf
returns-then-wo-leaf c = press-refused-leaf (accepting c.args.checked.now) c.args.checked.now.accepted c.in_ok-check_one_cycle.ensures _ _ refl c.if-wo-leaf.true

pub bounds-checked-a : goal.bounds-checked-a
bounds-checked-a c = input-there (accepting c.args.checked.now) c.word-a.ensures.0

pub word-a-requires : goal.word-a-requires
word-a-requires c = ((accepting c.args.checked.now).sized.some, omega arith)

pub slice_bounds-counts-end : goal.slice_bounds-counts-end
slice_bounds-counts-end c = let g = accepting c.args.checked.now in counts-fit g (input-typed g c.word-a.ensures.0) (input-takes g c.word-a.ensures.0) refl

pub slice_bounds-fill_bounds-end : goal.slice_bounds-fill_bounds-end
slice_bounds-fill_bounds-end c = let g = accepting c.args.checked.now in counts-taken g (input-typed g c.word-a.ensures.0) (input-takes g c.word-a.ensures.0) refl

pub slice_bounds-counts-end-2 : goal.slice_bounds-counts-end-2
slice_bounds-counts-end-2 c = let g = accepting c.args.checked.now in counts-inside g (input-typed g c.word-a.ensures.0) (input-takes g c.word-a.ensures.0) refl c.fill_bounds.ensures

pub slice_bounds-press_all-end : goal.slice_bounds-press_all-end
slice_bounds-press_all-end c = let g = accepting c.args.checked.now in counts-ready g (input-typed g c.word-a.ensures.0) (input-takes g c.word-a.ensures.0) refl c.fill_bounds.ensures

pub fill_bounds-requires : goal.fill_bounds-requires
fill_bounds-requires c = let g = accepting c.args.checked.now in (input-typed g c.word-a.ensures.0, counts-long g (input-typed g c.word-a.ensures.0) (input-takes g c.word-a.ensures.0) refl)

pub new-probe-requires : goal.new-probe-requires
new-probe-requires c = leaf-below (accepting c.args.checked.now) c.args.checked.now.accepted c.in_ok-check_one_cycle.ensures _ _ refl c.if-wo-leaf.false

pub press_all-requires : goal.press_all-requires
press_all-requires c = rw (c.new-probe.ensures.0) (pressing-all (accepting c.args.checked.now) c.args.checked.now.accepted c.in_ok-check_one_cycle.ensures c.args.leaf _ refl (counts-front (accepting c.args.checked.now) c.word-a.ensures.0 _ refl c.fill_bounds.ensures))

pub returns : goal.returns
returns c = press-done (accepting c.args.checked.now) c.args.checked.now.accepted c.in_ok-check_one_cycle.ensures _ _ refl c.if-wo-leaf.false _ (rw (c.new-probe.ensures.0, c.new-probe.ensures.1) at c.press_all.ensures)
