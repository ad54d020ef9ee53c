-- Assumes nothing.
use mathlib.Core.Path.{refl}
use Rattle.accepted.proofs.Calls.{accepting}
use Rattle.stimulus.proofs.Holding.{counts-fit, counts-taken, counts-long, counts-inside, counts-ready, some-counts}
use Rattle.stimulus.proofs.first_above.Goals as goal

pub slice_bounds-counts-end : goal.slice_bounds-counts-end
slice_bounds-counts-end c = counts-fit (accepting c.args.checked.now) c.requires.0 c.requires.1 refl

pub fill_bounds-requires : goal.fill_bounds-requires
fill_bounds-requires c = (c.requires.0, counts-long (accepting c.args.checked.now) c.requires.0 c.requires.1 refl)

pub find_above-requires : goal.find_above-requires
find_above-requires c = some-counts (accepting c.args.checked.now) c.requires.0 c.requires.1 refl c.fill_bounds.ensures

pub slice_bounds-fill_bounds-end : goal.slice_bounds-fill_bounds-end
slice_bounds-fill_bounds-end c = counts-taken (accepting c.args.checked.now) c.requires.0 c.requires.1 refl

pub slice_bounds-counts-end-2 : goal.slice_bounds-counts-end-2
slice_bounds-counts-end-2 c = counts-inside (accepting c.args.checked.now) c.requires.0 c.requires.1 refl c.fill_bounds.ensures

pub slice_bounds-find_above-end : goal.slice_bounds-find_above-end
slice_bounds-find_above-end c = counts-ready (accepting c.args.checked.now) c.requires.0 c.requires.1 refl c.fill_bounds.ensures
