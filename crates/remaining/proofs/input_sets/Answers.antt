-- Assumes nothing.
use mathlib.Core.Path.{refl}
use Rattle.remaining.proofs.Inputs.{input-fits, input-bounds, input-filling, input-done}
use Rattle.remaining.proofs.input_sets.Goals as goal

pub slice_bounds-counts-end : goal.slice_bounds-counts-end
slice_bounds-counts-end c = input-fits c.requires refl

pub fill_bounds-requires : goal.fill_bounds-requires
fill_bounds-requires c = let h = input-bounds c.requires refl c.word-t.ensures.0 in (h.1, h.2)

pub fill_sets-requires : goal.fill_sets-requires
fill_sets-requires c = input-filling c.requires refl c.word-t.ensures.0 c.fill_bounds.ensures

pub returns : goal.returns
returns c = input-done c.requires refl c.word-t.ensures.0 c.fill_bounds.ensures c.fill_sets.ensures
