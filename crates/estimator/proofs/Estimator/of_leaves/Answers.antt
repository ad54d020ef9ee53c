-- Assumes nothing.
use native.Mathlib.Omega.{arith}
use mathlib.Core.Path.{refl}
use Rattle.evaluator.proofs.Readiness.{ready-word}
use Rattle.estimator.proofs.SetHeld.{held_fits, held-bounds, held-chained, held-filling, held-done}
use Rattle.estimator.proofs.Estimator.of_leaves.Goals as goal

pub word-t-requires : goal.word-t-requires
word-t-requires c = ready-word c.requires.0.4.at_hand (omega arith)

pub slice_bounds-counts-end : goal.slice_bounds-counts-end
slice_bounds-counts-end c = held_fits c.requires.0.4 _ c.requires.1 refl refl

pub fill_bounds-requires : goal.fill_bounds-requires
fill_bounds-requires c = let h = held-bounds c.requires.0.4 _ c.requires.1 refl refl c.word-t.ensures.0 in (h.1, h.2)

pub word-first-requires : goal.word-first-requires
word-first-requires c = ready-word c.requires.0.4.at_hand (omega arith)

pub read_leaves-requires : goal.read_leaves-requires
read_leaves-requires c = held-chained c.requires.0.4 _ c.requires.1 refl refl c.word-first.ensures.0

pub fill_sets-requires : goal.fill_sets-requires
fill_sets-requires c = held-filling c.requires.0.4 _ c.requires.1 refl refl refl c.word-t.ensures.0 c.word-first.ensures.0 c.fill_bounds.ensures c.read_leaves.ensures

pub returns : goal.returns
returns c = λ env names. record { done = λ Γ ρ r. held-done r _ c.requires.1 refl refl refl c.word-t.ensures.0 c.word-first.ensures.0 c.fill_bounds.ensures c.read_leaves.ensures c.fill_sets.ensures }
