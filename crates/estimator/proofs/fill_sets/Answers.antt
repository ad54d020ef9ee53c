-- Assumes nothing.
use native.Mathlib.Omega.{arith}
use Rattle.estimator.proofs.SetLeaves.{words-next, words-all}
use Rattle.estimator.proofs.fill_sets.Goals as goal

pub loop-i-preserved : goal.loop-i-preserved
loop-i-preserved c = words-next c.requires.as_many _ _ _ c.loop-i.invariant (let p = c.requires.room in omega arith) c.word_of_leaf.ensures

pub returns : goal.returns
returns c = words-all c.requires.as_many _ _ c.loop-i.invariant (let p = c.requires.room in omega arith)
