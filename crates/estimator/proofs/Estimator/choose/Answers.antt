-- Assumes nothing.
use Rattle.estimator.proofs.SetLeaves.{chosen-joined}
use Rattle.estimator.proofs.Estimator.choose.Goals as goal

pub returns-in-Undecided : goal.returns-in-Undecided
returns-in-Undecided c = chosen-joined c.args.self.now.checked.now.sheet c.args.p c.args.tested.now c.args.otherwise.now c.args.out.now c.match_sets.result c.match_sets.ensures _ c.in-Undecided.is c.join_sets.ensures
