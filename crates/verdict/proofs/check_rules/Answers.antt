-- Judging the root judges the circuit. Assumes nothing.
use mathlib.Core.Path.{ap}
use Rattle.typing.specs.Outcomes.{outcome_of}
use Rattle.verdict.proofs.Stages.{root-ready, rules-accept, rules-refuse}
use Rattle.verdict.proofs.check_rules.Goals as goal

pub judge_root-requires : goal.judge_root-requires
judge_root-requires c = (root-ready c.requires.0 c.of_input-scope.result c.word.ensures.0 c.word-2.ensures.0 c.of_input-scope.ensures c.requires.1, c.requires.2)

pub returns-in-Ok : goal.returns-in-Ok
returns-in-Ok c = rules-accept c.requires.0 c.of_input-scope.result c.word.ensures.0 c.word-2.ensures.0 c.of_input-scope.ensures _ _ _ _ c.judge_root.ensures (ap outcome_of c.in-Ok.is)

pub returns-in-Err : goal.returns-in-Err
returns-in-Err c = rules-refuse c.requires.0 c.of_input-scope.result c.word.ensures.0 c.word-2.ensures.0 c.of_input-scope.ensures _ _ _ _ c.judge_root.ensures (ap outcome_of c.in-Err.is)
