-- Assumes nothing.
use native.Mathlib.Omega.{arith}
use Rattle.evaluator.proofs.Readiness.{ready-word}
use Rattle.evaluator.proofs.LentNames.{name-in-scope, name-room}
use Rattle.evaluator.proofs.Names.{name_done}
use Rattle.evaluator.proofs.Evaluator.copy_name.Goals as goal

pub word-k-requires : goal.word-k-requires
word-k-requires c = ready-word c.requires.0.1.at_hand (omega arith)

pub overflow_sub-names : goal.overflow_sub-names
overflow_sub-names c = let h = name-in-scope c.requires.0.1.at_hand c.requires.1 c.word-k.ensures.0 in omega arith

pub overflow_sub-names-2 : goal.overflow_sub-names-2
overflow_sub-names-2 c = let h = name-in-scope c.requires.0.1.at_hand c.requires.1 c.word-k.ensures.0 in omega arith

pub copy_value-requires : goal.copy_value-requires
copy_value-requires c = name-room c.requires.0.1.at_hand c.requires.1 c.word-k.ensures.0

pub returns : goal.returns
returns c = λ whole held fired. record { done = λ Γ r. name_done r c.requires.1 c.word-k.ensures.0 c.copy_value.ensures }
