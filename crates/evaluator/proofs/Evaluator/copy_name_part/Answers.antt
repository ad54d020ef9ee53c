-- Assumes nothing.
use native.Mathlib.Omega.{arith}
use Rattle.evaluator.proofs.Readiness.{ready-word}
use Rattle.evaluator.proofs.Chains.{name-part-few, name-part-room, name-part-done}
use Rattle.evaluator.proofs.Evaluator.copy_name_part.Goals as goal

pub word-k-requires : goal.word-k-requires
word-k-requires c = ready-word c.requires.0.1.evaluating.at_hand (omega arith)

pub overflow_sub-names : goal.overflow_sub-names
overflow_sub-names c = let h = name-part-few c.requires.0.1 c.requires.1 c.word-k.ensures.0 in omega arith

pub overflow_sub-names-2 : goal.overflow_sub-names-2
overflow_sub-names-2 c = let h = name-part-few c.requires.0.1 c.requires.1 c.word-k.ensures.0 in omega arith

pub copy_part-requires : goal.copy_part-requires
copy_part-requires c = name-part-room c.requires.0.1 c.requires.1 c.word-k.ensures.0

pub returns : goal.returns
returns c = λ whole held fired. record { done = λ Γ g. name-part-done g c.requires.1 c.word-k.ensures.0 c.copy_part.ensures }
