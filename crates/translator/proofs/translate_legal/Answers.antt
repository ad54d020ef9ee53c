-- What the walk over the names found is the answer, or its instructions are handed on.
-- Assumes nothing.
use native.Mathlib.Omega.{arith}
use Rattle.translator.proofs.LaysOut.{bad-place, name-found}
use Rattle.translator.proofs.translate_legal.Goals as goal

pub overflow_cast-result : goal.overflow_cast-result
overflow_cast-result c = let f = bad-place c.resolve.new.code c.requires c.resolve.ensures c.in-Err.bad_name c.in-Err.is in omega (arith, f)

pub returns-in-Err : goal.returns-in-Err
returns-in-Err c = name-found c.resolve.new.code c.requires c.resolve.ensures c.args.sheet.now c.in-Err.bad_name c.in-Err.is
