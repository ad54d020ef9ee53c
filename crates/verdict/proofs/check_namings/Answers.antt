-- What codes 1 to 3 leave, and the table holds every naming. Assumes nothing.
use native.Mathlib.Omega.{arith}
use Rattle.verdict.proofs.Stages.{record-fits, names-passed, naming-refused}
use Rattle.verdict.proofs.check_namings.Goals as goal

pub overflow_cast-result : goal.overflow_cast-result
overflow_cast-result c = omega (arith, record-fits c.requires.measured.sized _ _ (c.first_wrong.ensures _ c.note_all.ensures) c.in-Some.is)

pub returns-in-Some-clause-misnamed : goal.returns-in-Some-clause-misnamed
returns-in-Some-clause-misnamed c = λ widths. naming-refused _ _ c.in-Some.is widths c.requires (c.first_wrong.ensures _ c.note_all.ensures)

pub check_depths-requires : goal.check_depths-requires
check_depths-requires c = (names-passed c.requires _ (c.first_wrong.ensures _ c.note_all.ensures) c.in-None.is, c.note_all.ensures)

pub returns-in-None-clause-named : goal.returns-in-None-clause-named
returns-in-None-clause-named c = (names-passed c.requires _ (c.first_wrong.ensures _ c.note_all.ensures) c.in-None.is, c.check_depths.ensures)
