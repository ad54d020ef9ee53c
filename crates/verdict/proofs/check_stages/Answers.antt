-- Each stage begins where those before it found nothing, and the first that finds a fault gives the
-- verdict. Assumes nothing.
use native.Mathlib.Omega.{arith}
use mathlib.Core.Path.{sym, ◌∙◌}
use Rattle.verdict.proofs.Lending.{stages-refused}
use Rattle.verdict.proofs.Stages.{record-fits, checking, records-passed, types-passed, recorded-written, depths-passed, header_refused, record-refused, type-refused, depth-refused, rules-decide}
use Rattle.verdict.proofs.check_stages.Goals as goal

pub returns-then-wrong_header : goal.returns-then-wrong_header
returns-then-wrong_header c = header_refused _ (checking c.requires.0).length (sym c.wrong_header.ensures ∙ c.if-wrong_header.true)

pub overflow_cast-result : goal.overflow_cast-result
overflow_cast-result c = omega (arith, record-fits c.requires.0 _ _ c.first_wrong_record.ensures c.in-Some.is)

pub returns-in-Some : goal.returns-in-Some
returns-in-Some c = record-refused _ _ c.in-Some.is _ (checking c.requires.0) (sym c.wrong_header.ensures ∙ c.if-wrong_header.false) c.first_wrong_record.ensures

pub check_namings-requires : goal.check_namings-requires
check_namings-requires c = records-passed (checking c.requires.0) (sym c.wrong_header.ensures ∙ c.if-wrong_header.false) _ c.first_wrong_record.ensures c.in_default.is

pub returns-in_err-deep : goal.returns-in_err-deep
returns-in_err-deep c = stages-refused _ _ c.from_residual.ensures.1 (c.in_err-deep.ensures.misnamed _)

pub check_types-requires : goal.check_types-requires
check_types-requires c = (recorded-written c.in_ok-deep.ensures.named.0.recorded, c.requires.1, c.new-index.ensures _)

pub overflow_cast-result-in-Some-check_types : goal.overflow_cast-result-in-Some-check_types
overflow_cast-result-in-Some-check_types c = omega (arith, record-fits c.requires.0 _ _ c.check_types.ensures.answered c.in-Some-check_types.is)

pub returns-in-Some-check_types : goal.returns-in-Some-check_types
returns-in-Some-check_types c = type-refused _ _ c.in-Some-check_types.is _ c.in_ok-deep.ensures.named.0 c.check_types.ensures.answered

pub overflow_cast-result-in-Some-deep : goal.overflow_cast-result-in-Some-deep
overflow_cast-result-in-Some-deep c = omega (arith, record-fits c.requires.0 _ _ c.in_ok-deep.ensures.named.1 c.in-Some-deep.is)

pub returns-in-Some-deep : goal.returns-in-Some-deep
returns-in-Some-deep c = depth-refused _ _ c.in-Some-deep.is _ (types-passed c.in_ok-deep.ensures.named.0 _ c.check_types.ensures.answered c.in_default-check_types.is) c.in_ok-deep.ensures.named.1

pub check_rules-requires : goal.check_rules-requires
check_rules-requires c = ((depths-passed (types-passed c.in_ok-deep.ensures.named.0 _ c.check_types.ensures.answered c.in_default-check_types.is) _ c.in_ok-deep.ensures.named.1 c.in_default-deep.is _ c.check_types.ensures.counted), c.check_types.ensures.counted.long, c.check_types.ensures.indexed c.in_default-check_types.is)

pub returns : goal.returns
returns c = rules-decide (depths-passed (types-passed c.in_ok-deep.ensures.named.0 _ c.check_types.ensures.answered c.in_default-check_types.is) _ c.in_ok-deep.ensures.named.1 c.in_default-deep.is _ c.check_types.ensures.counted) c.check_types.ensures.counted c.check_rules.ensures
