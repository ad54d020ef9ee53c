-- By the op.
-- Assumes nothing.
use Rattle.emitting.proofs.StepLaws.{step-by, parts-put, zeros-step}
use Rattle.emitting.proofs.writer.Writer.step.Goals as goal

pub returns-in-MatchType : goal.returns-in-MatchType
returns-in-MatchType c = step-by c.args.types.now c.args.self.now c.args.instruction c.in-MatchType.is c.put.ensures

pub returns-in-MatchOne : goal.returns-in-MatchOne
returns-in-MatchOne c = step-by c.args.types.now c.args.self.now c.args.instruction c.in-MatchOne.is c.put-in-MatchOne.ensures

pub returns-in-OpenParts : goal.returns-in-OpenParts
returns-in-OpenParts c =
    step-by c.args.types.now c.args.self.now c.args.instruction c.in-OpenParts.is
    (parts-put c.args.self.now c.below-after.ensures c.below-part.ensures c.put-in-OpenParts.ensures)

pub returns-in-UseZeros : goal.returns-in-UseZeros
returns-in-UseZeros c =
    step-by c.args.types.now c.args.self.now c.args.instruction c.in-UseZeros.is
    (zeros-step c.args.self.now c.leaves-in-UseZeros.ensures.0 c.put_zeros.ensures.0 c.put_zeros.ensures.1)
