-- The leaf stands behind its constant.
-- Assumes nothing.
use Rattle.emitting.proofs.AdvanceLaws.{constant-put}
use Rattle.emitting.proofs.writer.Writer.put_constant.Goals as goal

pub returns : goal.returns
returns c = (constant-put c.args.self.now.stack c.args.declared c.put_record-self.ensures c.put_expression.ensures.0, c.put_expression.ensures.1)
