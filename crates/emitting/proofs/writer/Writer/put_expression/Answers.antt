-- By the number of its kind.
-- Assumes nothing.
use Prim.Native.Nat.{◌-◌}
use mathlib.Core.Path.{subst}
use mathlib.Core.List.{◌∷◌}
use Rattle.instructions.specs.Emission.{completed}
use Rattle.emitting.specs.Slots.{popped}
use Rattle.emitting.specs.Emitting.{InstructionWritten, expression_numbered}
use Rattle.emitting.proofs.writer.Writer.put_expression.Goals as goal

pub returns : goal.returns
returns c =
    let w = c.args.self.now in
    subst (λ n. InstructionWritten (λ R. completed (expression_numbered n c.args.words ∷ R) (w.cursor - 1) (popped c.args.slots w.stack)) c.args.sheet.now c.put_numbered.new.sheet w c.put_numbered.new.self)
    c.number.ensures c.put_numbered.ensures
