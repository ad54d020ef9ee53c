-- The leaves that are left lead from what stands to the whole.
-- Assumes nothing.
use Prim.Native.Nat.{◌-◌}
use mathlib.Core.Path.{◌≡◌}
use Rattle.emitting.proofs.ZeroLaws.{ZerosLeft}
use Rattle.emitting.proofs.writer.Writer.put_zeros.Given as goal

abbrev pub invariant-loop : goal.invariant-loop
invariant-loop l = ZerosLeft l.initial.sheet l.initial.self.cursor l.initial.self.next l.count l.sheet l.self.cursor l.self.next (l.count - l.counter) × (l.self.stack ≡ l.initial.self.stack)
