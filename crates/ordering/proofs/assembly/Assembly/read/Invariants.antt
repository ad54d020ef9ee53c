-- What the instructions so far come to.
-- Assumes nothing.
use Prim.Native.Nat.{◌-◌}
use mathlib.Core.Path.{◌≡◌}
use lib.ListN.{length, drop}
use Rattle.std.specs.Prelude.{reverse}
use Rattle.instructions.specs.Assembly.{nothing_assembled, assemble_all}
use Rattle.ordering.specs.Held.{assembled}
use Rattle.ordering.proofs.assembly.Assembly.read.Given as goal

abbrev pub invariant-loop-k : goal.invariant-loop-k
invariant-loop-k l = assembled l.self ≡ assemble_all nothing_assembled (reverse (drop (length l.instructions - l.k) l.instructions))
