-- The closure tests every record. Assumes nothing.
use native.Mathlib.Omega.{arith}
use Rattle.std.proofs.Common.{of_calls}
use Rattle.structure.specs.Rules.{too_deep}
use Rattle.structure.proofs.depth.Placements.first_too_deep.Goals as goal

pub returns : goal.returns
returns c = c.lowest_record.ensures (too_deep c.args.sheet.now) (λ q h. absurd (omega arith), search of_calls)
