-- What a probe holds is not contradictory: the sheet T of docs/SHEETS.md meets it at its one output leaf. By computation.
-- Assumes nothing.
use Prim.Native.Nat.{ℕ, ◌<◌}
use mathlib.Core.Path.{◌≡◌, refl}
use native.Mathlib.Omega.{arith}
use Rattle.picoella.specs.Language.{leaves}
use Rattle.records.specs.Words.{word}
use Rattle.records.specs.Kinds.{row_of, kind_of}
use Rattle.records.specs.Trees.{type_within, type_at}
use Rattle.accepted.proofs.Calls.{accepted-output}
use Rattle.verdict.specs.declared.checked.Checked.{Checked}
use Rattle.accepted.proofs.Requirements as Requirements
use Rattle.behaviour.specs.Bench.{toggle}
use Rattle.behaviour.specs.Run.{output_leaves}
use Rattle.preview.proofs.Witness.{toggle-accepted, toggle-passes, toggle-full, toggle_table, toggle-accepting}
use Rattle.probe.specs.Looking.{Looking}

one-leaf : 0 < leaves (type_at toggle 1)
unfolding type_at type_within kind_of row_of word
one-leaf = let one : leaves (type_at toggle 1) ≡ 1 = refl in omega arith

-- of a probe
pub toggle-looking : Looking toggle toggle_table 1 1 0
unfolding type_at type_within kind_of row_of word
toggle-looking = record { accepting = toggle-accepting; accepted = toggle-accepted; gives = refl; there = omega arith }

-- what `Probe::new` asks
pub toggle-probed : (c : Checked) × (c.sheet ≡ toggle) × (0 < output_leaves c.sheet)
toggle-probed = (
  record {
    sheet = toggle;
    widths = toggle_table;
    output_type = 1;
    accepted = toggle-accepted;
    counted = (Requirements.widths toggle-passes toggle-full).1;
  },
  refl,
  rw (← accepted-output toggle 1 toggle-accepted) one-leaf,
)
