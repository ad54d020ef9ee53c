-- As many letters, and each the same.
-- Assumes nothing.
use Rattle.std.proofs.Common.{◌≡◌, ◌≤◌, length, drop}
use Rattle.name_rules.specs.Declared.{same_name}
use Rattle.symbols.proofs.tables.same.Given as goal

abbrev pub invariant-loop-i : goal.invariant-loop-i
invariant-loop-i l = (same_name l.name l.other ≡ same_name (drop l.i l.name) (drop l.i l.other)) × (length l.name ≡ length l.other) × (l.i ≤ length l.name)
