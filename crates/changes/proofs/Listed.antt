-- The lines of a listing, each of its cycle's part of the outputs.
-- Assumes nothing.
use Prim.Native.Nat.{zero, suc, ◌+◌}
use mathlib.Core.List.{◌++◌, append-nil}
use mathlib.Core.Path.{◌≡◌, refl, sym, ap, ◌∙◌}
use native.Mathlib.Nat.{zero-add}
use native.Mathlib.Numerals.{add-one}
use Rattle.listing.specs.Lines.{cycle_line, cycle_lines}
use Rattle.listing.proofs.Filling.{lines_join}
use Rattle.changes.specs.Promises.{part_of, ListedByParts}

pub listed_by_parts : ListedByParts
listed_by_parts w outputs zero = refl
listed_by_parts w outputs (suc k) =
    let more : cycle_lines w (k + 1) 0 outputs ≡ cycle_lines w k 0 outputs ++ cycle_line k (part_of w outputs k) =
    lines_join w k 1 0 outputs ∙ rw (zero-add k, append-nil (cycle_line k (part_of w outputs k))) refl
    in
    ap (λ n. cycle_lines w n 0 outputs) (sym (add-one k)) ∙ more ∙ rw (listed_by_parts w outputs k) refl
