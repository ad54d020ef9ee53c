-- A change by the place of a leaf in the outputs.
use Rattle.std.specs.Prelude.{ℕ, ◌-◌, List, not, eqb, get_or}
use Rattle.changes.specs.Changes.{one_where}

-- 1 where the leaf at a place differs from the one w places in front of it
abbrev pub change_here : (w : ℕ) (outputs : List ℕ) (at : ℕ) → ℕ
change_here w outputs at = one_where (not (eqb (get_or outputs (at - w) 0) (get_or outputs at 0)))
