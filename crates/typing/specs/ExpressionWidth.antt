-- How wide an expression is: the leaves of its type.
use Rattle.std.specs.Prelude.{ℕ, List}
use Rattle.picoella.specs.Language.{leaves}
use Rattle.records.specs.Trees.{type_at, Tree, type_record_of}

-- the leaf count of the type of an expression
abbrev pub width : List ℕ → List ℕ → Tree → ℕ
width s Γ e = leaves (type_at s (type_record_of s Γ e))
