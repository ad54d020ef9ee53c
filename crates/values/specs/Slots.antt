-- The names' bytes as a stack of values (docs/SHEETS.md, "Limits": of names in scope there are at most "64, of 64 leaves each"): the
-- name at a level, 0 for the outermost, has a slot of 64 bytes, with its value in front.
use Rattle.std.specs.Prelude.{ℕ, ◌*◌, List, [], ◌∷◌, ◌++◌, length, take, drop}
use Rattle.picoella.specs.Language.{leaves}
use Rattle.records.specs.Trees.{type_at}

-- the first w entries of a slot, a byte each or a word of a set
abbrev pub slot : {A : Type 0} (level w : ℕ) (env : List A) → List A
slot level w env = take w (drop (64 * level) env)

-- the bytes with a value in front of a slot
abbrev pub entered : {A : Type 0} (level : ℕ) (value env : List A) → List A
entered level v env = take (64 * level) env ++ (v ++ drop (length v) (drop (64 * level) env))

-- the values of the names whose types Γ lists, the innermost first
abbrev pub frames : (sheet Γ env : List ℕ) → List (List ℕ)
frames s [] env = []
frames s (t ∷ Γ) env = slot (length Γ) (leaves (type_at s t)) env ∷ frames s Γ env
