-- The limits of sheets (docs/SHEETS.md, "The sheet") by the names that contracts use.
use Rattle.std.specs.Prelude.{ℕ}

-- the most records; a table with an entry for each has so many
abbrev pub most_records : ℕ
most_records = 4096

-- the most leaves of a type; a slot for a value has so many bytes
abbrev pub most_leaves : ℕ
most_leaves = 64

-- what stands in a table for more leaves than that
abbrev pub past_leaves : ℕ
past_leaves = 65

-- how deep an expression may lie, and so the most names in scope
abbrev pub most_depth : ℕ
most_depth = 64

-- one more than the highest word
abbrev pub word_bound : ℕ
word_bound = 65536

-- the bytes of 64 names, 64 leaves each
abbrev pub environment_bytes : ℕ
environment_bytes = 4096
