-- The sizes of tables for texts.
use Rattle.std.specs.Prelude.{ℕ}

-- a table with an entry for each place of the longest text, and one more
abbrev pub text_table : ℕ
text_table = 65536

-- how many states the machine has
abbrev pub state_count : ℕ
state_count = 47
