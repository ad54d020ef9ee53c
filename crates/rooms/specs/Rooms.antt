-- How long the rooms are that programs lend: a file that is longer than any accepted one fills its
-- room and is refused for its length.
use Rattle.std.specs.Prelude.{ℕ}

-- the outputs of 65,535 cycles of 64 leaves
abbrev pub most_output : ℕ
most_output = 4194240

-- the longest record and a byte more
abbrev pub record_room : ℕ
record_room = 4194241

-- the longest sheet and a byte more
abbrev pub sheet_room : ℕ
sheet_room = 49153

-- the longest stimulus and a byte more
abbrev pub stimulus_room : ℕ
stimulus_room = 65536

-- what is printed in one piece
abbrev pub text_room : ℕ
text_room = 65536
