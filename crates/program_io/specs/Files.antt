-- What a read gives, and a path as the system reads it.
use Rattle.std.specs.Prelude.{◌≡◌, ℕ, ◌≤◌, List, length, take, slice_index_or}

-- so many bytes are in a buffer, and as many are taken from its front. The second part follows from
-- the first, and saves the callers that lend that front a proof.
abbrev pub Counts : ℕ → List ℕ → Type 0
Counts n bytes = (n ≤ length bytes) × (n ≡ length (take n bytes))

-- the last of a path's 4,096 bytes is 0
abbrev pub Ended : List ℕ → Type 0
Ended bytes = slice_index_or bytes 4095 1 ≡ 0
