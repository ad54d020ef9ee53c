-- The tests of the code on a stimulus' length and bytes, by the numbers that the code has at hand.
use Rattle.std.specs.Prelude.{ℕ, ◌%◌, Bool, not, ◌||◌, List, eqb, ltb, length, get_or}

-- the most bytes that a stimulus has
abbrev pub stimulus_bytes : ℕ
stimulus_bytes = 65535

-- a stimulus of so many bytes is refused, where a cycle takes w
abbrev pub not_whole : (all w : ℕ) → Bool
not_whole all w = ltb stimulus_bytes all || not (eqb (all % w) 0)

-- byte i of a stimulus is above its leaf's count
abbrev pub above : (bounds stimulus : List ℕ) → ℕ → Bool
above bs stim i = ltb (get_or bs (i % length bs) 0) (get_or stim i 0)
