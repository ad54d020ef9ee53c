-- What a function that writes a text to a lent buffer gives.
use Rattle.std.specs.Prelude.{ℕ, ◌+◌, ◌≤◌, ◌≡◌, List, ◌++◌, length, take, drop}

-- the most bytes of a line
abbrev pub line_bytes : ℕ
line_bytes = 280

-- the buffer with a text at a place
unfoldable pub with_text : (buffer : List ℕ) (at : ℕ) (text : List ℕ) → List ℕ
with_text buffer at text = take at buffer ++ text ++ drop (at + length text) buffer

-- the text stands at the place, and the result is the place after it, inside the buffer
pub record TextPut (buffer : List ℕ) (at : ℕ) (text after : List ℕ) (result : ℕ) : Type 0 where
  pub bytes : after ≡ with_text buffer at text
  pub place : result ≡ at + length text
  pub inside : result ≤ length buffer
