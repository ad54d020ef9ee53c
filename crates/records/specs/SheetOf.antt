-- A sheet written out by its words, six a record: kind, next, a, b, c, d. The tables of sheets in the crates above are written so.
use Rattle.std.specs.Prelude.{ℕ, ◌%◌, ◌/◌, List, [], ◌∷◌}

pub data Record : Type 0 where
  words : (kind next a b c d : ℕ) → Record

-- the bytes of a word, low byte first, and those after them
abbrev pub word_then : ℕ → List ℕ → List ℕ
word_then w rest = w % 256 ∷ w / 256 ∷ rest

abbrev pub sheet_of : List Record → List ℕ
sheet_of [] = []
sheet_of (words kind next a b c d ∷ rs) =
    word_then kind (word_then next (word_then a (word_then b (word_then c (word_then d (sheet_of rs))))))
