-- Numbers given to places, one each, and put there one after the other: into a table of one number a record, or into word a of a leaf
-- of a sheet. A place past the numbers, which no well-typed term has, gets 0. A number is at most 255, so the word's second byte is 0.
use Rattle.std.specs.Prelude.{ℕ, List, [], ◌∷◌, set}
use Rattle.records.specs.Words.{low_byte, high_byte}

pub record Entry : Type 0 where
  pub place : ℕ
  pub value : ℕ

abbrev pub assigned : (places values : List ℕ) → List Entry
assigned [] vs = []
assigned (l ∷ ls) [] = record { place = l; value = 0 } ∷ assigned ls []
assigned (l ∷ ls) (v ∷ vs) = record { place = l; value = v } ∷ assigned ls vs

-- each entry put, in order
abbrev pub put_all : (put : (place value : ℕ) → List ℕ → List ℕ) → List Entry → List ℕ → List ℕ
put_all put [] a = a
put_all put (e ∷ es) a = put_all put es (put e.place e.value a)

abbrev pub enter : (place value : ℕ) → List ℕ → List ℕ
enter l v h = set h l v

-- word a of record l becomes v
abbrev pub put_word : (place value : ℕ) → List ℕ → List ℕ
put_word l v s = set (set s (low_byte l) v) (high_byte l) 0
