-- Bytes, words and records (docs/SHEETS.md, "The sheet"): a record is 12 bytes, six words of 16 bits, low byte first. Past the
-- end of the bytes a byte reads as 0. Record 0 is the header.
use Rattle.std.specs.Prelude.{ℕ, ◌+◌, ◌*◌, ◌/◌, List, length, get_or}

-- the number of whole records
unfoldable pub count : List ℕ → ℕ
count s = length s / 12

-- where word k of record r begins: 12 times the record's number, plus the word's offset
abbrev pub offset : ℕ → ℕ → ℕ
offset r k = 12 * r + 2 * k

-- word k of record r: 0 is the kind, 1 next, 2 to 5 the words a, b, c, d
unfoldable pub word : List ℕ → ℕ → ℕ → ℕ
word s r k = get_or s (offset r k) 0 + 256 * get_or s (offset r k + 1) 0

abbrev pub kind_word : List ℕ → ℕ → ℕ
kind_word s r = word s r 0

abbrev pub next_word : List ℕ → ℕ → ℕ
next_word s r = word s r 1

abbrev pub word_a : List ℕ → ℕ → ℕ
word_a s r = word s r 2

abbrev pub word_b : List ℕ → ℕ → ℕ
word_b s r = word s r 3

abbrev pub word_c : List ℕ → ℕ → ℕ
word_c s r = word s r 4

abbrev pub word_d : List ℕ → ℕ → ℕ
word_d s r = word s r 5

-- the two bytes of word a of record l
abbrev pub low_byte : ℕ → ℕ
low_byte l = 12 * l + 4

abbrev pub high_byte : ℕ → ℕ
high_byte l = 12 * l + 5
