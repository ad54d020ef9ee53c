-- The listing (docs/SHEETS.md, "Listing"): `type` and the output type's record, one line per cycle (number from 0, colon, then a
-- space and a decimal number for each leaf), then `cycles` and their count. A refusal is `refused CODE at PLACE`. Every line ends
-- with a line feed, a refusal too. A text is the list of its bytes.
use Rattle.std.specs.Prelude.{ℕ, zero, suc, ◌/◌, List, [], ◌∷◌, ◌++◌, length, take, drop}
use Prim.Native.Char.{code}
use Prim.Native.String as Quoted
use Rattle.listing.specs.Digits.{digits}

-- quoted text as bytes
abbrev pub ascii : Quoted.String → List ℕ
ascii Quoted.[] = []
ascii (Quoted.◌∷◌ c s) = code c ∷ ascii s

-- a word, a number and the line's end
abbrev pub word_line : (word : List ℕ) → ℕ → List ℕ
word_line word n = word ++ digits n ++ ascii "\n"

abbrev pub type_line : (type_record : ℕ) → List ℕ
type_line t = word_line (ascii "type ") t

abbrev pub cycles_line : (count : ℕ) → List ℕ
cycles_line n = word_line (ascii "cycles ") n

-- a word, a number, another word, another number and the line's end
abbrev pub numbers_line : (word : List ℕ) (number : ℕ) (second : List ℕ) → ℕ → List ℕ
numbers_line word n second m = word ++ digits n ++ word_line second m

abbrev pub refused_line : (code place : ℕ) → List ℕ
refused_line c p = numbers_line (ascii "refused ") c (ascii " at ") p

-- "for each leaf a space and its value in decimal"
abbrev pub leaf_text : (leaf : ℕ) → List ℕ
leaf_text leaf = ascii " " ++ digits leaf

abbrev pub leaf_texts : List ℕ → List ℕ
leaf_texts [] = []
leaf_texts (leaf ∷ leaves) = leaf_text leaf ++ leaf_texts leaves

-- the line of cycle k
abbrev pub cycle_line : (k : ℕ) (leaves : List ℕ) → List ℕ
cycle_line k leaves = digits k ++ ascii ":" ++ leaf_texts leaves ++ ascii "\n"

-- so many lines, the first of cycle k: each takes the next w leaves
abbrev pub cycle_lines : (w count k : ℕ) (leaves : List ℕ) → List ℕ
cycle_lines w zero k leaves = []
cycle_lines w (suc n) k leaves = cycle_line k (take w leaves) ++ cycle_lines w n (suc k) (drop w leaves)

-- the listing of a run whose output type is at record t and has w leaves, from the leaves of all its cycles
abbrev pub listing : (t w : ℕ) (outputs : List ℕ) → List ℕ
listing t w outputs = type_line t ++ cycle_lines w (length outputs / w) 0 outputs ++ cycles_line (length outputs / w)
