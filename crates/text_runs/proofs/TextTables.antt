-- The text of sheet T (docs/SHEETS.md; row 1 of the table of sheets as text), its instructions, that of the parity checker (row 0), and tables
-- of 65,536 entries: what the instances of what the functions on texts ask are over.
-- Assumes nothing.
use Prim.Native.Nat.{ℕ, ◌+◌, ◌-◌, ◌≤◌}
use mathlib.Core.Path.{◌≡◌}
use mathlib.Core.List.{List, [], ◌∷◌, ◌++◌}
use native.Mathlib.Omega.{arith}
use lib.ListN.{length, take, replicate, length-append, length-replicate, length-take}
use lib.Dec.{T, leb, leb→le}
use Rattle.symbols.specs.Names.{place_of, count_of, Inside}
use Rattle.instructions.specs.Instruction.{Instruction}
use Rattle.instructions.specs.Code.{instructions_held}
use Rattle.instructions.specs.declared.Op.{Op}
use Rattle.instructions.specs.declared.Op.TheVariants.{DeclareType, CountConstructor, InputHas, UseName, UseConstant, OpenRec, OpenIf, OpenDelay, Close, CloseIf, BeginPattern, MatchOne, UseLeaf, EndConstant}
use Rattle.text_table.specs.SheetRows.{sheet_rows}
use Rattle.text_runs.specs.RunRows.{text_at}

-- TYPE bit = one | two IN INPUT bit (LET INIT ?bit REC x = (DELAY (two, (IF input MATCHES one THEN (IF x MATCHES two THEN one ELSE two) ELSE x))) IN x)
unfoldable pub toggle_text : List ℕ
toggle_text = text_at 1 sheet_rows

pub short : length toggle_text ≤ 65535
unfolding toggle_text
short = omega arith

pub inside : (span : ℕ) → T (leb (place_of span + count_of span) 149) → Inside toggle_text span
unfolding toggle_text
inside span h = leb→le (place_of span + count_of span) 149 h

-- TYPE bit = hi | lo IN TYPE two = (bit, bit) IN INPUT bit (LET INIT ?bit REC xor = (DELAY (hi, (IF (input, xor) MATCHES (hi, lo) | (lo, hi) THEN hi ELSE lo))) IN xor)
unfoldable pub parity_text : List ℕ
parity_text = text_at 0 sheet_rows

pub inside-parity : (span : ℕ) → T (leb (place_of span + count_of span) 165) → Inside parity_text span
unfolding parity_text
inside-parity span h = leb→le (place_of span + count_of span) 165 h

-- a table of 65,536 entries, with one and the same after the first
unfoldable pub copies : {A : Type 0} → A → ℕ → List A
copies x n = replicate n x

copies-many : {A : Type 0} (x : A) (n : ℕ) → length (copies x n) ≡ n
unfolding copies
copies-many {A} x n = length-replicate {A = A} n x

abbrev pub padded_with : {A : Type 0} → A → List A → List A
padded_with x xs = xs ++ copies x (65536 - length xs)

pub padded-with-long : {A : Type 0} (x : A) (xs : List A) → length xs ≤ 65536 → length (padded_with x xs) ≡ 65536
padded-with-long x xs h =
    let a = length-append xs (copies x (65536 - length xs)) in
    let b = copies-many x (65536 - length xs) in
    omega (arith, a, b)

abbrev pub padded : List ℕ → List ℕ
padded xs = padded_with 0 xs

pub padded-long : (xs : List ℕ) → length xs ≤ 65536 → length (padded xs) ≡ 65536
padded-long xs h = padded-with-long 0 xs h

pub taken-long : (n : ℕ) (xs : List ℕ) → length xs ≤ 65536 → length (padded (take n xs)) ≡ 65536
taken-long n xs h = padded-long (take n xs) (let l = length-take n xs in omega (arith, l))

pub four-long : (a b c d : ℕ) → length (padded (a ∷ b ∷ c ∷ d ∷ [])) ≡ 65536
four-long a b c d = padded-long (a ∷ b ∷ c ∷ d ∷ []) (omega arith)

-- the instructions of T in text order
abbrev text_ops : List Op
text_ops =
    DeclareType ∷ CountConstructor ∷ CountConstructor ∷ InputHas ∷ OpenRec ∷ OpenDelay ∷ UseLeaf ∷ EndConstant
    ∷ OpenIf ∷ UseName ∷ BeginPattern ∷ MatchOne ∷ OpenIf ∷ UseName ∷ BeginPattern ∷ MatchOne ∷ UseConstant
    ∷ UseConstant ∷ CloseIf ∷ UseName ∷ CloseIf ∷ Close ∷ UseName ∷ Close ∷ []

abbrev text_firsts : List ℕ
text_firsts = 0 ∷ 0 ∷ 0 ∷ 1 ∷ 1 ∷ 58 ∷ 1 ∷ 68 ∷ 71 ∷ 1 ∷ 80 ∷ 1 ∷ 98 ∷ 0 ∷ 103 ∷ 1 ∷ 1 ∷ 1 ∷ 132 ∷ 0 ∷ 140 ∷ 141 ∷ 0 ∷ 148 ∷ []

abbrev text_seconds : List ℕ
text_seconds = 0 ∷ 0 ∷ 0 ∷ 0 ∷ 0 ∷ 0 ∷ 2 ∷ 0 ∷ 0 ∷ 0 ∷ 0 ∷ 1 ∷ 0 ∷ 0 ∷ 0 ∷ 2 ∷ 1 ∷ 2 ∷ 0 ∷ 0 ∷ 0 ∷ 0 ∷ 0 ∷ 0 ∷ []

-- the first n of them, the last on top
abbrev pub table_code : ℕ → List Instruction
table_code n = instructions_held (padded_with DeclareType text_ops) (padded text_firsts) (padded text_seconds) n
