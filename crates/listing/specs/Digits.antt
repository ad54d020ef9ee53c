-- A number in decimal (docs/SHEETS.md, "Listing": "for each leaf a space and its value in decimal"): its digits as ASCII bytes, the
-- most significant first. It is left open what stands in front of a number; here nothing does, no zeros either, and the number 0 is one
-- digit.
use Rattle.std.specs.Prelude.{ℕ, zero, suc, ◌+◌, ◌/◌, ◌%◌, List, [], ◌∷◌, ◌++◌}

-- a number below 10 as a byte
abbrev pub digit : ℕ → ℕ
digit d = 48 + d

-- the digits of a number, none of 0; the first argument bounds how many
abbrev pub digits_within : (most : ℕ) → ℕ → List ℕ
digits_within zero n = []
digits_within (suc most) zero = []
digits_within (suc most) (suc n) = digits_within most (suc n / 10) ++ (digit (suc n % 10) ∷ [])

-- a number has at most as many digits as it counts: `digits-one` and `digits_more` (proofs/Digits.antt) are the equations
unfoldable pub digits : ℕ → List ℕ
digits zero = digit 0 ∷ []
digits (suc n) = digits_within (suc n) (suc n)
