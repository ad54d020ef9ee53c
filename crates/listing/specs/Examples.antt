-- Worked examples, each by computation: the listing of sheet T on 1 2 1 (docs/SHEETS.md, "Sheet T"), a refusal, two cycles of two
-- leaves, and some numbers.
use Rattle.std.specs.Prelude.{◌≡◌, refl, [], ◌∷◌}
use Rattle.listing.specs.Digits.{digits}
use Rattle.listing.specs.Lines.{ascii, refused_line, listing}

sheet_T : listing 1 1 (2 ∷ 1 ∷ 1 ∷ []) ≡ ascii "type 1\n0: 2\n1: 1\n2: 1\ncycles 3\n"
unfolding digits
sheet_T = refl

no_sheet : refused_line 12 1 ≡ ascii "refused 12 at 1\n"
unfolding digits
no_sheet = refl

two_cycles : listing 3 2 (1 ∷ 2 ∷ 0 ∷ 255 ∷ []) ≡ ascii "type 3\n0: 1 2\n1: 0 255\ncycles 2\n"
unfolding digits
two_cycles = refl

zero_in_decimal : digits 0 ≡ ascii "0"
unfolding digits
zero_in_decimal = refl

seven_in_decimal : digits 7 ≡ ascii "7"
unfolding digits
seven_in_decimal = refl

ten_in_decimal : digits 10 ≡ ascii "10"
unfolding digits
ten_in_decimal = refl

largest_leaf_in_decimal : digits 255 ≡ ascii "255"
unfolding digits
largest_leaf_in_decimal = refl

most_cycles_in_decimal : digits 65535 ≡ ascii "65535"
unfolding digits
most_cycles_in_decimal = refl

largest_place_in_decimal : digits 4294967295 ≡ ascii "4294967295"
unfolding digits
largest_place_in_decimal = refl
