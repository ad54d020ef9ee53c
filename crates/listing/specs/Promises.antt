-- What is promised of the text: a number is written as its one numeral, and the pieces that the lines of cycles are written in, laid end
-- to end, are the lines of all cycles.
use Rattle.std.specs.Prelude.{ℕ, ◌+◌, ◌*◌, ◌-◌, ◌/◌, ◌≤◌, ◌<◌, ◌≡◌, ◌≢◌, ◌↔◌, List, [], ◌∷◌, ◌++◌, length, get_or, drop}
use Rattle.listing.specs.Digits.{digit, digits}
use Rattle.listing.specs.Lines.{cycle_lines}
use Rattle.listing.specs.Wrote.{with_text}
use Rattle.listing.specs.Texts.{Written}
use Rattle.listing.specs.Fills.{LinesAdded, FilledLines}

abbrev pub AllDigits : List ℕ → Type 0
AllDigits [] = Unit {0}
AllDigits (d ∷ ds) = (digit 0 ≤ d) × (d ≤ digit 9) × AllDigits ds

-- what a text reads as, after n
abbrev pub read_after : (n : ℕ) → List ℕ → ℕ
read_after n [] = n
read_after n (d ∷ ds) = read_after (10 * n + (d - digit 0)) ds

-- a text that says n in decimal
pub record Numeral (n : ℕ) (text : List ℕ) : Type 0 where
  pub some_digits : 0 < length text
  pub all_digits : AllDigits text
  pub reads : read_after 0 text ≡ n
  pub no_leading_zero : 1 < length text → get_or text 0 0 ≢ digit 0

-- the digits of n are the one text that is a numeral of n; kept by `digits-exactly` (proofs/Numerals.antt)
abbrev pub DigitsExactly : Type 0
DigitsExactly = (n : ℕ) (text : List ℕ) → Numeral n text ↔ (text ≡ digits n)

-- Lines added to a text that is in the front of a buffer are written there, from the text's end on,
-- and are those of outputs from the leaf `first` on; kept by `lines_fill` (proofs/Filling.antt)
abbrev pub LinesFill : Type 0
LinesFill =
    (old new : Written) (k w count first : ℕ) (outputs buffer : List ℕ) →
    length buffer ≡ old.room →
    length new.bytes ≤ new.room →
    k ≤ first →
    first ≤ length outputs →
    0 < w →
    LinesAdded old k w (drop first outputs) new count →
    FilledLines buffer (length old.bytes) k w outputs first
    (with_text buffer (length old.bytes) (cycle_lines w count k (drop first outputs))) count (first + count * w) (length new.bytes)

-- pieces laid end to end, each written from where the one before stopped: up to cycle k, whose leaves begin at `first`
pub data LinesLaid (w : ℕ) (outputs : List ℕ) : (k first : ℕ) (text : List ℕ) → Type 0 where
  nothing : LinesLaid w outputs 0 0 []
  piece :
      {k first : ℕ} {text : List ℕ} (buffer : List ℕ) (at : ℕ) (after : List ℕ) (count next end : ℕ) →
      LinesLaid w outputs k first text →
      FilledLines buffer at k w outputs first after count next end →
      LinesLaid w outputs (k + count) next (text ++ cycle_lines w count k (drop first outputs))

-- where no cycle is left, they are the listing's lines and their count; kept by `whole-listing` (proofs/Filling.antt)
abbrev pub WholeListing : Type 0
WholeListing =
    (w k first : ℕ) (outputs text : List ℕ) →
    0 < w →
    LinesLaid w outputs k first text →
    length outputs < first + w →
    (text ≡ cycle_lines w (length outputs / w) 0 outputs) × (k ≡ length outputs / w)
