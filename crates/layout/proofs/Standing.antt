-- Records that stand in a sheet one after the other: those that a sheet is written of stand in it from record 0, and of two lists that
-- stand together each stands by itself.
-- Assumes nothing.
use Prim.Native.Nat.{ℕ, zero, suc, ◌+◌, ◌*◌, ◌%◌, ◌/◌}
use mathlib.Core.Path.{◌≡◌, refl, ap₂, ◌∙◌}
use mathlib.Core.List.{List, [], ◌∷◌, ◌++◌}
use native.Mathlib.Omega.{arith}
use lib.ListN.{length, get_or}
use Rattle.records.specs.Words.{word, count, offset, kind_word, next_word, word_a, word_b, word_c, word_d}
use Rattle.records.specs.SheetOf.{Record, words, word_then, sheet_of}

-- the words of record r
pub record RecordIs (s : List ℕ) (r kind next a b c d : ℕ) : Type 0 where
  pub kind-is : kind_word s r ≡ kind
  pub next_is : next_word s r ≡ next
  pub a-is : word_a s r ≡ a
  pub b-is : word_b s r ≡ b
  pub c-is : word_c s r ≡ c
  pub d-is : word_d s r ≡ d

pub data Stands (s : List ℕ) : ℕ → List Record → Type 0 where
  none-stand : {r : ℕ} → Stands s r []
  one-stands : {r kind next a b c d : ℕ} {rs : List Record}
      → RecordIs s r kind next a b c d → Stands s (suc r) rs → Stands s r (words kind next a b c d ∷ rs)

both_bytes : (w : ℕ) → w % 256 + 256 * (w / 256) ≡ w
both_bytes w = omega arith

past-record : (x : Record) (rs : List Record) (m n : ℕ) → n ≡ 12 + m → get_or (sheet_of (x ∷ rs)) n 0 ≡ get_or (sheet_of rs) m 0
past-record (words kind next a b c d) rs m n e =
    let twelve : n ≡ suc (suc (suc (suc (suc (suc (suc (suc (suc (suc (suc (suc m))))))))))) = omega arith in rw twelve

-- in a sheet with one record more in front each record has the number after its own
later-word : (x : Record) (rs : List Record) (r k : ℕ) → word (sheet_of (x ∷ rs)) (suc r) k ≡ word (sheet_of rs) r k
unfolding word
later-word x rs r k =
    ap₂ (λ v w. v + 256 * w)
    (past-record x rs (offset r k) (offset (suc r) k) (omega arith))
    (past-record x rs (offset r k + 1) (offset (suc r) k + 1) (omega arith))

later : (x : Record) (rs : List Record) {r kind next a b c d : ℕ}
    → RecordIs (sheet_of rs) r kind next a b c d → RecordIs (sheet_of (x ∷ rs)) (suc r) kind next a b c d
later x rs {r} h =
    record {
      kind-is = later-word x rs r 0 ∙ h.kind-is;
      next_is = later-word x rs r 1 ∙ h.next_is;
      a-is = later-word x rs r 2 ∙ h.a-is;
      b-is = later-word x rs r 3 ∙ h.b-is;
      c-is = later-word x rs r 4 ∙ h.c-is;
      d-is = later-word x rs r 5 ∙ h.d-is;
    }

all-later : (x : Record) (rs : List Record) {r : ℕ} {xs : List Record}
    → Stands (sheet_of rs) r xs → Stands (sheet_of (x ∷ rs)) (suc r) xs
all-later x rs none-stand = none-stand
all-later x rs (one-stands h t) = one-stands (later x rs h) (all-later x rs t)

at_first : (kind next a b c d : ℕ) (rs : List Record) → RecordIs (sheet_of (words kind next a b c d ∷ rs)) 0 kind next a b c d
unfolding word
at_first kind next a b c d rs =
    record {
      kind-is = both_bytes kind;
      next_is = both_bytes next;
      a-is = both_bytes a;
      b-is = both_bytes b;
      c-is = both_bytes c;
      d-is = both_bytes d;
    }

pub sheet-stands : (rs : List Record) → Stands (sheet_of rs) 0 rs
sheet-stands [] = none-stand
sheet-stands (words kind next a b c d ∷ rs) = one-stands (at_first kind next a b c d rs) (all-later (words kind next a b c d) rs (sheet-stands rs))

pub stands-append : {s : List ℕ} (r : ℕ) (xs ys : List Record) → Stands s r (xs ++ ys)
    → Stands s r xs × Stands s (r + length xs) ys
stands-append r [] ys h = (none-stand, rw ((let e : r + 0 ≡ r = omega arith in e)) h)
stands-append r (words kind next a b c d ∷ xs) ys (one-stands x h) =
    let t = stands-append (suc r) xs ys h in
    let e : r + suc (length xs) ≡ suc r + length xs = omega arith in
    (one-stands x t.0, rw e t.1)

sheet-length : (rs : List Record) → length (sheet_of rs) ≡ 12 * length rs
sheet-length [] = refl
sheet-length (words kind next a b c d ∷ rs) = let e = sheet-length rs in omega arith

pub sheet-count : (rs : List Record) → count (sheet_of rs) ≡ length rs
unfolding count
sheet-count rs = let e = sheet-length rs in omega arith
