-- Tables and sheets are cells: a table entry by its number, a sheet's word a by its record. In a sheet a put sets two bytes,
-- which no other record has.
-- Assumes nothing.
use Prim.Native.Nat.{ℕ, ◌+◌, ◌*◌, ◌≤◌, ◌<◌}
use mathlib.Core.List.{List}
use mathlib.Core.Path.{◌≡◌, sym, ap, ap₂, ◌∙◌}
use native.Mathlib.Omega.{arith}
use lib.ListN.{length, get_or, set, length-set}
use lib.Seq.{get_or-set_same, get_or-set_other, set-set, set_comm, set-get_or}
use Rattle.records.specs.Words.{word, word_a, low_byte, high_byte}
use Rattle.behaviour.specs.Entries.{enter, put_word}
use Rattle.behaviour.proofs.Entries.{Cells}

-- the entry of a table at a record
abbrev pub entry_at : List ℕ → ℕ → ℕ
entry_at h l = get_or h l 0

abbrev pub InTable : ℕ → List ℕ → Type 0
InTable l h = l < length h

pub table-cells : Cells enter entry_at InTable
table-cells = record {
  room = λ l m v h r. rw (length-set h m v) r;
  same = λ l v h r. get_or-set_same h l v 0 r;
  other = λ l m v h f. get_or-set_other h m l v 0 f;
  overwrites = λ l v u h. set-set h l u v;
  commutes = λ l m v u h f. set_comm h m l u v (λ e. f (sym e));
}

-- both bytes of a record's word a are bytes of the sheet
abbrev pub InSheet : ℕ → List ℕ → Type 0
InSheet l s = high_byte l < length s

pub put-length : (l v : ℕ) (s : List ℕ) → length (put_word l v s) ≡ length s
put-length l v s = length-set (set s (low_byte l) v) (high_byte l) 0 ∙ length-set s (low_byte l) v

-- a byte that is not of the word
pub put_byte : (i l v : ℕ) (s : List ℕ) → (i ≡ low_byte l → ⊥) → (i ≡ high_byte l → ⊥) → get_or (put_word l v s) i 0 ≡ get_or s i 0
put_byte i l v s low high =
    get_or-set_other (set s (low_byte l) v) (high_byte l) i 0 0 high ∙ get_or-set_other s (low_byte l) i v 0 low

-- a word is its two bytes
abbrev pub of_bytes : ℕ → ℕ → ℕ
of_bytes x y = x + 256 * y

pub word-a : (s : List ℕ) (l : ℕ) → word_a s l ≡ of_bytes (get_or s (low_byte l) 0) (get_or s (high_byte l) 0)
unfolding word
word-a s l = let e : 12 * l + 4 + 1 ≡ 12 * l + 5 = omega arith in ap (λ i. of_bytes (get_or s (low_byte l) 0) (get_or s i 0)) e

word-put : (l v : ℕ) (s : List ℕ) → InSheet l s → word_a (put_word l v s) l ≡ v
word-put l v s r =
    let low : get_or (put_word l v s) (low_byte l) 0 ≡ v =
    get_or-set_other (set s (low_byte l) v) (high_byte l) (low_byte l) 0 0 (λ e. omega arith)
    ∙ get_or-set_same s (low_byte l) v 0 (omega arith) in
    let high : get_or (put_word l v s) (high_byte l) 0 ≡ 0 =
    get_or-set_same (set s (low_byte l) v) (high_byte l) 0 0 (rw (length-set s (low_byte l) v) r) in
    word-a (put_word l v s) l ∙ ap₂ of_bytes low high ∙ omega arith

word-other : (l m v : ℕ) (s : List ℕ) → (l ≡ m → ⊥) → word_a (put_word m v s) l ≡ word_a s l
word-other l m v s f =
    word-a (put_word m v s) l
    ∙ ap₂ of_bytes (put_byte (low_byte l) m v s (λ e. f (omega arith)) (λ e. omega arith))
    (put_byte (high_byte l) m v s (λ e. omega arith) (λ e. f (omega arith)))
    ∙ sym (word-a s l)

word-overwritten : (l v u : ℕ) (s : List ℕ) → put_word l v (put_word l u s) ≡ put_word l v s
word-overwritten l v u s =
    ap (λ x. set x (high_byte l) 0) (set_comm (set s (low_byte l) u) (high_byte l) (low_byte l) 0 v (λ e. omega arith))
    ∙ set-set (set (set s (low_byte l) u) (low_byte l) v) (high_byte l) 0 0
    ∙ ap (λ x. set x (high_byte l) 0) (set-set s (low_byte l) u v)

words-commute : (l m v u : ℕ) (s : List ℕ) → (l ≡ m → ⊥) → put_word l v (put_word m u s) ≡ put_word m u (put_word l v s)
words-commute l m v u s f =
    ap (λ x. set x (high_byte l) 0) (set_comm (set s (low_byte m) u) (high_byte m) (low_byte l) 0 v (λ e. omega arith))
    ∙ ap (λ x. set (set x (high_byte m) 0) (high_byte l) 0) (set_comm s (low_byte m) (low_byte l) u v (λ e. f (omega arith)))
    ∙ set_comm (set (set s (low_byte l) v) (low_byte m) u) (high_byte m) (high_byte l) 0 0 (λ e. f (omega arith))
    ∙ ap (λ x. set x (high_byte m) 0) (set_comm (set s (low_byte l) v) (low_byte m) (high_byte l) u 0 (λ e. omega arith))

pub sheet-cells : Cells put_word word_a InSheet
sheet-cells = record {
  room = λ l m v s r. rw (put-length m v s) r;
  same = word-put;
  other = word-other;
  overwrites = word-overwritten;
  commutes = words-commute;
}

-- a word a of at most 255 has no second byte, so put where it stands it changes nothing
pub put-own : (l : ℕ) (s : List ℕ) → word_a s l ≤ 255 → put_word l (word_a s l) s ≡ s
put-own l s small =
    let e = word-a s l in
    let high : get_or s (high_byte l) 0 ≡ 0 = omega arith in
    let low : word_a s l ≡ get_or s (low_byte l) 0 = omega arith in
    ap (λ x. set x (high_byte l) 0) (ap (set s (low_byte l)) low ∙ set-get_or s (low_byte l) 0)
    ∙ ap (set s (high_byte l)) (sym high) ∙ set-get_or s (high_byte l) 0
