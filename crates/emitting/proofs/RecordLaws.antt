-- A record is written word by word, the last first.
-- Assumes nothing.
use Prim.Native.Nat.{ℕ, zero, suc, ◌+◌, ◌-◌, ◌*◌, ◌≤◌, ◌<◌}
use mathlib.Core.Path.{◌≡◌, refl, ap, sym, ◌∙◌}
use mathlib.Core.List.{List, [], ◌∷◌}
use native.Mathlib.Omega.{arith}
use lib.ListN.{length, drop, get_or}
use Rattle.records.specs.SheetOf.{word_then}
use Rattle.emitting.specs.Emitting.{RecordPut, record_numbered}

-- the bytes of words, and those after them
abbrev pub words_then : List ℕ → List ℕ → List ℕ
words_then [] rest = rest
words_then (w ∷ ws) rest = word_then w (words_then ws rest)

word-before : (ws : List ℕ) (k : ℕ) (rest : List ℕ) → k < length ws
    → words_then (drop k ws) rest ≡ word_then (get_or ws k 0) (words_then (drop (suc k) ws) rest)
word-before [] k rest l = absurd (omega arith)
word-before (w ∷ ws) zero rest l = refl
word-before (w ∷ ws) (suc k) rest l = word-before ws k rest (omega arith)

-- one more is written
pub word-put : (ws : List ℕ) (start k : ℕ) (now after rest : List ℕ) → 0 < k → k ≤ length ws
    → drop (start + 2 * (k - 1)) after ≡ word_then (get_or ws (k - 1) 0) (drop (start + 2 * (k - 1) + 2) now)
    → drop (start + 2 * k) now ≡ words_then (drop k ws) rest → drop (start + 2 * (k - 1)) after ≡ words_then (drop (k - 1) ws) rest
word-put ws start k now after rest above under put e =
    let w = get_or ws (k - 1) 0 in
    let two : start + 2 * (k - 1) + 2 ≡ start + 2 * k = omega arith in
    let one : k ≡ suc (k - 1) = omega arith in
    put ∙ ap (λ n. word_then w (drop n now)) two ∙ ap (word_then w) e
    ∙ ap (λ j. word_then w (words_then (drop j ws) rest)) one ∙ sym (word-before ws (k - 1) rest (omega arith))

-- all are written
pub all-put : {before after : List ℕ} {cursor r k : ℕ} (kind : ℕ) (w : List ℕ) → k ≡ 0 → r ≡ cursor - 1
    → drop (12 * r + 2 * k) after
    ≡ words_then (drop k (kind ∷ get_or w 0 0 ∷ get_or w 1 0 ∷ get_or w 2 0 ∷ get_or w 3 0 ∷ get_or w 4 0 ∷ [])) (drop (12 * cursor) before)
    → length after ≡ length before → RecordPut before after cursor (record_numbered kind w) (cursor - 1)
all-put {before} {after} {cursor} {r} {k} kind w none one written long =
    let rest = drop (12 * cursor) before in
    let start : 12 * (cursor - 1) ≡ 12 * r + 2 * k = omega arith in
    let whole = kind ∷ get_or w 0 0 ∷ get_or w 1 0 ∷ get_or w 2 0 ∷ get_or w 3 0 ∷ get_or w 4 0 ∷ [] in
    record {
      one_less = refl;
      put_there = λ h. ap (λ n. drop n after) start ∙ written ∙ ap (λ j. words_then (drop j whole) rest) none;
      as_long = long;
    }
