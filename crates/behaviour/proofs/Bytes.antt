-- What is written to a sheet of bytes is a sheet of bytes: the values of a term that can be written are at most 255.
-- Assumes nothing.
use Prim.Native.Nat.{ℕ, ◌≤◌, ◌<◌}
use mathlib.Core.List.Memᴰ
use mathlib.Core.List.{List, [], ◌∷◌}
use mathlib.Core.Path.{◌≡◌, refl}
use native.Mathlib.Omega.{arith}
use native.Mathlib.Decide.{ℕ_discrete, dec_lt}
use lib.ListN.{length, get_or, set}
use lib.Seq.{get_or-set_same, get_or-set_other, set_out}
use Rattle.verdict.specs.Verdict.{verdict}
use Rattle.answers.specs.Answers.{Accepted}
use Rattle.meaning.specs.Elaboration.{Term}
use Rattle.behaviour.specs.Delays.{entries}
use Rattle.behaviour.specs.Entries.{Entry, put_all, put_word}
use Rattle.records.specs.Words.{low_byte, high_byte}
use Rattle.behaviour.specs.Sheets.{write}
use Rattle.behaviour.specs.Writable.{Writable}
use Rattle.behaviour.specs.Afterwards.{Bytes}
use Rattle.behaviour.proofs.Frames.{ByteEntries}
use Rattle.behaviour.proofs.Stores.{written_small}

set-bytes : (s : List ℕ) (i v : ℕ) → v ≤ 255 → Bytes s → Bytes (set s i v)
set-bytes s i v small b j = go (ℕ_discrete j i) (dec_lt i (length s))
  where
    go : Dec (j ≡ i) → Dec (i < length s) → get_or (set s i v) j 0 ≤ 255
    go (no f) d = rw (get_or-set_other s i j v 0 f) (b j)
    go (yes e) (yes h) = rw (e, get_or-set_same s i v 0 h) small
    go (yes e) (no f) = rw (set_out s i v (omega arith)) (b j)

put-bytes : (es : List Entry) (s : List ℕ) → ByteEntries es → Bytes s → Bytes (put_all put_word es s)
put-bytes [] s small b = b
put-bytes (e ∷ es) s small b =
    put-bytes es (put_word e.place e.value s) (λ f m. small f (Memᴰ.tail m))
    (set-bytes (set s (low_byte e.place) e.value) (high_byte e.place) 0 (omega arith)
    (set-bytes s (low_byte e.place) e.value (small e (Memᴰ.head refl)) b))

pub write_bytes : (s : List ℕ) (t : ℕ) → verdict s ≡ Accepted t → (e : Term) → Writable s t e → Bytes s → Bytes (write s e)
unfolding write
write_bytes s t v e h b = put-bytes (entries e) s (written_small v h) b
