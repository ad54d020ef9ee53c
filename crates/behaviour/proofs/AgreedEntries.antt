-- Entries of one place that agree: their value is read there.
-- Assumes nothing.
use Prim.Native.Nat.{ℕ, zero, suc, ◌<◌}
use mathlib.Core.List.{List, [], ◌∷◌, Memᴰ}
use mathlib.Core.Logic.{◌⊎◌, inl, inr}
use mathlib.Core.Path.{◌≡◌, refl, sym, ◌∙◌}
use lib.ListN.{length, get_or, set, replicate, length-set}
use lib.Seq.{get_or-set_same}
use Rattle.behaviour.specs.Entries.{Entry, put_all, enter}
use Rattle.behaviour.proofs.Members.{member-or-not}
use Rattle.behaviour.proofs.Entries.{places_of, put-elsewhere}
use Rattle.behaviour.proofs.Cells.{table-cells}

-- a place of entries is that of one of them
pub entry-of-place : (es : List Entry) (l : ℕ) → Memᴰ l (places_of es) → (x : Entry) × Memᴰ x es × (x.place ≡ l)
entry-of-place [] l m = elim m [ ]
entry-of-place (x ∷ es) l (Memᴰ.head p) = (x, Memᴰ.head refl, sym p)
entry-of-place (x ∷ es) l (Memᴰ.tail m) =
    let o = entry-of-place es l m in (o.0, Memᴰ.tail o.1, o.2)

-- where all entries of a place agree, their value is read there
pub read-agreed : (es : List Entry) (h : List ℕ) (l n : ℕ) → l < length h → Memᴰ l (places_of es)
    → ((x : Entry) → Memᴰ x es → x.place ≡ l → x.value ≡ n) → get_or (put_all enter es h) l 0 ≡ n
read-agreed [] h l n room m agree = elim m [ ]
read-agreed (x ∷ es) h l n room m agree =
    go (member-or-not l (places_of es)) m
    (λ later. read-agreed es (set h x.place x.value) l n (rw (length-set h x.place x.value) room) later
    (λ y k. agree y (Memᴰ.tail k)))
  where
    go : Memᴰ l (places_of es) ⊎ (Memᴰ l (places_of es) → ⊥) → Memᴰ l (places_of (x ∷ es))
        → (Memᴰ l (places_of es) → get_or (put_all enter es (set h x.place x.value)) l 0 ≡ n)
        → get_or (put_all enter es (set h x.place x.value)) l 0 ≡ n
    go (inl later) m rest = rest later
    go (inr last) (Memᴰ.tail later) rest = absurd (last later)
    go (inr last) (Memᴰ.head p) rest =
        put-elsewhere table-cells es l (set h x.place x.value) last
        ∙ rw p (get_or-set_same h x.place x.value 0 (rw p at room))
        ∙ agree x (Memᴰ.head refl) (sym p)

pub zero-everywhere : (n i : ℕ) → get_or {A = ℕ} (replicate n 0) i 0 ≡ 0
zero-everywhere zero i = refl
zero-everywhere (suc n) zero = refl
zero-everywhere (suc n) (suc i) = zero-everywhere n i
