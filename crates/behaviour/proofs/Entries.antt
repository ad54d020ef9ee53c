-- Entries put in order: those of one list and then of another; what a step leaves alone is left alone by all; where a later step
-- overwrites a place, what stood there before does not matter; and at distinct places each value can be read back. Over any
-- store of cells in which a put is read back, leaves other cells alone, overwrites its own and commutes with others, so that
-- tables and sheets are instances. By induction on the entries.
-- Assumes nothing.
use Prim.Native.Nat.{ℕ}
use mathlib.Core.List.{List, [], ◌∷◌, ◌++◌, map, Memᴰ}
use mathlib.Core.Path.{◌≡◌, refl, sym, ap, ◌∙◌}
use native.Mathlib.Decide.{ℕ_discrete}
use Rattle.records.specs.Written.{Distinct}
use Rattle.behaviour.specs.Entries.{Entry, put_all}

-- the places of entries
abbrev pub places_of : List Entry → List ℕ
places_of es = map (λ e. e.place) es

pub place-of-member : (e : Entry) (es : List Entry) → Memᴰ e es → Memᴰ e.place (places_of es)
place-of-member e [] x' = elim x' [ ]
place-of-member e (f ∷ es) (Memᴰ.head p) = Memᴰ.head (ap (λ e. e.place) p)
place-of-member e (f ∷ es) (Memᴰ.tail m) = Memᴰ.tail (place-of-member e es m)

pub places-append : (es fs : List Entry) → places_of (es ++ fs) ≡ places_of es ++ places_of fs
places-append [] fs = refl
places-append (e ∷ es) fs = ap (◌∷◌ e.place) (places-append es fs)

module _ (put : (place value : ℕ) → List ℕ → List ℕ) where
  pub put-append : (es fs : List Entry) (a : List ℕ) → put_all put (es ++ fs) a ≡ put_all put fs (put_all put es a)
  put-append [] fs a = refl
  put-append (e ∷ es) fs a = put-append es fs (put e.place e.value a)

  -- what each put leaves alone
  pub put-leaves {ℓ} : {B : Type ℓ} (view : List ℕ → B) (es : List Entry)
      → ((l : ℕ) → Memᴰ l (places_of es) → (v : ℕ) (a : List ℕ) → view (put l v a) ≡ view a)
      → (a : List ℕ) → view (put_all put es a) ≡ view a
  put-leaves view [] leaves a = refl
  put-leaves view (e ∷ es) leaves a =
      put-leaves view es (λ l m. leaves l (Memᴰ.tail m)) (put e.place e.value a)
      ∙ leaves e.place (Memᴰ.head refl) e.value a

-- cells of a list: in what a put reads back, and what it does to others
pub record Cells
    (put : (place value : ℕ) → List ℕ → List ℕ)
    (read : List ℕ → ℕ → ℕ)
    (Room : ℕ → List ℕ → Type 0)
    : Type 0
  where
    pub room : (l m v : ℕ) (a : List ℕ) → Room l a → Room l (put m v a)
    pub same : (l v : ℕ) (a : List ℕ) → Room l a → read (put l v a) l ≡ v
    pub other : (l m v : ℕ) (a : List ℕ) → (l ≡ m → ⊥) → read (put m v a) l ≡ read a l
    pub overwrites : (l v u : ℕ) (a : List ℕ) → put l v (put l u a) ≡ put l v a
    pub commutes : (l m v u : ℕ) (a : List ℕ) → (l ≡ m → ⊥) → put l v (put m u a) ≡ put m u (put l v a)

module _
    {put : (place value : ℕ) → List ℕ → List ℕ}
    {read : List ℕ → ℕ → ℕ}
    {Room : ℕ → List ℕ → Type 0}
    (cells : Cells put read Room)
  where
    -- a put at a place that is put again does not matter
    put-before : (es : List Entry) (l v : ℕ) (a : List ℕ) → Memᴰ l (places_of es)
        → put_all put es (put l v a) ≡ put_all put es a
    put-before [] l v a m = elim m [ ]
    put-before (e ∷ es) l v a m = go (ℕ_discrete l e.place) m (put-before es l v (put e.place e.value a))
      where
        go : Dec (l ≡ e.place) → Memᴰ l (places_of (e ∷ es))
            → (Memᴰ l (places_of es)
            → put_all put es (put l v (put e.place e.value a)) ≡ put_all put es (put e.place e.value a))
            → put_all put es (put e.place e.value (put l v a)) ≡ put_all put es (put e.place e.value a)
        go (yes p) m ih =
            ap (put_all put es) (rw p (cells.overwrites e.place e.value v a))
        go (no f) (Memᴰ.head p) ih = absurd (f p)
        go (no f) (Memᴰ.tail m) ih =
            ap (put_all put es) (cells.commutes e.place l e.value v a (λ p. f (sym p))) ∙ ih m

    -- entries put before others of the same places do not matter
    pub put-again : (es fs : List Entry) (a : List ℕ)
        → ((l : ℕ) → Memᴰ l (places_of fs) → Memᴰ l (places_of es))
        → put_all put es (put_all put fs a) ≡ put_all put es a
    put-again es [] a within = refl
    put-again es (f ∷ fs) a within =
        put-again es fs (put f.place f.value a) (λ l m. within l (Memᴰ.tail m))
        ∙ put-before es f.place f.value a (within f.place (Memᴰ.head refl))

    -- a cell that no entry has keeps what it held
    pub put-elsewhere : (es : List Entry) (l : ℕ) (a : List ℕ) → (Memᴰ l (places_of es) → ⊥)
        → read (put_all put es a) l ≡ read a l
    put-elsewhere [] l a f = refl
    put-elsewhere (e ∷ es) l a f =
        put-elsewhere es l (put e.place e.value a) (λ m. f (Memᴰ.tail m))
        ∙ cells.other l e.place e.value a (λ p. f (Memᴰ.head p))

    -- at distinct places each value is read back
    pub put-read : (es : List Entry) (a : List ℕ) → Distinct (places_of es)
        → ((l : ℕ) → Memᴰ l (places_of es) → Room l a)
        → (e : Entry) → Memᴰ e es → read (put_all put es a) e.place ≡ e.value
    put-read [] a d room e m = elim m [ ]
    put-read (f ∷ es) a d room e (Memᴰ.head p) =
        rw p
        (put-elsewhere es f.place (put f.place f.value a) d.0
        ∙ cells.same f.place f.value a (room f.place (Memᴰ.head refl)))
    put-read (f ∷ es) a d room e (Memᴰ.tail m) =
        put-read es (put f.place f.value a) d.1
        (λ l n. cells.room l f.place f.value a (room l (Memᴰ.tail n))) e m
