-- The order of two accepted sheets is that of their terms. The second sheet's term is the first's with each delay holding what the
-- second has at its places; so leaf by leaf the values are in order exactly where the words of the delays' leaves are. By
-- induction on the typing of the first term, and back on the order of the two.
-- Assumes nothing.
use Prim.Native.Nat.{ℕ}
use mathlib.Core.List.Memᴰ
use mathlib.Core.List.{
  List,
  [],
  ◌∷◌,
  ◌++◌,
  map,
  Memᴰ,
}
use mathlib.Core.Logic.{inl, inr}
use mathlib.Core.Path.{◌≡◌, refl}
use Rattle.picoella.specs.Language.{Ty, Within, within_none, within_leaf}
use Rattle.records.specs.Words.{word_a}
use Rattle.records.specs.Trees.{type_at, Declared, circuit, delay_leaves}
use Rattle.verdict.specs.Verdict.{verdict}
use Rattle.answers.specs.Answers.{Accepted}
use Rattle.meaning.specs.Values.{LeafBelow, Both, both_none, both_leaf}
use Rattle.meaning.specs.Elaboration.{
  Term,
  Elaborated,
  e_constant,
  e_name,
  e_pair,
  e_first,
  e_second,
  e_let,
  e_feedback,
  e_if,
  e_delay,
}
use Rattle.meaning.specs.Ordered.{
  Ordered,
  o_constant,
  o_name,
  o_pair,
  o_first,
  o_second,
  o_let,
  o_feedback,
  o_if,
  o_delay,
}
use Rattle.behaviour.specs.Terms.{circuit_term}
use Rattle.behaviour.specs.Delays.{entries}
use Rattle.behaviour.specs.Entries.{Entry, assigned}
use Rattle.behaviour.specs.Afterwards.{OnlyDelays}
use Rattle.behaviour.specs.SheetOrder.{SheetBelow}
use Rattle.behaviour.proofs.Members.{either}
use Rattle.behaviour.proofs.Entries.{place-of-member}
use Rattle.behaviour.proofs.Frames.{fill, Valued, Reads, reads-left, reads-right}
use Rattle.behaviour.proofs.Terms.{circuit-typed}
use Rattle.behaviour.proofs.Sheets.{framed-places, entry-at, circuit-valued, circuit-reads, circuit-filled}
use Rattle.behaviour.proofs.OnlyDelays.{only-delays-same}

-- a sheet is in order with itself
pub sheet-refl : (s : List ℕ) → SheetBelow s s
sheet-refl s = record { only_delays = only-delays-same s; delays_below = λ l m. inr refl }

-- each entry's value is at or below what is read at its place
abbrev Below : (ℕ → ℕ) → List Entry → Type 0
Below read es = (e : Entry) → Memᴰ e es → LeafBelow e.value (read e.place)

module _ (read : ℕ → ℕ) where
  below_left : (es fs : List Entry) → Below read (es ++ fs) → Below read es
  below_left es fs h = λ e m. h e (Memᴰ.append_left fs m)

  below_right : (es fs : List Entry) → Below read (es ++ fs) → Below read fs
  below_right es fs h = λ e m. h e (Memᴰ.append_right es m)

  below_both : (es fs : List Entry) → Below read es → Below read fs → Below read (es ++ fs)
  below_both es fs a b = λ e. either es fs (a e) (b e)

  -- the values of a delay, in order with what is read at its places
  assigned-both : {b v : List ℕ} (ls : List ℕ) → Within b v → Within b (map read ls) → Below read (assigned ls v) → Both b v (map read ls)
  assigned-both [] within_none within_none h = both_none
  assigned-both (l ∷ ls) (within_leaf {v = v} i r) (within_leaf j s) h =
      both_leaf i j (h (record { place = l; value = v }) (Memᴰ.head refl))
      (assigned-both ls r s (λ e m. h e (Memᴰ.tail m)))
  assigned-both [] (within_leaf {n = n} {v = v} {ns = ns} {vs = vs} i r) x12 h = elim x12 [ ]
  assigned-both (l ∷ ls) within_none x8 h = elim x8 [ ]

  -- the term with each delay holding what is read at its places
  filled-ordered : {D : Ty → Type 0} {Γ : List Ty} {t : Term} {τ : Ty} → Elaborated D Γ t τ
      → Valued (fill (map read) t) → Below read (entries t) → Ordered D Γ t (fill (map read) t) τ
  filled-ordered (e_constant k) w h = o_constant k
  filled-ordered (e_name n) w h = o_name n
  filled-ordered (e_pair {t = t} {s = s} a b d) w h =
      o_pair (filled-ordered a w.0 (below_left (entries t) (entries s) h))
      (filled-ordered b w.1 (below_right (entries t) (entries s) h)) d
  filled-ordered (e_first a) w h = o_first (filled-ordered a w h)
  filled-ordered (e_second a) w h = o_second (filled-ordered a w h)
  filled-ordered (e_let {t = t} {s = s} a b) w h =
      o_let (filled-ordered a w.0 (below_left (entries t) (entries s) h))
      (filled-ordered b w.1 (below_right (entries t) (entries s) h))
  filled-ordered (e_feedback {t = t} {s = s} a b) w h =
      o_feedback (filled-ordered a w.0 (below_left (entries t) (entries s) h))
      (filled-ordered b w.1 (below_right (entries t) (entries s) h))
  filled-ordered (e_if {t = t} {s = s} {r = r} a p b c) w h =
      let rest = below_right (entries t) (entries s ++ entries r) h in
      o_if (filled-ordered a w.0 (below_left (entries t) (entries s ++ entries r) h)) p
      (filled-ordered b w.1 (below_left (entries s) (entries r) rest))
      (filled-ordered c w.2 (below_right (entries s) (entries r) rest))
  filled-ordered (e_delay {places = ls} {v = v} {t = t} k a) w h =
      o_delay (assigned-both ls k w.0 (below_right (entries t) (assigned ls v) h))
      (filled-ordered a w.1 (below_left (entries t) (assigned ls v) h))

  assigned-cons : (l v : ℕ) (es : List Entry) → LeafBelow v (read l) → Below read es → Below read (record { place = l; value = v } ∷ es)
  assigned-cons l v es h rest e (Memᴰ.head p) = rw p h
  assigned-cons l v es h rest e (Memᴰ.tail m) = rest e m

  assigned-below : (ls : List ℕ) {b v w : List ℕ} → Both b v w → Reads read (assigned ls w) → Below read (assigned ls v)
  assigned-below [] r h = λ e m. elim m [ ]
  assigned-below (l ∷ ls) both_none h =
      assigned-cons l 0 (assigned ls []) (inl refl) (assigned-below ls both_none (λ e m. h e (Memᴰ.tail m)))
  assigned-below (l ∷ ls) (both_leaf {v = v} {w = w} {vs = vs} i j o r) h =
      let here : read l ≡ w = h (record { place = l; value = w }) (Memᴰ.head refl) in
      assigned-cons l v (assigned ls vs) (rw here o) (assigned-below ls r (λ e m. h e (Memᴰ.tail m)))

  -- where the second term's values are read at their places, the first's are at or below what is read
  ordered-below : {D : Ty → Type 0} {Γ : List Ty} {t u : Term} {τ : Ty} → Ordered D Γ t u τ
      → Reads read (entries u) → Below read (entries t)
  ordered-below (o_constant k) h = λ e m. elim m [ ]
  ordered-below (o_name n) h = λ e m. elim m [ ]
  ordered-below (o_pair {t = t} {s = s} {t' = t'} {s' = s'} a b d) h =
      below_both (entries t) (entries s) (ordered-below a (reads-left read (entries t') (entries s') h))
      (ordered-below b (reads-right read (entries t') (entries s') h))
  ordered-below (o_first a) h = ordered-below a h
  ordered-below (o_second a) h = ordered-below a h
  ordered-below (o_let {t = t} {s = s} {t' = t'} {s' = s'} a b) h =
      below_both (entries t) (entries s) (ordered-below a (reads-left read (entries t') (entries s') h))
      (ordered-below b (reads-right read (entries t') (entries s') h))
  ordered-below (o_feedback {t = t} {s = s} {t' = t'} {s' = s'} a b) h =
      below_both (entries t) (entries s) (ordered-below a (reads-left read (entries t') (entries s') h))
      (ordered-below b (reads-right read (entries t') (entries s') h))
  ordered-below (o_if {t = t} {s = s} {r = r} {t' = t'} {s' = s'} {r' = r'} a p b c) h =
      let rest = reads-right read (entries t') (entries s' ++ entries r') h in
      below_both (entries t) (entries s ++ entries r)
      (ordered-below a (reads-left read (entries t') (entries s' ++ entries r') h))
      (below_both (entries s) (entries r) (ordered-below b (reads-left read (entries s') (entries r') rest))
      (ordered-below c (reads-right read (entries s') (entries r') rest)))
  ordered-below (o_delay {places = ls} {v = v} {w = w} {t = t} {t' = t'} r a) h =
      below_both (entries t) (assigned ls v) (ordered-below a (reads-left read (entries t') (assigned ls w) h))
      (assigned-below ls r (reads-right read (entries t') (assigned ls w) h))

module _ {s s' : List ℕ} {t t' : ℕ} (v : verdict s ≡ Accepted t) (v' : verdict s' ≡ Accepted t') where
  -- sheets in order have terms in order
  pub terms-ordered : SheetBelow s s'
      → Ordered (Declared s) (type_at s (word_a s 0) ∷ []) (circuit_term s) (circuit_term s') (type_at s t)
  terms-ordered b =
      let filled = circuit-filled s v b.only_delays in
      let values : Valued (fill (map (word_a s')) (circuit_term s)) = rw filled at (circuit-valued s' v') in
      rw filled (filled-ordered (word_a s') (circuit-typed s t v) values below)
    where
      below : Below (word_a s') (entries (circuit_term s))
      below e m =
          let here : word_a s e.place ≡ e.value = circuit-reads s v e m in
          rw (← here)
          (b.delays_below e.place
          ((framed-places s (circuit_term s) refl).back e.place (place-of-member e (entries (circuit_term s)) m)))

  -- and the other way round
  pub sheets-below : {D : Ty → Type 0} {Γ : List Ty} {τ : Ty} → OnlyDelays s s'
      → Ordered D Γ (circuit_term s) (circuit_term s') τ → SheetBelow s s'
  sheets-below o r = record { only_delays = o; delays_below = below }
    where
      below : (l : ℕ) → Memᴰ l (delay_leaves (circuit s)) → LeafBelow (word_a s l) (word_a s' l)
      below l m =
          let f = entry-at l (entries (circuit_term s)) ((framed-places s (circuit_term s) refl).there l m) in
          let here : word_a s f.0.place ≡ f.0.value = circuit-reads s v f.0 f.1 in
          let there : LeafBelow f.0.value (word_a s' f.0.place) =
          ordered-below (word_a s') r (circuit-reads s' v') f.0 f.1 in
          let p = f.2 in
          rw (← p, here) there
