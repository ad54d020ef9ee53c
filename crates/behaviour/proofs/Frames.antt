-- Terms of one frame: they have the same places, and become the same term where each delay is given what its places hold. A term
-- whose places hold its values becomes itself so. What is asked of a delay's places and type alone is asked of a frame; and the
-- values of a well-typed term are of their delays' types. By induction on the term.
-- Assumes nothing.
use Prim.Native.Nat.{ℕ, ◌≤◌}
use mathlib.Core.List.Memᴰ
use mathlib.Core.List.{
  List,
  [],
  ◌∷◌,
  ◌++◌,
  map,
  Memᴰ,
}
use mathlib.Core.Path.{◌≡◌, refl, sym, ap, ap₂, subst, ◌∙◌}
use native.Mathlib.Omega.{arith}
use lib.ListN.{length}
use Rattle.picoella.specs.Language.{Ty, bounds, leaves, Within, within_none, within_leaf, OfType}
use Rattle.meaning.specs.Elaboration.{
  Term,
  Constant,
  Name,
  Pair,
  First,
  Second,
  LetIn,
  Feedback,
  IfThenElse,
  Delayed,
  Elaborated,
  e_constant,
  e_name,
  e_pair,
  e_first,
  e_second,
  e_let,
  e_feedback,
  e_if,
  e_delay,
  frame,
}
use Rattle.meaning.proofs.Order.{value-length}
use Rattle.behaviour.specs.Delays.{entries, places}
use Rattle.behaviour.specs.Entries.{Entry, assigned}
use Rattle.behaviour.proofs.Members.{either}
use Rattle.behaviour.proofs.Entries.{places_of, places-append}

pub assigned-places : (ls vs : List ℕ) → places_of (assigned ls vs) ≡ ls
assigned-places [] vs = refl
assigned-places (l ∷ ls) [] = ap (◌∷◌ l) (assigned-places ls [])
assigned-places (l ∷ ls) (v ∷ vs) = ap (◌∷◌ l) (assigned-places ls vs)

joined : (es fs : List Entry) {ls ms : List ℕ} → places_of es ≡ ls → places_of fs ≡ ms → places_of (es ++ fs) ≡ ls ++ ms
joined es fs p q = places-append es fs ∙ ap₂ ◌++◌ p q

alike : (es fs es' fs' : List Entry) → places_of es ≡ places_of es' → places_of fs ≡ places_of fs'
    → places_of (es ++ fs) ≡ places_of (es' ++ fs')
alike es fs es' fs' p q = joined es fs p q ∙ sym (places-append es' fs')

places-framed : (t : Term) → places (frame t) ≡ places t
places-framed (Constant τ v) = refl
places-framed (Name n) = refl
places-framed (Pair t u) =
    alike (entries (frame t)) (entries (frame u)) (entries t) (entries u) (places-framed t) (places-framed u)
places-framed (First σ t) = places-framed t
places-framed (Second σ t) = places-framed t
places-framed (LetIn t u) =
    alike (entries (frame t)) (entries (frame u)) (entries t) (entries u) (places-framed t) (places-framed u)
places-framed (Feedback τ t u) =
    alike (entries (frame t)) (entries (frame u)) (entries t) (entries u) (places-framed t) (places-framed u)
places-framed (IfThenElse t p u r) =
    alike (entries (frame t)) (entries (frame u) ++ entries (frame r)) (entries t) (entries u ++ entries r) (places-framed t)
    (alike (entries (frame u)) (entries (frame r)) (entries u) (entries r) (places-framed u) (places-framed r))
places-framed (Delayed ls τ v t) =
    alike (entries (frame t)) (assigned ls []) (entries t) (assigned ls v) (places-framed t)
    (assigned-places ls [] ∙ sym (assigned-places ls v))

pub same-places : (t u : Term) → frame t ≡ frame u → places t ≡ places u
same-places t u e = sym (places-framed t) ∙ ap places e ∙ places-framed u

-- each delay given what is read for its places
abbrev pub fill : (List ℕ → List ℕ) → Term → Term
fill f (Constant τ v) = Constant τ v
fill f (Name n) = Name n
fill f (Pair t u) = Pair (fill f t) (fill f u)
fill f (First σ t) = First σ (fill f t)
fill f (Second σ t) = Second σ (fill f t)
fill f (LetIn t u) = LetIn (fill f t) (fill f u)
fill f (Feedback τ t u) = Feedback τ (fill f t) (fill f u)
fill f (IfThenElse t p u r) = IfThenElse (fill f t) p (fill f u) (fill f r)
fill f (Delayed ls τ v t) = Delayed ls τ (f ls) (fill f t)

fill-framed : (f : List ℕ → List ℕ) (t : Term) → fill f (frame t) ≡ fill f t
fill-framed f (Constant τ v) = refl
fill-framed f (Name n) = refl
fill-framed f (Pair t u) = ap₂ Pair (fill-framed f t) (fill-framed f u)
fill-framed f (First σ t) = ap (First σ) (fill-framed f t)
fill-framed f (Second σ t) = ap (Second σ) (fill-framed f t)
fill-framed f (LetIn t u) = ap₂ LetIn (fill-framed f t) (fill-framed f u)
fill-framed f (Feedback τ t u) = ap₂ (Feedback τ) (fill-framed f t) (fill-framed f u)
fill-framed f (IfThenElse t p u r) = λ i. IfThenElse (fill-framed f t i) p (fill-framed f u i) (fill-framed f r i)
fill-framed f (Delayed ls τ v t) = ap (Delayed ls τ (f ls)) (fill-framed f t)

pub same-filled : (f : List ℕ → List ℕ) (t u : Term) → frame t ≡ frame u → fill f t ≡ fill f u
same-filled f t u e = sym (fill-framed f t) ∙ ap (fill f) e ∙ fill-framed f u

-- what is asked of each delay's places and type
abbrev pub EachDelay : (List ℕ → Ty → Type 0) → Term → Type 0
EachDelay P (Constant τ v) = Unit {0}
EachDelay P (Name n) = Unit {0}
EachDelay P (Pair t u) = EachDelay P t × EachDelay P u
EachDelay P (First σ t) = EachDelay P t
EachDelay P (Second σ t) = EachDelay P t
EachDelay P (LetIn t u) = EachDelay P t × EachDelay P u
EachDelay P (Feedback τ t u) = EachDelay P t × EachDelay P u
EachDelay P (IfThenElse t p u r) = EachDelay P t × EachDelay P u × EachDelay P r
EachDelay P (Delayed ls τ v t) = P ls τ × EachDelay P t

placed-framed : (P : List ℕ → Ty → Type 0) (t : Term) → EachDelay P (frame t) ≡ EachDelay P t
placed-framed P (Constant τ v) = refl
placed-framed P (Name n) = refl
placed-framed P (Pair t u) = ap₂ (λ A B. A × B) (placed-framed P t) (placed-framed P u)
placed-framed P (First σ t) = placed-framed P t
placed-framed P (Second σ t) = placed-framed P t
placed-framed P (LetIn t u) = ap₂ (λ A B. A × B) (placed-framed P t) (placed-framed P u)
placed-framed P (Feedback τ t u) = ap₂ (λ A B. A × B) (placed-framed P t) (placed-framed P u)
placed-framed P (IfThenElse t p u r) = λ i. placed-framed P t i × placed-framed P u i × placed-framed P r i
placed-framed P (Delayed ls τ v t) = ap (λ A. P ls τ × A) (placed-framed P t)

pub same-placed : (P : List ℕ → Ty → Type 0) (t u : Term) → frame t ≡ frame u → EachDelay P t → EachDelay P u
same-placed P t u e h = subst (λ A. A) (sym (placed-framed P t) ∙ ap (EachDelay P) e ∙ placed-framed P u) h

-- the values of constants and delays are of their types
abbrev pub Valued : Term → Type 0
Valued (Constant τ v) = OfType τ v
Valued (Name n) = Unit {0}
Valued (Pair t u) = Valued t × Valued u
Valued (First σ t) = Valued t
Valued (Second σ t) = Valued t
Valued (LetIn t u) = Valued t × Valued u
Valued (Feedback τ t u) = Valued t × Valued u
Valued (IfThenElse t p u r) = Valued t × Valued u × Valued r
Valued (Delayed ls τ v t) = OfType τ v × Valued t

pub typed-valued : {D : Ty → Type 0} {Γ : List Ty} {t : Term} {τ : Ty} → Elaborated D Γ t τ → Valued t
typed-valued (e_constant h) = h
typed-valued (e_name n) = tt
typed-valued (e_pair t u d) = (typed-valued t, typed-valued u)
typed-valued (e_first t) = typed-valued t
typed-valued (e_second t) = typed-valued t
typed-valued (e_let t u) = (typed-valued t, typed-valued u)
typed-valued (e_feedback t u) = (typed-valued t, typed-valued u)
typed-valued (e_if t p u r) = (typed-valued t, typed-valued u, typed-valued r)
typed-valued (e_delay h t) = (h, typed-valued t)

-- a delay of this type has a place for each leaf, and each leaf's count is a byte
pub record HasPlaces (ls : List ℕ) (τ : Ty) : Type 0 where
  pub as_many : length ls ≡ leaves τ
  pub small : (n : ℕ) → Memᴰ n (bounds τ) → n ≤ 255

-- each entry's value is read at its place
abbrev pub Reads : (ℕ → ℕ) → List Entry → Type 0
Reads read es = (e : Entry) → Memᴰ e es → read e.place ≡ e.value

pub read-assigned : (read : ℕ → ℕ) (ls vs : List ℕ) → length ls ≡ length vs → Reads read (assigned ls vs) → map read ls ≡ vs
read-assigned read [] [] e h = refl
read-assigned read [] (v ∷ vs) e h = absurd (omega arith)
read-assigned read (l ∷ ls) [] e h = absurd (omega arith)
read-assigned read (l ∷ ls) (v ∷ vs) e h =
    ap₂ ◌∷◌ (h (record { place = l; value = v }) (Memᴰ.head refl))
    (read-assigned read ls vs (omega arith) (λ f m. h f (Memᴰ.tail m)))

pub reads-left : (read : ℕ → ℕ) (es fs : List Entry) → Reads read (es ++ fs) → Reads read es
reads-left read es fs h = λ e m. h e (Memᴰ.append_left fs m)

pub reads-right : (read : ℕ → ℕ) (es fs : List Entry) → Reads read (es ++ fs) → Reads read fs
reads-right read es fs h = λ e m. h e (Memᴰ.append_right es m)

pub fill-own : (read : ℕ → ℕ) (t : Term) → EachDelay HasPlaces t → Valued t → Reads read (entries t) → fill (map read) t ≡ t
fill-own read (Constant τ v) p w h = refl
fill-own read (Name n) p w h = refl
fill-own read (Pair t u) p w h =
    ap₂ Pair (fill-own read t p.0 w.0 (reads-left read (entries t) (entries u) h))
    (fill-own read u p.1 w.1 (reads-right read (entries t) (entries u) h))
fill-own read (First σ t) p w h = ap (First σ) (fill-own read t p w h)
fill-own read (Second σ t) p w h = ap (Second σ) (fill-own read t p w h)
fill-own read (LetIn t u) p w h =
    ap₂ LetIn (fill-own read t p.0 w.0 (reads-left read (entries t) (entries u) h))
    (fill-own read u p.1 w.1 (reads-right read (entries t) (entries u) h))
fill-own read (Feedback τ t u) p w h =
    ap₂ (Feedback τ) (fill-own read t p.0 w.0 (reads-left read (entries t) (entries u) h))
    (fill-own read u p.1 w.1 (reads-right read (entries t) (entries u) h))
fill-own read (IfThenElse t q u r) p w h =
    let rest = reads-right read (entries t) (entries u ++ entries r) h in
    let ft = fill-own read t p.0 w.0 (reads-left read (entries t) (entries u ++ entries r) h) in
    let fu = fill-own read u p.1 w.1 (reads-left read (entries u) (entries r) rest) in
    let fr = fill-own read r p.2 w.2 (reads-right read (entries u) (entries r) rest) in
    λ i. IfThenElse (ft i) q (fu i) (fr i)
fill-own read (Delayed ls τ v t) p w h =
    let e = p.0.as_many in
    let f = value-length τ w.0 in
    ap₂ (Delayed ls τ) (read-assigned read ls v (omega arith) (reads-right read (entries t) (assigned ls v) h))
    (fill-own read t p.1 w.1 (reads-left read (entries t) (assigned ls v) h))

-- each value is a byte
abbrev pub ByteEntries : List Entry → Type 0
ByteEntries es = (e : Entry) → Memᴰ e es → e.value ≤ 255

small-both : (es fs : List Entry) → ByteEntries es → ByteEntries fs → ByteEntries (es ++ fs)
small-both es fs a b = λ e. either es fs (a e) (b e)

small-cons : (l v : ℕ) (es : List Entry) → v ≤ 255 → ByteEntries es → ByteEntries (record { place = l; value = v } ∷ es)
small-cons l v es h rest e (Memᴰ.head p) = rw p h
small-cons l v es h rest e (Memᴰ.tail m) = rest e m

assigned-small : (ls : List ℕ) {ns vs : List ℕ} → Within ns vs → ((n : ℕ) → Memᴰ n ns → n ≤ 255)
    → ByteEntries (assigned ls vs)
assigned-small [] w small = λ e m. elim m [ ]
assigned-small (l ∷ ls) within_none small = small-cons l 0 (assigned ls []) (omega arith) (assigned-small ls within_none small)
assigned-small (l ∷ ls) (within_leaf {n = n} {v = v} {vs = vs} h w) small =
    let k = small n (Memᴰ.head refl) in
    small-cons l v (assigned ls vs) (omega arith) (assigned-small ls w (λ n m. small n (Memᴰ.tail m)))

pub values-small : (t : Term) → EachDelay HasPlaces t → Valued t → ByteEntries (entries t)
values-small (Constant τ v) p w = λ e m. elim m [ ]
values-small (Name n) p w = λ e m. elim m [ ]
values-small (Pair t u) p w =
    small-both (entries t) (entries u) (values-small t p.0 w.0) (values-small u p.1 w.1)
values-small (First σ t) p w = values-small t p w
values-small (Second σ t) p w = values-small t p w
values-small (LetIn t u) p w =
    small-both (entries t) (entries u) (values-small t p.0 w.0) (values-small u p.1 w.1)
values-small (Feedback τ t u) p w =
    small-both (entries t) (entries u) (values-small t p.0 w.0) (values-small u p.1 w.1)
values-small (IfThenElse t q u r) p w =
    small-both (entries t) (entries u ++ entries r) (values-small t p.0 w.0)
    (small-both (entries u) (entries r) (values-small u p.1 w.1) (values-small r p.2 w.2))
values-small (Delayed ls τ v t) p w =
    small-both (entries t) (assigned ls v) (values-small t p.1 w.1) (assigned-small ls w.0 p.0.small)
