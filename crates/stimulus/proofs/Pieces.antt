-- Pieces of a list and lists laid end to end: the pieces laid end to end are the list, the k-th piece begins at k times the width,
-- and of lists of one width laid end to end the k-th stands there. By induction on the pieces.
-- Assumes nothing.
use Prim.Native.Nat.{ℕ, zero, suc, ◌+◌, ◌*◌, ◌<◌}
use mathlib.Core.List.{List, [], ◌∷◌, ◌++◌}
use mathlib.Core.Path.{◌≡◌, refl, ap, ◌∙◌}
use native.Mathlib.Omega.{arith}
use lib.ListN.{length, get_or, take, drop, length-append, length-drop, take-append-drop}
use lib.Seq.{take_at, drop-append-add, drop-drop}
use Rattle.picoella.specs.Language.{Ty, leaves}
use Rattle.meaning.specs.Values.{AllOf, all_none, all_more}
use Rattle.meaning.proofs.Order.{value-length}
use Rattle.stimulus.specs.Stimulus.{pieces, end_to_end}

pub pieces-length : (w n : ℕ) (l : List ℕ) → length (pieces w n l) ≡ n
pieces-length w zero l = refl
pieces-length w (suc n) l = ap suc (pieces-length w n (drop w l))

pub piece-at : (w n : ℕ) (l : List ℕ) (k : ℕ) → k < n → get_or (pieces w n l) k [] ≡ take w (drop (k * w) l)
piece-at w zero l k h = absurd (omega arith)
piece-at w (suc n) l zero h = let e : 0 * w ≡ 0 = omega arith in rw e
piece-at w (suc n) l (suc k) h =
    let e : w + k * w ≡ suc k * w = omega arith in
    piece-at w n (drop w l) k (omega arith)
    ∙ ap (take w) (drop-drop (k * w) w l ∙ ap (λ m. drop m l) e)

no-elements : (l : List ℕ) → length l ≡ 0 → [] ≡ l
no-elements [] e = refl
no-elements (x ∷ l) e = absurd (omega arith)

pub pieces-joined : (w n : ℕ) (l : List ℕ) → length l ≡ n * w → end_to_end (pieces w n l) ≡ l
pieces-joined w zero l e = no-elements l (omega arith)
pieces-joined w (suc n) l e =
    ap (◌++◌ (take w l)) (pieces-joined w n (drop w l) (rw (length-drop w l, e) (omega arith))) ∙ take-append-drop w l

-- lists of one width
abbrev pub Wide : ℕ → List (List ℕ) → Type 0
Wide w [] = Unit {0}
Wide w (v ∷ vs) = (length v ≡ w) × Wide w vs

pub joined_length : (w : ℕ) (vs : List (List ℕ)) → Wide w vs → length (end_to_end vs) ≡ length vs * w
joined_length w [] h = omega arith
joined_length w (v ∷ vs) h =
    let e = h.0 in let f = joined_length w vs h.1 in rw (length-append v (end_to_end vs)) (omega arith)

pub joined_at : (w : ℕ) (vs : List (List ℕ)) → Wide w vs → (k : ℕ) → k < length vs
    → take w (drop (k * w) (end_to_end vs)) ≡ get_or vs k []
joined_at w [] h k b = absurd (omega arith)
joined_at w (v ∷ vs) h zero b =
    let e : 0 * w ≡ 0 = omega arith in rw e (take_at v (end_to_end vs) w h.0)
joined_at w (v ∷ vs) h (suc k) b =
    let e : suc k * w ≡ length v + k * w = let f = h.0 in omega arith in
    rw (e, drop-append-add v (end_to_end vs) (k * w)) (joined_at w vs h.1 k (omega arith))

pub wide_at : (w : ℕ) (vs : List (List ℕ)) → Wide w vs → (k : ℕ) → k < length vs → length (get_or vs k []) ≡ w
wide_at w [] h k b = absurd (omega arith)
wide_at w (v ∷ vs) h zero b = h.0
wide_at w (v ∷ vs) h (suc k) b = wide_at w vs h.1 k (omega arith)

-- values of one type have its width
pub typed-wide : {τ : Ty} {vs : List (List ℕ)} → AllOf τ vs → Wide (leaves τ) vs
typed-wide all_none = tt
typed-wide {τ} (all_more h r) = (value-length τ h, typed-wide r)
