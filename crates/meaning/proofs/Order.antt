-- The order of values and its three-place form: `Both` splits into being within the bounds and the order and is made of them,
-- it is reflexive and transitive, and it goes with appending, taking and dropping leaves. Undefined lies below every value.
-- Assumes nothing.
use Prim.Native.Nat.{ℕ, zero, suc, ◌≤◌, zero-le, suc-le-suc}
use native.Mathlib.Nat.{le_step}
use mathlib.Core.Path.{◌≡◌, refl, ap, ◌∙◌}
use mathlib.Core.Logic.{inl, inr}
use mathlib.Core.List.{List, [], ◌∷◌, ◌++◌}
use lib.ListN.{length, take, drop, replicate, length-append}
use Rattle.picoella.specs.Language.{Ty, Flat, TyTuple, bounds, leaves, Within, within_none, within_leaf, OfType}
use Rattle.meaning.specs.Values.{
  undefined,
  LeafBelow,
  ◌⊑◌,
  below_none,
  below_leaf,
  Both,
  both_none,
  both_leaf,
}

-- how many leaves are undefined
abbrev pub zeros : List ℕ → ℕ
zeros [] = 0
zeros (zero ∷ vs) = suc (zeros vs)
zeros (suc v ∷ vs) = zeros vs

-- the halves, and the whole from its halves
pub both-lower : {b v w : List ℕ} → Both b v w → Within b v
both-lower both_none = within_none
both-lower (both_leaf h k o r) = within_leaf h (both-lower r)

pub both-upper : {b v w : List ℕ} → Both b v w → Within b w
both-upper both_none = within_none
both-upper (both_leaf h k o r) = within_leaf k (both-upper r)

pub both_below : {b v w : List ℕ} → Both b v w → v ⊑ w
both_below both_none = below_none
both_below (both_leaf h k o r) = below_leaf o (both_below r)

pub both_of : {b v w : List ℕ} → Within b v → Within b w → v ⊑ w → Both b v w
both_of within_none within_none below_none = both_none
both_of (within_leaf h r) (within_leaf k s) (below_leaf o q) = both_leaf h k o (both_of r s q)

pub both_refl : {b v : List ℕ} → Within b v → Both b v v
both_refl within_none = both_none
both_refl (within_leaf h r) = both_leaf h h (inr refl) (both_refl r)

pub leaf-trans : {x y z : ℕ} → LeafBelow x y → LeafBelow y z → LeafBelow x z
leaf-trans (inl p) (inl q) = inl (cc)
leaf-trans (inl p) (inr q) = inl (cc)
leaf-trans (inr p) (inl q) = inl (cc)
leaf-trans (inr p) (inr q) = inr (cc)

pub both-trans : {b x y z : List ℕ} → Both b x y → Both b y z → Both b x z
both-trans both_none both_none = both_none
both-trans (both_leaf h k o r) (both_leaf i j p s) = both_leaf h j (leaf-trans o p) (both-trans r s)

-- lengths
pub within-length : {b v : List ℕ} → Within b v → length v ≡ length b
within-length within_none = refl
within-length (within_leaf h r) = ap suc (within-length r)

pub bounds-length : (τ : Ty) → length (bounds τ) ≡ leaves τ
bounds-length (Flat r n) = refl
bounds-length (TyTuple σ τ) = length-append (bounds σ) (bounds τ) ∙ rw (bounds-length σ, bounds-length τ)

pub value-length : (τ : Ty) {v : List ℕ} → OfType τ v → length v ≡ leaves τ
value-length τ h = within-length h ∙ bounds-length τ

pub zeros-length : (v : List ℕ) → zeros v ≤ length v
zeros-length [] = zero-le
zeros-length (zero ∷ vs) = suc-le-suc (zeros-length vs)
zeros-length (suc v ∷ vs) = le_step (zeros-length vs)

-- appending, taking and dropping
pub both-append : {b c v w x y : List ℕ} → Both b v w → Both c x y → Both (b ++ c) (v ++ x) (w ++ y)
both-append both_none s = s
both-append (both_leaf h k o r) s = both_leaf h k o (both-append r s)

both-take-length : (b c : List ℕ) {v w : List ℕ} → Both (b ++ c) v w → Both b (take (length b) v) (take (length b) w)
both-take-length [] c r = both_none
both-take-length (n ∷ b) c (both_leaf h k o r) = both_leaf h k o (both-take-length b c r)

both-drop-length : (b : List ℕ) {c v w : List ℕ} → Both (b ++ c) v w → Both c (drop (length b) v) (drop (length b) w)
both-drop-length [] r = r
both-drop-length (n ∷ b) (both_leaf h k o r) = both-drop-length b r

pub both-take
    : (σ τ : Ty) {v w : List ℕ} → Both (bounds (TyTuple σ τ)) v w → Both (bounds σ) (take (leaves σ) v) (take (leaves σ) w)
both-take σ τ r = rw (bounds-length σ) at (both-take-length (bounds σ) (bounds τ) r)

pub both-drop
    : (σ τ : Ty) {v w : List ℕ} → Both (bounds (TyTuple σ τ)) v w → Both (bounds τ) (drop (leaves σ) v) (drop (leaves σ) w)
both-drop σ τ r = rw (bounds-length σ) at (both-drop-length (bounds σ) r)

-- the same of one value: its diagonal
pub within-append : {b c v w : List ℕ} → Within b v → Within c w → Within (b ++ c) (v ++ w)
within-append h k = both-lower (both-append (both_refl h) (both_refl k))

pub type-take : (σ τ : Ty) {v : List ℕ} → OfType (TyTuple σ τ) v → OfType σ (take (leaves σ) v)
type-take σ τ h = both-lower (both-take σ τ (both_refl h))

pub type-drop : (σ τ : Ty) {v : List ℕ} → OfType (TyTuple σ τ) v → OfType τ (drop (leaves σ) v)
type-drop σ τ h = both-lower (both-drop σ τ (both_refl h))

-- undefined is of its type, and at or below every value of it
pub undefined-within : (b : List ℕ) → Within b (replicate (length b) 0)
undefined-within [] = within_none
undefined-within (n ∷ b) = within_leaf zero-le (undefined-within b)

pub undefined-typed : (τ : Ty) → OfType τ (undefined τ)
undefined-typed τ = rw (bounds-length τ) at (undefined-within (bounds τ))

pub undefined-lowest : {b v : List ℕ} → Within b v → Both b (replicate (length b) 0) v
undefined-lowest within_none = both_none
undefined-lowest (within_leaf h r) = both_leaf zero-le h (inl refl) (undefined-lowest r)

pub undefined-below : (τ : Ty) {v : List ℕ} → OfType τ v → Both (bounds τ) (undefined τ) v
undefined-below τ h = rw (bounds-length τ) at (undefined-lowest h)
