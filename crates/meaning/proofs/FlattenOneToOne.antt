-- Flattening leads the constants of a type one to one onto the values of that type: the leaves of a pair's first part are as
-- many as the first type has, so a pair's leaves can be cut in one place only.
-- Assumes nothing.
use Prim.Native.Nat.{ℕ}
use mathlib.Core.Path.{◌≡◌, refl, sym, ap, ap₂, ◌∙◌}
use mathlib.Core.List.{List, ◌++◌, head-eq_of_cons-eq}
use lib.ListN.{take, drop, take-append-drop}
use lib.Seq.{take_at, drop_at}
use Rattle.picoella.specs.Language.{Ty, Flat, TyTuple, leaves, within_none, within_leaf, OfType}
use Rattle.meaning.specs.Constants.{ConstantTree, Cons, CoTuple, ConstantOf, of_cons, of_tuple, flatten}
use Rattle.meaning.proofs.Order.{within-append, value-length, type-take, type-drop}

-- onto values of the type
pub flatten-typed : {τ : Ty} {c : ConstantTree} → ConstantOf τ c → OfType τ (flatten c)
flatten-typed (of_cons h) = within_leaf h within_none
flatten-typed (of_tuple h k) = within-append (flatten-typed h) (flatten-typed k)

pub flatten-first
    : {σ : Ty} {c : ConstantTree} (d : ConstantTree) → ConstantOf σ c → take (leaves σ) (flatten (CoTuple c d)) ≡ flatten c
flatten-first {σ} {c} d h = take_at (flatten c) (flatten d) (leaves σ) (value-length σ (flatten-typed h))

pub flatten-second
    : {σ : Ty} {c : ConstantTree} (d : ConstantTree) → ConstantOf σ c → drop (leaves σ) (flatten (CoTuple c d)) ≡ flatten d
flatten-second {σ} {c} d h = drop_at (flatten c) (flatten d) (leaves σ) (value-length σ (flatten-typed h))

-- one to one
pub flatten-one
    : {τ : Ty} {c d : ConstantTree} → ConstantOf τ c → ConstantOf τ d → flatten c ≡ flatten d → c ≡ d
flatten-one (of_cons {r} h) (of_cons k) p = ap (λ i. Cons i r) (head-eq_of_cons-eq p)
flatten-one (of_tuple {σ} {c} {d} h k) (of_tuple {c = a} {d = b} i j) p =
    ap₂ CoTuple
    (flatten-one h i (sym (flatten-first d h) ∙ ap (take (leaves σ)) p ∙ flatten-first b i))
    (flatten-one k j (sym (flatten-second d h) ∙ ap (drop (leaves σ)) p ∙ flatten-second b i))

-- every value of the type is reached
pub flatten-onto
    : (τ : Ty) {v : List ℕ} → OfType τ v → (c : ConstantTree) × ConstantOf τ c × (flatten c ≡ v)
flatten-onto (Flat r n) (within_leaf {v} h within_none) = (Cons v r, of_cons h, refl)
flatten-onto (TyTuple σ τ) {v} h =
    let (c, i, p) = flatten-onto σ (type-take σ τ h) in
    let (d, j, q) = flatten-onto τ (type-drop σ τ h) in
    (CoTuple c d, of_tuple i j, ap₂ (λ x y. x ++ y) p q ∙ take-append-drop (leaves σ) v)
