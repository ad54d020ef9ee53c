-- The leaves on which both branches agree are their greatest lower bound: at or below each, and at or above every value that is. So
-- the rule is lawful, and every lawful rule lies at or below it. Through `flatten` it is 000's `glb`: of two constructors of one
-- type the lower if one is at or below the other, else undefined, which is the one on which they agree.
-- Assumes nothing.
use Prim.Native.Nat.{ℕ, ◌≤◌, zero-le}
use native.Mathlib.Omega.{arith}
use mathlib.Core.Path.{◌≡◌, refl, sym, ap, ap₂, ◌∙◌}
use mathlib.Core.Logic.{◌⊎◌, inl, inr, ◌≢◌}
use mathlib.Core.Bool.{Bool, true, false, ◌&&◌, ◌||◌}
use mathlib.Core.List.{List, [], ◌∷◌, ◌++◌}
use lib.Dec.{eqb}
use lib.ListN.{length}
use borrow.Author.Tests.{eqb-true, eqb-false, eq-eqb}
use Rattle.picoella.specs.Language.{Ty, Flat, Within, within_none, within_leaf}
use Rattle.meaning.specs.Values.{LeafBelow, Both, both_none, both_leaf}
use Rattle.meaning.specs.Constants.{
  ConstantTree,
  Cons,
  ConstantOf,
  of_cons,
  of_tuple,
  cle,
  lower,
  glb,
  flatten,
}
use Rattle.meaning.specs.Undecided.{leaf_if, agreed_leaf, agreed_leaves}
use Rattle.meaning.specs.RuleLaws.{Lawful, Agreeing}
use Rattle.meaning.specs.Ordered.{RuleBelow}
use Rattle.meaning.proofs.Order.{both-lower, both-trans, value-length}
use Rattle.meaning.proofs.FlattenOneToOne.{flatten-typed}

-- two leaves agree, or the leaf is undefined
agreed-or-none : (v w : ℕ) → ((v ≡ w) × (agreed_leaf v w ≡ v)) ⊎ ((v ≢ w) × (agreed_leaf v w ≡ 0))
agreed-or-none v w = go (eqb v w) refl
  where
    go : (x : Bool) → eqb v w ≡ x → ((v ≡ w) × (agreed_leaf v w ≡ v)) ⊎ ((v ≢ w) × (agreed_leaf v w ≡ 0))
    go true e = inl (eqb-true v w e, ap (λ x. leaf_if x v 0) e)
    go false e = inr (eqb-false v w e, ap (λ x. leaf_if x v 0) e)

-- a leaf: at or below each
agreed-below-left : (v w : ℕ) → LeafBelow (agreed_leaf v w) v
agreed-below-left v w = go (agreed-or-none v w)
  where
    go : ((v ≡ w) × (agreed_leaf v w ≡ v)) ⊎ ((v ≢ w) × (agreed_leaf v w ≡ 0)) → LeafBelow (agreed_leaf v w) v
    go (inl (p, q)) = inr q
    go (inr (f, q)) = inl q

agreed-below-right : (v w : ℕ) → LeafBelow (agreed_leaf v w) w
agreed-below-right v w = go (agreed-or-none v w)
  where
    go : ((v ≡ w) × (agreed_leaf v w ≡ v)) ⊎ ((v ≢ w) × (agreed_leaf v w ≡ 0)) → LeafBelow (agreed_leaf v w) w
    go (inl (p, q)) = inr (q ∙ p)
    go (inr (f, q)) = inl q

-- and at or above every leaf that is
agreed-same : (v w : ℕ) → v ≡ w → agreed_leaf v w ≡ v
agreed-same v w p = ap (λ x. leaf_if x v 0) (eq-eqb v w p)

agreed-above : {u v w : ℕ} → LeafBelow u v → LeafBelow u w → LeafBelow u (agreed_leaf v w)
agreed-above (inl p) k = inl p
agreed-above (inr p) (inl q) = inl q
agreed-above {u} {v} {w} (inr p) (inr q) = inr (p ∙ sym (agreed-same v w (sym p ∙ q)))

below-small : {v w n : ℕ} → LeafBelow v w → w ≤ n → v ≤ n
below-small (inl p) h = omega arith
below-small (inr p) h = omega arith

-- so a value
agreed-below-then : {b v w : List ℕ} → Within b v → Within b w → Both b (agreed_leaves v w) v
agreed-below-then within_none within_none = both_none
agreed-below-then (within_leaf {v} h r) (within_leaf {v = w} k s) =
    both_leaf (below-small (agreed-below-left v w) h) h (agreed-below-left v w) (agreed-below-then r s)

agreed-below-else : {b v w : List ℕ} → Within b v → Within b w → Both b (agreed_leaves v w) w
agreed-below-else within_none within_none = both_none
agreed-below-else (within_leaf {v} h r) (within_leaf {v = w} k s) =
    both_leaf (below-small (agreed-below-left v w) h) k (agreed-below-right v w) (agreed-below-else r s)

agreed-greatest : {b u v w : List ℕ} → Both b u v → Both b u w → Both b u (agreed_leaves v w)
agreed-greatest both_none both_none = both_none
agreed-greatest (both_leaf {w = v} h i o r) (both_leaf {w = w} j k p s) =
    both_leaf h (below-small (agreed-below-left v w) i) (agreed-above o p) (agreed-greatest r s)

agreed-monotone
    : {b v v' w w' : List ℕ} → Both b v v' → Both b w w' → Both b (agreed_leaves v w) (agreed_leaves v' w')
agreed-monotone r s =
    agreed-greatest (both-trans (agreed-below-then (both-lower r) (both-lower s)) r)
    (both-trans (agreed-below-else (both-lower r) (both-lower s)) s)

pub agreed_lawful : Lawful agreed_leaves
agreed_lawful =
    record { monotone = agreed-monotone; below_then = agreed-below-then; below_else = agreed-below-else }

-- every lawful rule lies at or below
pub lawful-below-agreed : {rule : List ℕ → List ℕ → List ℕ} → Lawful rule → RuleBelow rule agreed_leaves
lawful-below-agreed law = record { gives_below = λ h k. agreed-greatest (law.below_then h k) (law.below_else h k) }

-- the test of 000's order on two constructors of one type
cle-true : (r i j : ℕ) → cle (Cons i r) (Cons j r) ≡ true → LeafBelow i j
cle-true r i j = go (eqb r r) (eqb 0 i) (eqb i j) (eqb-true 0 i) (eqb-true i j)
  where
    go : (x y z : Bool) → (y ≡ true → 0 ≡ i) → (z ≡ true → i ≡ j) → (x && (y || z)) ≡ true → LeafBelow i j
    go x true z p q e = inl (sym (p refl))
    go x false true p q e = inr (q refl)
    go true false false p q e = let n : ◌≡◌ {A = ℕ} 0 1 = cc in absurd (omega arith)
    go false false false p q e = let n : ◌≡◌ {A = ℕ} 0 1 = cc in absurd (omega arith)

cle-false : (r i j : ℕ) → cle (Cons i r) (Cons j r) ≡ false → i ≢ j
cle-false r i j e p = go (eqb r r) (eqb 0 i) (eqb i j) (eq-eqb r r refl) (eq-eqb i j p) e
  where
    go : (x y z : Bool) → x ≡ true → z ≡ true → (x && (y || z)) ≡ false → ⊥
    go true true z f g h = let n : ◌≡◌ {A = ℕ} 0 1 = cc in omega arith
    go true false z f g h = let n : ◌≡◌ {A = ℕ} 0 1 = cc in omega arith
    go false y z f g h = let n : ◌≡◌ {A = ℕ} 0 1 = cc in omega arith

none_below : {v w : ℕ} → LeafBelow v w → w ≡ 0 → v ≡ 0
none_below (inl p) q = p
none_below (inr p) q = p ∙ q

-- the lower of two leaves in order is the leaf on which they agree, and so are two that are not
lower-left : {i j : ℕ} → LeafBelow i j → i ≡ agreed_leaf i j
lower-left {i} {j} (inl p) = p ∙ sym (none_below (agreed-below-left i j) p)
lower-left {i} {j} (inr p) = sym (agreed-same i j p)

lower-right : {i j : ℕ} → LeafBelow j i → j ≡ agreed_leaf i j
lower-right {i} {j} (inl p) = p ∙ sym (none_below (agreed-below-right i j) p)
lower-right {i} {j} (inr p) = p ∙ sym (agreed-same i j (sym p))

differ-none : {i j : ℕ} → i ≢ j → 0 ≡ agreed_leaf i j
differ-none {i} {j} f = go (agreed-or-none i j)
  where
    go : ((i ≡ j) × (agreed_leaf i j ≡ i)) ⊎ ((i ≢ j) × (agreed_leaf i j ≡ 0)) → 0 ≡ agreed_leaf i j
    go (inl (p, q)) = absurd (f p)
    go (inr (g, q)) = sym q

leaf-flattens : (r i j : ℕ) → flatten (glb (Cons i r) (Cons j r)) ≡ agreed_leaf i j ∷ []
leaf-flattens r i j =
    go (cle (Cons i r) (Cons j r)) (cle (Cons j r) (Cons i r)) (cle-true r i j) (cle-true r j i) (cle-false r i j)
  where
    go
        : (x y : Bool) → (x ≡ true → LeafBelow i j) → (y ≡ true → LeafBelow j i) → (x ≡ false → i ≢ j)
        → flatten (lower x y (Cons i r) (Cons j r)) ≡ agreed_leaf i j ∷ []
    go true y p q f = ap (λ n. n ∷ []) (lower-left (p refl))
    go false true p q f = ap (λ n. n ∷ []) (lower-right (q refl))
    go false false p q f = ap (λ n. n ∷ []) (differ-none (f refl))

agreed-append
    : (a b c d : List ℕ) → length a ≡ length c → agreed_leaves (a ++ b) (c ++ d) ≡ agreed_leaves a c ++ agreed_leaves b d
agreed-append [] b [] d e = refl
agreed-append [] b (y ∷ c) d e = absurd (omega arith)
agreed-append (x ∷ a) b [] d e = absurd (omega arith)
agreed-append (x ∷ a) b (y ∷ c) d e = ap (◌∷◌ (agreed_leaf x y)) (agreed-append a b c d (omega arith))

lower-of-type
    : {r n i j : ℕ} (x y : Bool) → i ≤ n → j ≤ n → ConstantOf (Flat r n) (lower x y (Cons i r) (Cons j r))
lower-of-type true y h k = of_cons h
lower-of-type false true h k = of_cons k
lower-of-type false false h k = of_cons zero-le

glb-of-type : {τ : Ty} {c d : ConstantTree} → ConstantOf τ c → ConstantOf τ d → ConstantOf τ (glb c d)
glb-of-type (of_cons {r} {i = i} h) (of_cons {i = j} k) =
    lower-of-type (cle (Cons i r) (Cons j r)) (cle (Cons j r) (Cons i r)) h k
glb-of-type (of_tuple h k) (of_tuple i j) = of_tuple (glb-of-type h i) (glb-of-type k j)

glb-flattens
    : {τ : Ty} {c d : ConstantTree} → ConstantOf τ c → ConstantOf τ d → flatten (glb c d) ≡ agreed_leaves (flatten c) (flatten d)
glb-flattens (of_cons {r} {i = i} h) (of_cons {i = j} k) = leaf-flattens r i j
glb-flattens (of_tuple {σ} {c = c₁} {d = c₂} h k) (of_tuple {c = d₁} {d = d₂} i j) =
    ap₂ ◌++◌ (glb-flattens h i) (glb-flattens k j)
    ∙ sym
    (agreed-append (flatten c₁) (flatten c₂) (flatten d₁) (flatten d₂)
    (value-length σ (flatten-typed h) ∙ sym (value-length σ (flatten-typed i))))

pub agreed_agreeing : Agreeing agreed_leaves glb
agreed_agreeing = record { of_type = glb-of-type; flattens = glb-flattens }
