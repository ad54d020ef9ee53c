-- The tables of declared types: what is set is held, and the leaves of each type stand in their table.
-- Assumes nothing.
use Prim.Native.Nat.{ℕ, zero, suc, ◌+◌, ◌-◌, ◌≤◌, ◌<◌, min}
use native.Mathlib.Omega.{arith}
use native.Mathlib.Numerals.{add-one}
use native.Mathlib.Decide.{ℕ_discrete}
use mathlib.Core.Path.{◌≡◌, refl, sym, ap, ap₂, ◌∙◌}
use mathlib.Core.Bool.{Bool, true, false, cond}
use mathlib.Core.List.{List, [], ◌∷◌}
use lib.ListN.{length, get_or, set, drop}
use lib.Seq.{get_or-set_same, get_or-set_other}
use lib.Dec.{eqb}
use borrow.Author.Tests.{eq-eqb, ne_eqb}
use Rattle.instructions.specs.Assembly.{DeclaredType, flat_type, paired_type, leaves_numbered, type_held, held_types}
use Rattle.instructions.specs.Types.{leaves_over, type_from_bottom, LeavesStand}
use Rattle.instructions.proofs.LeavesNumbered.{types-counted}

three : {x x' : Bool} {y y' z z' : ℕ} → x ≡ x' → y ≡ y' → z ≡ z' → type_held x y z ≡ type_held x' y' z'
three {x' = x'} {y = y} {y' = y'} {z = z} p q r = ap (λ u. type_held u y z) p ∙ ap₂ (λ u v. type_held x' u v) q r

-- the leaves by numbers
leaves-over : (x : DeclaredType) (T : List DeclaredType) (d : ℕ)
    → leaves_numbered (x ∷ T) d ≡ cond (eqb d (suc (length T))) (leaves_over T x) (leaves_numbered T d)
leaves-over (flat_type n) T d = refl
leaves-over (paired_type a b) T d = refl

pub no-leaves : (T : List DeclaredType) → leaves_numbered T 0 ≡ 0
no-leaves [] = refl
no-leaves (x ∷ T) =
    leaves-over x T 0
    ∙ ap (λ b. cond b (leaves_over T x) (leaves_numbered T 0)) (ne_eqb 0 (suc (length T)) (λ e. omega arith))
    ∙ no-leaves T

pub undeclared-leaves : (T : List DeclaredType) (d : ℕ) → length T < d → leaves_numbered T d ≡ 0
undeclared-leaves [] d l = refl
undeclared-leaves (x ∷ T) d l =
    leaves-over x T d
    ∙ ap (λ b. cond b (leaves_over T x) (leaves_numbered T d)) (ne_eqb d (suc (length T)) (λ e. omega arith))
    ∙ undeclared-leaves T d (omega arith)

pub few-leaves-numbered : (T : List DeclaredType) (d : ℕ) → leaves_numbered T d ≤ 64
few-leaves-numbered [] d = omega arith
few-leaves-numbered (flat_type n ∷ T) d = go (eqb d (suc (length T))) (few-leaves-numbered T d)
  where
    go : (b : Bool) → leaves_numbered T d ≤ 64 → cond b 1 (leaves_numbered T d) ≤ 64
    go true l = omega arith
    go false l = l
few-leaves-numbered (paired_type x y ∷ T) d = go (eqb d (suc (length T))) (few-leaves-numbered T d)
  where
    go : (b : Bool) → leaves_numbered T d ≤ 64 → cond b (min 64 (leaves_numbered T x + leaves_numbered T y)) (leaves_numbered T d) ≤ 64
    go true l = omega arith
    go false l = l

module _ (P : List Bool) (F S : List ℕ) where
  abbrev type_at : ℕ → DeclaredType
  type_at k = type_held (get_or P k false) (get_or F k 0) (get_or S k 0)

  types_apart : (k n : ℕ) (x : Bool) (y z : ℕ) → n ≤ k → held_types (set P k x) (set F k y) (set S k z) n ≡ held_types P F S n
  types_apart k zero x y z l = refl
  types_apart k (suc n) x y z l =
      ap₂ ◌∷◌
      (three (get_or-set_other P k n x false (λ e. omega arith)) (get_or-set_other F k n y 0 (λ e. omega arith))
      (get_or-set_other S k n z 0 (λ e. omega arith)))
      (types_apart k n x y z (omega arith))

  from_top : (n d : ℕ) → d < n → get_or (held_types P F S n) d (flat_type 0) ≡ type_at (n - suc d)
  from_top zero d l = absurd (omega arith)
  from_top (suc n) zero l = let e : n ≡ suc n - 1 = omega arith in ap type_at e
  from_top (suc n) (suc d) l =
      let e : n - suc d ≡ suc n - suc (suc d) = omega arith in from_top n d (omega arith) ∙ ap type_at e

  pub type-from-bottom : (n k : ℕ) → k < n → type_at k ≡ type_from_bottom k (held_types P F S n)
  type-from-bottom n k l =
      let e : n - suc (n - suc k) ≡ k = omega arith in
      sym
      (ap (λ m. get_or (held_types P F S n) (m - suc k) (flat_type 0)) (types-counted P F S n)
      ∙ from_top n (n - suc k) (omega arith)
      ∙ ap type_at e)

  -- the leaves of a type that there is
  pub leaves-read : (k : ℕ) {L : List ℕ} → LeavesStand P F S L k → (j : ℕ) → j < k → get_or L j 0 ≡ leaves_numbered (held_types P F S k) (suc j)
  leaves-read zero h j l = absurd (omega arith)
  leaves-read (suc k) {L} h j l =
      go (ℕ_discrete j k) (leaves-read k (record { few = (let f = h.few in omega arith); stand = λ i b. h.stand i (omega arith) }) j)
    where
      go : Dec (j ≡ k) → (j < k → get_or L j 0 ≡ leaves_numbered (held_types P F S k) (suc j))
          → get_or L j 0 ≡ leaves_numbered (held_types P F S (suc k)) (suc j)
      go (yes e) again =
          h.stand j l
          ∙ ap (λ n. leaves_over (held_types P F S n) (type_at n)) e
          ∙ sym
          (leaves-over (type_at k) (held_types P F S k) (suc j)
          ∙ ap (λ b. cond b (leaves_over (held_types P F S k) (type_at k)) (leaves_numbered (held_types P F S k) (suc j))) (eq-eqb (suc j) (suc (length (held_types P F S k))) (ap suc (e ∙ sym (types-counted P F S k)))))
      go (no n) again =
          again (omega (arith, n))
          ∙ sym
          (leaves-over (type_at k) (held_types P F S k) (suc j)
          ∙ ap (λ b. cond b (leaves_over (held_types P F S k) (type_at k)) (leaves_numbered (held_types P F S k) (suc j)))
          (ne_eqb (suc j) (suc (length (held_types P F S k))) (λ e. n (let f : j ≡ length (held_types P F S k) = omega arith in f ∙ types-counted P F S k))))

  -- the leaves of type number d, which is not 0
  pub leaves_at : {k : ℕ} {L : List ℕ} (d : ℕ) → (d ≡ 0 → ⊥) → d ≤ k → LeavesStand P F S L k → get_or L (d - 1) 0 ≡ leaves_numbered (held_types P F S k) d
  leaves_at {k} d z l h =
      let f : suc (d - 1) ≡ d = omega (arith, z) in
      leaves-read k h (d - 1) (omega (arith, z)) ∙ ap (leaves_numbered (held_types P F S k)) f

  -- a type that is set on top
  pub type-set : {k : ℕ} {L : List ℕ} (x : Bool) (y z v : ℕ) → LeavesStand P F S L k → k < length P → k < length F → k < length S → k < length L → k < 65536
      → v ≡ leaves_over (held_types P F S k) (type_held x y z)
      → LeavesStand (set P k x) (set F k y) (set S k z) (set L k v) (k + 1)
      × (held_types (set P k x) (set F k y) (set S k z) (k + 1) ≡ type_held x y z ∷ held_types P F S k)
  type-set {k} {L} x y z v h p f s g l e = (
    record { few = omega arith; stand = λ j b. go j (ℕ_discrete j k) b },
    rw add-one (ap₂ ◌∷◌ same (types_apart k k x y z (omega arith))),
  )
    where
      same : type_held (get_or (set P k x) k false) (get_or (set F k y) k 0) (get_or (set S k z) k 0) ≡ type_held x y z
      same = three (get_or-set_same P k x false p) (get_or-set_same F k y 0 f) (get_or-set_same S k z 0 s)

      go : (j : ℕ) → Dec (j ≡ k) → j < k + 1
          → get_or (set L k v) j 0
          ≡ leaves_over (held_types (set P k x) (set F k y) (set S k z) j)
          (type_held (get_or (set P k x) j false) (get_or (set F k y) j 0) (get_or (set S k z) j 0))
      go j (yes f) b =
          ap (λ n. get_or (set L k v) n 0) f
          ∙ get_or-set_same L k v 0 g
          ∙ e
          ∙ sym
          (ap
          (λ n.
          leaves_over (held_types (set P k x) (set F k y) (set S k z) n)
          (type_held (get_or (set P k x) n false) (get_or (set F k y) n 0) (get_or (set S k z) n 0))) f
          ∙ ap₂ leaves_over (types_apart k k x y z (omega arith)) same)
      go j (no n) b =
          get_or-set_other L k j v 0 n
          ∙ h.stand j (omega (arith, n))
          ∙ sym
          (ap₂ leaves_over (types_apart k j x y z (omega (arith, n)))
          (three (get_or-set_other P k j x false n) (get_or-set_other F k j y 0 n) (get_or-set_other S k j z 0 n)))

  pub one-fewer : (k : ℕ) → held_types P F S (k - 1) ≡ drop 1 (held_types P F S k)
  one-fewer zero = refl
  one-fewer (suc k) = let e : suc k - 1 ≡ k = omega arith in ap (held_types P F S) e

-- the last type
pub last-read : (T : List DeclaredType) → 0 < length T → T ≡ type_from_bottom (length T - 1) T ∷ drop 1 T
last-read [] l = absurd (omega arith)
last-read (x ∷ T) l =
    let e : 0 ≡ suc (length T) - suc (suc (length T) - 1) = omega arith in
    ap (λ n. get_or (x ∷ T) n (flat_type 0) ∷ T) e
