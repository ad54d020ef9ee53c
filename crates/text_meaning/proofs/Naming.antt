-- 000's constants by their names: the i-th constructor of type number t is the value that i stands for there. On constants of one type whose
-- constructors' names differ this is one to one, agrees with matching and with `glb`.
-- Assumes nothing.
use Prim.Native.Nat.{ℕ, zero, suc, ◌≤◌, ◌<◌}
use mathlib.Core.Path.{◌≡◌, refl, ap, ap₂, sym, subst, ◌∙◌}
use mathlib.Core.Logic.{◌≢◌, ◌↔◌}
use mathlib.Core.Bool.{Bool, true, false, cond, ◌&&◌, ◌||◌}
use mathlib.Core.List.{List, [], ◌∷◌, ◌++◌}
use native.Mathlib.Omega.{arith}
use lib.Dec.{T, eqb, eqb→eq}
use borrow.Author.Tests.{eq-eqb}
use lib.ListN.{length, get_or, take, drop}
use Rattle.picoella.specs.Language.{Ty, Flat, TyTuple, leaves}
use Rattle.grammar.specs.Source.{Declaration}
use Rattle.name_rules.specs.Declared.{same_name}
use Rattle.name_rules.proofs.SameName.{equal-same, same-equal}
use Rattle.meaning.specs.Decisions.{Decision, Yes, No, Undecided, decided}
use Rattle.meaning.specs.Constants.{
  ConstantTree,
  Cons,
  CoTuple,
  ConstantOf,
  of_cons,
  of_tuple,
  flatten,
  bottom_of_const,
  cle,
  lower,
  glb,
}
use Rattle.meaning.proofs.FlattenOneToOne.{flatten-first, flatten-second}
use Rattle.text_meaning.specs.NamedValues.{
  NamedValue,
  Unknown,
  Made,
  Couple,
  agreed_value,
  constructors_of,
  leaf_value,
  value_of,
}

-- a constant by its names
abbrev pub name_tree : List Declaration → ConstantTree → NamedValue
name_tree ds (Cons i t) = leaf_value ds t i
name_tree ds (CoTuple c d) = Couple (name_tree ds c) (name_tree ds d)

-- the names differ
pub record Differ (names : List (List ℕ)) : Type 0 where
  pub one : (i j : ℕ) → i < length names → j < length names → get_or names i [] ≡ get_or names j [] → i ≡ j

-- each flat type of a type has as many constructors as the declaration of its number, of different names
pub data KnownType (ds : List Declaration) : Ty → Type 0 where
  known-flat : {r n : ℕ} → length (constructors_of ds r) ≡ n → Differ (constructors_of ds r) → KnownType ds (Flat r n)
  known-pair : {σ τ : Ty} → KnownType ds σ → KnownType ds τ → KnownType ds (TyTuple σ τ)

not-unknown : {w : List ℕ} → Unknown ≡ Made w → ⊥
not-unknown p = let no : ◌≡◌ {A = ℕ} 0 1 = cc in omega arith

made_one : {v w : List ℕ} → Made v ≡ Made w → v ≡ w
made_one p = cc

couple-first : {a b c d : NamedValue} → Couple a b ≡ Couple c d → a ≡ c
couple-first p = cc

couple-second : {a b c d : NamedValue} → Couple a b ≡ Couple c d → b ≡ d
couple-second p = cc

-- a test that is yes exactly where another is
same_test : (a b : Bool) → (a ≡ true → b ≡ true) → (b ≡ true → a ≡ true) → a ≡ b
same_test true true f g = refl
same_test true false f g = sym (f refl)
same_test false true f g = g refl
same_test false false f g = refl

true-so : (b : Bool) → b ≡ true → T b
true-so true h = tt
true-so false h = absurd (let no : ◌≡◌ {A = ℕ} 0 1 = cc in omega arith)

equal-numbers : (i j : ℕ) → eqb i j ≡ true → i ≡ j
equal-numbers i j e = eqb→eq i j (true-so (eqb i j) e)

pub turned : (i j : ℕ) → eqb j i ≡ eqb i j
turned i j =
    same_test (eqb j i) (eqb i j) (λ e. eq-eqb i j (sym (equal-numbers j i e))) (λ e. eq-eqb j i (sym (equal-numbers i j e)))

different : (i j : ℕ) → i ≢ j → eqb i j ≡ false
different i j n = go (eqb i j) (equal-numbers i j)
  where
    go : (b : Bool) → (b ≡ true → i ≡ j) → b ≡ false
    go true e = absurd (n (e refl))
    go false e = refl

pub both-next : (i j : ℕ) → eqb (suc i) (suc j) ≡ eqb i j
both-next i j =
    same_test (eqb (suc i) (suc j)) (eqb i j)
    (λ e. let n = equal-numbers (suc i) (suc j) e in eq-eqb i j (omega arith))
    (λ e. eq-eqb (suc i) (suc j) (ap suc (equal-numbers i j e)))

-- of different names two are the same exactly where their numbers are
pub names_same : {names : List (List ℕ)} → Differ names → (i j : ℕ) → i < length names → j < length names
    → same_name (get_or names i []) (get_or names j []) ≡ eqb i j
names_same {names} d i j h k =
    same_test (same_name (get_or names i []) (get_or names j [])) (eqb i j)
    (λ e. eq-eqb i j (d.one i j h k (same-equal (get_or names i []) (get_or names j []) e)))
    (λ e. equal-same (get_or names i []) (get_or names j []) (ap (λ x. get_or names x []) (equal-numbers i j e)))

module _ (ds : List Declaration) where
  -- the value that the leaves stand for
  pub value-of : {τ : Ty} {c : ConstantTree} → ConstantOf τ c → value_of ds τ (flatten c) ≡ name_tree ds c
  value-of (of_cons h) = refl
  value-of (of_tuple {σ} {τ} {c} {d} h k) = rw (flatten-first d h, flatten-second d h) (ap₂ Couple (value-of h) (value-of k))

  leaf-one : (r : ℕ) {n : ℕ} → length (constructors_of ds r) ≡ n → Differ (constructors_of ds r) → (i j : ℕ) → i ≤ n → j ≤ n
      → leaf_value ds r i ≡ leaf_value ds r j → i ≡ j
  leaf-one r l d zero zero h k p = refl
  leaf-one r l d zero (suc j) h k p = absurd (not-unknown p)
  leaf-one r l d (suc i) zero h k p = absurd (not-unknown (sym p))
  leaf-one r l d (suc i) (suc j) h k p = ap suc (d.one i j (omega arith) (omega arith) (made_one p))

  pub name-one : {τ : Ty} {c d : ConstantTree} → KnownType ds τ → ConstantOf τ c → ConstantOf τ d → name_tree ds c ≡ name_tree ds d → c ≡ d
  name-one (known-flat l x) (of_cons {r} {i = i} h) (of_cons {i = j} k) p = ap (λ i. Cons i r) (leaf-one r l x i j h k p)
  name-one (known-pair x y) (of_tuple h k) (of_tuple u v) p =
      ap₂ CoTuple (name-one x h u (couple-first p)) (name-one y k v (couple-second p))

  agreed-leaf : (r : ℕ) {n : ℕ} → length (constructors_of ds r) ≡ n → Differ (constructors_of ds r) → (i j : ℕ) → i ≤ n → j ≤ n
      → name_tree ds (glb (Cons i r) (Cons j r)) ≡ agreed_value (leaf_value ds r i) (leaf_value ds r j)
  agreed-leaf r l d zero j h k = rw (eq-eqb r r refl)
  agreed-leaf r l d (suc i) zero h k =
      rw (eq-eqb r r refl, different 0 (suc i) (λ e. omega arith), different (suc i) 0 (λ e. omega arith))
  agreed-leaf r l d (suc i) (suc j) h k =
      let s = names_same d i j (omega arith) (omega arith) in
      rw (
        eq-eqb r r refl,
        different 0 (suc i) (λ e. omega arith),
        different 0 (suc j) (λ e. omega arith),
        both-next i j,
        both-next j i,
        s,
      )
      (go (eqb i j) (eqb j i) (turned i j))
    where
      go : (x y : Bool) → y ≡ x
          → name_tree ds (lower x y (Cons (suc i) r) (Cons (suc j) r)) ≡ cond x (Made (get_or (constructors_of ds r) i [])) Unknown
      go true y e = refl
      go false y e = rw e

  pub agreed-named : {τ : Ty} {c d : ConstantTree} → KnownType ds τ → ConstantOf τ c → ConstantOf τ d
      → name_tree ds (glb c d) ≡ agreed_value (name_tree ds c) (name_tree ds d)
  agreed-named (known-flat l x) (of_cons {r} {i = i} h) (of_cons {i = j} k) = agreed-leaf r l x i j h k
  agreed-named (known-pair x y) (of_tuple h k) (of_tuple u v) = ap₂ Couple (agreed-named x h u) (agreed-named y k v)
