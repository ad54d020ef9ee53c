-- The constants of 000 (§4.2.1: `const`, `typeOfConst`, `bottomOfConst`, `cle`, `glb`) and its matching (§3.3.1: `match`; §4.2.3: `bool3`,
-- `and3`): the i-th constructor of a type, the 0-th undefined, or a pair. A type is named by its record; that a constructor
-- is at most the type's count, which 000's constants do not know, is in `ConstantOf`. `flatten` leads to the leaves of
-- docs/SHEETS.md. 000 uses `match` only on a chooser and a constant of one type; so the types' names are not compared here,
-- and where a pair meets a constructor the answer, which no well-typed expression asks for, is `uu3`. Its `cle` and `glb`
-- are partial, on constants of one type; where a pair meets a constructor they are here no order, and undefined.
use Rattle.std.specs.Prelude.{ℕ, zero, suc, ◌≤◌, Bool, true, false, ◌&&◌, ◌||◌, List, [], ◌∷◌, ◌++◌, eqb}
use Rattle.picoella.specs.Language.{Ty, Flat, TyTuple, Pattern, Whole, Constructor, Parts, Bar}
use Rattle.meaning.specs.Decisions.{Decision, Yes, No, Undecided}

pub data ConstantTree : Type 0 where
  Cons : (constructor type : ℕ) → ConstantTree
  CoTuple : ConstantTree → ConstantTree → ConstantTree

-- 000: `typeOfConst`, with the bound on the constructor
pub data ConstantOf : Ty → ConstantTree → Type 0 where
  of_cons : {r n i : ℕ} → i ≤ n → ConstantOf (Flat r n) (Cons i r)
  of_tuple : {σ τ : Ty} {c d : ConstantTree} → ConstantOf σ c → ConstantOf τ d → ConstantOf (TyTuple σ τ) (CoTuple c d)

pub data ConstantsOf : List Ty → List ConstantTree → Type 0 where
  of_none : ConstantsOf [] []
  of_more : {τ : Ty} {Γ : List Ty} {c : ConstantTree} {l : List ConstantTree}
      → ConstantOf τ c → ConstantsOf Γ l → ConstantsOf (τ ∷ Γ) (c ∷ l)

-- constants of one type, as the inputs and the outputs of a run
pub data AllConstantsOf : Ty → List ConstantTree → Type 0 where
  of_all_none : {τ : Ty} → AllConstantsOf τ []
  of_all_more : {τ : Ty} {c : ConstantTree} {cs : List ConstantTree}
      → ConstantOf τ c → AllConstantsOf τ cs → AllConstantsOf τ (c ∷ cs)

-- the leaves of a constant, from left to right
abbrev pub flatten : ConstantTree → List ℕ
flatten (Cons i t) = i ∷ []
flatten (CoTuple c d) = flatten c ++ flatten d

-- the undefined constant of a type, with which a feedback begins
abbrev pub bottom_of_type : Ty → ConstantTree
bottom_of_type (Flat r n) = Cons 0 r
bottom_of_type (TyTuple σ τ) = CoTuple (bottom_of_type σ) (bottom_of_type τ)

abbrev pub bottom_of_const : ConstantTree → ConstantTree
bottom_of_const (Cons i t) = Cons 0 t
bottom_of_const (CoTuple c d) = CoTuple (bottom_of_const c) (bottom_of_const d)

-- the data order of constants
abbrev pub cle : ConstantTree → ConstantTree → Bool
cle (Cons c s) (Cons d t) = eqb s t && (eqb 0 c || eqb c d)
cle (Cons c s) (CoTuple d₁ d₂) = false
cle (CoTuple c₁ c₂) (Cons d t) = false
cle (CoTuple c₁ c₂) (CoTuple d₁ d₂) = cle c₁ d₁ && cle c₂ d₂

-- the lower of two constants, by whether each is at or below the other; with neither, the undefined one
abbrev pub lower : (cle-cd cle-dc : Bool) (c d : ConstantTree) → ConstantTree
lower true below c d = c
lower false true c d = d
lower false false c d = bottom_of_const c

-- the greatest lower bound
abbrev pub glb : ConstantTree → ConstantTree → ConstantTree
glb (Cons c s) (Cons d t) = lower (cle (Cons c s) (Cons d t)) (cle (Cons d t) (Cons c s)) (Cons c s) (Cons d t)
glb (Cons c s) (CoTuple d₁ d₂) = Cons 0 s
glb (CoTuple c₁ c₂) (Cons d t) = bottom_of_const (CoTuple c₁ c₂)
glb (CoTuple c₁ c₂) (CoTuple d₁ d₂) = CoTuple (glb c₁ d₁) (glb c₂ d₂)

pub data Bool3 : Type 0 where
  tt3 ff3 uu3 : Bool3

-- the answers of docs/SHEETS.md in 000's words
abbrev pub answer3 : Decision → Bool3
answer3 Yes = tt3
answer3 No = ff3
answer3 Undecided = uu3

abbrev pub and3 : Bool3 → Bool3 → Bool3
and3 uu3 uu3 = uu3
and3 uu3 tt3 = uu3
and3 uu3 ff3 = ff3
and3 tt3 uu3 = uu3
and3 tt3 tt3 = tt3
and3 tt3 ff3 = ff3
and3 ff3 b = ff3

abbrev pub or3 : Bool3 → Bool3 → Bool3
or3 uu3 uu3 = uu3
or3 uu3 ff3 = uu3
or3 uu3 tt3 = tt3
or3 ff3 uu3 = uu3
or3 ff3 ff3 = ff3
or3 ff3 tt3 = tt3
or3 tt3 b = tt3

abbrev pub bool3 : Bool → Bool3
bool3 true = tt3
bool3 false = ff3

abbrev pub match_constructor : (chosen given : ℕ) → Bool3
match_constructor k zero = uu3
match_constructor k (suc m) = bool3 (eqb (suc m) k)

abbrev pub match : Pattern → ConstantTree → Bool3
match (Whole τ) c = tt3
match (Constructor r n k) (Cons i t) = match_constructor k i
match (Constructor r n k) (CoTuple c d) = uu3
match (Parts p q) (CoTuple c d) = and3 (match p c) (match q d)
match (Parts p q) (Cons i t) = uu3
match (Bar p q) c = or3 (match p c) (match q c)
