-- Rules for what an undecided IF gives, on the values of its two branches, and what is asked of them. `Lawful`: a rule is monotone, and
-- gives nothing that either branch does not give. It then keeps types: a value is of a type when it is below itself. A rule on leaves
-- has a counterpart on 000's constants, and the two agree through `flatten`. The earlier rule, that of 000's `reduce` (§4.2.3),
-- undefined in every leaf, stays as a definition.
use Rattle.std.specs.Prelude.{ℕ, ◌≡◌, List, length, replicate}
use Rattle.picoella.specs.Language.{Ty, Within}
use Rattle.meaning.specs.Values.{Both}
use Rattle.meaning.specs.Constants.{ConstantTree, ConstantOf, bottom_of_const, flatten}

-- what is asked of a rule
pub record Lawful (undecided : List ℕ → List ℕ → List ℕ) : Type 0 where
  pub monotone : {b v v' w w' : List ℕ} → Both b v v' → Both b w w' → Both b (undecided v w) (undecided v' w')
  pub below_then : {b v w : List ℕ} → Within b v → Within b w → Both b (undecided v w) v
  pub below_else : {b v w : List ℕ} → Within b v → Within b w → Both b (undecided v w) w

-- a rule on leaves and one on constants that say the same
pub record Agreeing
    (undecided : List ℕ → List ℕ → List ℕ)
    (undecided_tree : ConstantTree → ConstantTree → ConstantTree)
    : Type 0
  where
    pub of_type : {τ : Ty} {c d : ConstantTree} → ConstantOf τ c → ConstantOf τ d → ConstantOf τ (undecided_tree c d)
    pub flattens : {τ : Ty} {c d : ConstantTree}
        → ConstantOf τ c → ConstantOf τ d → flatten (undecided_tree c d) ≡ undecided (flatten c) (flatten d)

-- the earlier rule: undefined in every leaf (000: `bottomOfConst` of the then branch)
abbrev pub undefined_leaves : (then_value else_value : List ℕ) → List ℕ
undefined_leaves v w = replicate (length v) 0

abbrev pub bottom_of_then : (then_constant else_constant : ConstantTree) → ConstantTree
bottom_of_then c d = bottom_of_const c
