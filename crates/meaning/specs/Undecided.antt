-- What an undecided IF gives: a rule on the values of its two branches, a parameter of everything else. `undecided_rule` names the
-- rule in force; every evaluation of a sheet goes by it, and nothing above this crate says which it is. It is that of
-- docs/SHEETS.md ("One cycle") and 000's alternative (§4.3.3: `reduceGlb`): each leaf on which both branches agree, and 0
-- elsewhere.
use Rattle.std.specs.Prelude.{ℕ, Bool, true, false, List, [], ◌∷◌, eqb}
use Rattle.meaning.specs.Constants.{ConstantTree, glb}

abbrev pub leaf_if : (test : Bool) (leaf other : ℕ) → ℕ
leaf_if true v w = v
leaf_if false v w = w

-- a leaf on which both branches agree, 0 elsewhere
abbrev pub agreed_leaf : (then_leaf else_leaf : ℕ) → ℕ
agreed_leaf v w = leaf_if (eqb v w) v 0

-- leaf by leaf (000: `glb` of the branches); both branches have one length
abbrev pub agreed_leaves : (then_value else_value : List ℕ) → List ℕ
agreed_leaves [] ws = []
agreed_leaves (v ∷ vs) [] = 0 ∷ agreed_leaves vs []
agreed_leaves (v ∷ vs) (w ∷ ws) = agreed_leaf v w ∷ agreed_leaves vs ws

-- the rule in force, on leaves and on 000's constants
unfoldable pub undecided_rule : (then_value else_value : List ℕ) → List ℕ
undecided_rule v w = agreed_leaves v w

unfoldable pub undecided_constant : (then_constant else_constant : ConstantTree) → ConstantTree
undecided_constant c d = glb c d
