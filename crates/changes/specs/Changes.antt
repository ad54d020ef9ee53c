-- The changes in the outputs of a run (docs/SHEETS.md, "Shift report"): of each leaf "the cycles after the first in which its value
-- differs from the cycle before", and of all together the pairs of cycle and leaf at which a change stands. The outputs are those of all
-- cycles end to end, w leaves each.
use Rattle.std.specs.Prelude.{ℕ, zero, suc, ◌+◌, ◌*◌, ◌/◌, Bool, true, false, not, List, [], ◌∷◌, ◌++◌, length, get_or, eqb}

-- leaf l of cycle k
abbrev pub leaf_of_cycle : (w : ℕ) (outputs : List ℕ) (k l : ℕ) → ℕ
leaf_of_cycle w outputs k l = get_or outputs (k * w + l) 0

-- a change stands at a cycle and a leaf: the cycle is not the first, and the leaf differs from the cycle before
abbrev pub change_at : (w : ℕ) (outputs : List ℕ) (cycle leaf : ℕ) → Bool
change_at w outputs zero l = false
change_at w outputs (suc k) l = not (eqb (leaf_of_cycle w outputs k l) (leaf_of_cycle w outputs (suc k) l))

abbrev pub one_where : Bool → ℕ
one_where true = 1
one_where false = 0

-- how many numbers below n pass a test
abbrev pub count_below : (ℕ → Bool) → ℕ → ℕ
count_below test zero = 0
count_below test (suc n) = count_below test n + one_where (test n)

-- N: in how many cycles a leaf changes
abbrev pub changes_of : (w : ℕ) (outputs : List ℕ) (leaf : ℕ) → ℕ
changes_of w outputs l = count_below (λ k. change_at w outputs k l) (length outputs / w)

-- a pair of cycle and leaf
pub record Change : Type 0 where
  pub cycle : ℕ
  pub leaf : ℕ

abbrev pub if_changed : Bool → (cycle leaf : ℕ) → List Change
if_changed true k l = record { cycle = k; leaf = l } ∷ []
if_changed false k l = []

-- the pairs of cycle k at which a change stands, of the first so many leaves
abbrev pub changes_in : (w : ℕ) (outputs : List ℕ) (k : ℕ) → ℕ → List Change
changes_in w outputs k zero = []
changes_in w outputs k (suc l) = changes_in w outputs k l ++ if_changed (change_at w outputs k l) k l

-- those of the first so many cycles
abbrev pub changes_up_to : (w : ℕ) (outputs : List ℕ) → ℕ → List Change
changes_up_to w outputs zero = []
changes_up_to w outputs (suc k) = changes_up_to w outputs k ++ changes_in w outputs k w

-- and all of them
abbrev pub all_changes : (w : ℕ) (outputs : List ℕ) → List Change
all_changes w outputs = changes_up_to w outputs (length outputs / w)

-- T: "counted over the output record, as its pairs of cycle and leaf at which a change stands"
abbrev pub total_changes : (w : ℕ) (outputs : List ℕ) → ℕ
total_changes w outputs = length (all_changes w outputs)

-- numbers for 0 to n - 1 added up
abbrev pub sum_below : (ℕ → ℕ) → ℕ → ℕ
sum_below f zero = 0
sum_below f (suc n) = sum_below f n + f n
