-- One press away (docs/SHEETS.md, "One press away"): for one cycle of input and an output leaf, the
-- lowest input leaf whose change alone, to a constructor other than its present value, alters that
-- output leaf, and for it the lowest such constructor. The checks are 1 to 9, with 8 for one cycle,
-- and 21. Where nothing refuses, the call gives 0 at place 0.
use Rattle.std.specs.Prelude.{ℕ, suc, ◌≡◌, Bool, not, ◌&&◌, List, [], ◌∷◌, ◌++◌, eqb, get_or, set}
use Rattle.std.proofs.Math.Option.{Option, none, some}
use Rattle.picoella.specs.Language.{bounds}
use Rattle.answers.specs.Answers.{packed, lowest, is_some, Check, first_applying}
use Rattle.answers.specs.Answers.{Answer}
use Rattle.answers.specs.Answers.{Done, Refused}
use Rattle.verdict.specs.Verdict.{sheet_checks}
use Rattle.stimulus.specs.Stimulus.{input_type, input_leaves}
use Rattle.stimulus.specs.OneCycle.{one_cycle_checks}
use Rattle.probe.specs.OutputLeaf.{leaf_for, leaf_check}

-- what is found: the change of an input leaf to a constructor, or none
pub data Press : Type 0 where
  Change : (leaf constructor : ℕ) → Press
  NoChange : Press

-- input leaf j set to c, which is not its present value, alters output leaf l
abbrev pub alters_to : (sheet input : List ℕ) (leaf j c : ℕ) → Bool
alters_to s i l j c = not (eqb c (get_or i j 0)) && not (eqb (leaf_for s l (set i j c)) (leaf_for s l i))

-- the lowest constructor of input leaf j that alters it, less 1
unfoldable pub constructor_for : (sheet input : List ℕ) (leaf j : ℕ) → Option ℕ
constructor_for s i l j = lowest (λ k. alters_to s i l j (suc k)) (get_or (bounds (input_type s)) j 0)

-- the lowest input leaf that has one
unfoldable pub leaf_found : (sheet input : List ℕ) (leaf : ℕ) → Option ℕ
leaf_found s i l = lowest (λ j. is_some (constructor_for s i l j)) (input_leaves s)

abbrev pub change_to : (leaf : ℕ) → Option ℕ → Press
change_to j none = NoChange
change_to j (some k) = Change j (suc k)

abbrev pub change_at : Option ℕ → (ℕ → Option ℕ) → Press
change_at none f = NoChange
change_at (some j) f = change_to j (f j)

unfoldable pub one_press : (sheet input : List ℕ) (leaf : ℕ) → Press
one_press s i l = change_at (leaf_found s i l) (constructor_for s i l)

-- the checks after those of the sheet: 8 and 9 for one cycle, and 21
abbrev pub own_press_checks : (sheet stimulus : List ℕ) (leaf : ℕ) → List Check
own_press_checks s stim l = one_cycle_checks s stim ++ (leaf_check s l ∷ [])

-- all checks, in their order
abbrev pub press_checks : (sheet stimulus : List ℕ) (leaf : ℕ) → List Check
press_checks s stim l = sheet_checks s ++ own_press_checks s stim l

unfoldable pub press_answer : (sheet stimulus : List ℕ) (leaf : ℕ) → Answer
press_answer s stim l = first_applying (press_checks s stim l) (Done 0)

-- nothing is told on a refusal
abbrev pub press_done : Answer → Press → Press
press_done (Done p) told = told
press_done (Refused c p) told = NoChange

unfoldable pub final_press : (sheet stimulus : List ℕ) (leaf : ℕ) → Press
final_press s stim l = press_done (press_answer s stim l) (one_press s stim l)

-- the numbers of each case: whether a change is told, the input leaf and the constructor
abbrev pub press_found : Press → ℕ
press_found (Change j c) = 1
press_found NoChange = 0

abbrev pub press_leaf : Press → ℕ
press_leaf (Change j c) = j
press_leaf NoChange = 0

abbrev pub press_constructor : Press → ℕ
press_constructor (Change j c) = c
press_constructor NoChange = 0

-- what a call gives, for every content and length of the two slices and every number of a leaf
pub record PressGiven (sheet stimulus : List ℕ) (leaf result found input constructor : ℕ) : Type 0 where
  pub result_is : result ≡ packed (press_answer sheet stimulus leaf)
  pub found_is : found ≡ press_found (final_press sheet stimulus leaf)
  pub input_is : input ≡ press_leaf (final_press sheet stimulus leaf)
  pub constructor_is : constructor ≡ press_constructor (final_press sheet stimulus leaf)
