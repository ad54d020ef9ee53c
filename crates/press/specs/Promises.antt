-- What is promised of one press away: each promise a named type, and at the end the list of them.
-- One term of each stands in `proofs/Kept.antt`.
use Rattle.std.specs.Prelude.{ℕ, ◌≤◌, ◌<◌, ◌≡◌, ◌↔◌, ◌≢◌, false, List, [], ◌∷◌, length, get_or, set}
use Rattle.std.proofs.Math.Option.{none}
use Rattle.picoella.specs.Language.{bounds}
use Rattle.answers.specs.Answers.{code, lowest}
use Rattle.answers.specs.StandardLaws.{StandardLaws}
use Rattle.answers.specs.Answers.{Refused}
use Rattle.verdict.specs.Verdict.{output_type, verdict}
use Rattle.answers.specs.Answers.{Accepted}
use Rattle.stimulus.specs.Stimulus.{input_type, input_leaves, wrong_byte}
use Rattle.stimulus.specs.OneCycle.{not_one_cycle}
use Rattle.behaviour.specs.Bench.{gate_and, toggle}
use Rattle.behaviour.specs.Run.{output_leaves}
use Rattle.preview.specs.Preview.{Previewed}
use Rattle.probe.specs.OutputLeaf.{leaf_for}
use Rattle.press.specs.Press.{one_press, press_checks, press_answer, final_press, PressGiven}
use Rattle.press.specs.Press.{Change, NoChange}

-- a change of one input leaf, to a constructor other than its present value, that alters the output
-- leaf
pub record Alters (sheet input : List ℕ) (leaf j c : ℕ) : Type 0 where
  pub there : j < input_leaves sheet
  pub defined : 1 ≤ c
  pub constructor : c ≤ get_or (bounds (input_type sheet)) j 0
  pub other : c ≢ get_or input j 0
  pub altered : leaf_for sheet leaf (set input j c) ≢ leaf_for sheet leaf input

-- and the lowest input leaf of all such changes, with its lowest constructor
pub record LowestChange (sheet input : List ℕ) (leaf j c : ℕ) : Type 0 where
  pub alters : Alters sheet input leaf j c
  pub first_leaf : (i d : ℕ) → Alters sheet input leaf i d → j ≤ i
  pub first_constructor : (d : ℕ) → Alters sheet input leaf j d → c ≤ d

-- A change is told exactly when it is that one, and none exactly when no change alters the output
-- leaf.
abbrev pub PressTold : Type 0
PressTold = (s i : List ℕ) (l j c : ℕ) → one_press s i l ≡ Change j c ↔ LowestChange s i l j c

abbrev pub PressNone : Type 0
PressNone = (s i : List ℕ) (l : ℕ) → one_press s i l ≡ NoChange ↔ ((j c : ℕ) → Alters s i l j c → ⊥)

-- a call to which no check applies
pub record FormedPress (sheet stimulus : List ℕ) (leaf : ℕ) : Type 0 where
  pub accepted : verdict sheet ≡ Accepted (output_type sheet)
  pub one_cycle : not_one_cycle sheet stimulus ≡ false
  pub fitting : lowest (wrong_byte sheet stimulus) (length stimulus) ≡ none
  pub there : leaf < output_leaves sheet

-- What every call promises (`StandardLaws` of `answers`). The call is lent no slice to write to.
abbrev pub PressLaws : Type 0
PressLaws = (s stim : List ℕ) (l : ℕ) → StandardLaws (press_checks s stim l) (FormedPress s stim l) 0 (press_answer s stim l) []

-- On a refusal no change is told.
abbrev pub PressRefusedUntold : Type 0
PressRefusedUntold = (s stim : List ℕ) (l : ℕ) → code (press_answer s stim l) ≢ 0 → final_press s stim l ≡ NoChange

-- What is compared is what the other calls show. Whatever a press that is done gave by its
-- contract, and whatever a preview of the same cycle gave by its own: the preview is done; a change
-- that is told gives another value at the output leaf in the preview of the changed input; and
-- where none is told every such change gives the same value there. `PreviewAsRun` says the same of
-- the run.
pub record PressedAsShown (sheet stimulus : List ℕ) (leaf found j c : ℕ) (out : List ℕ) : Type 0 where
  pub told : found ≡ 1 → (shown : List ℕ) (result : ℕ) (other : List ℕ) → length shown ≡ output_leaves sheet
      → Previewed sheet (set stimulus j c) shown result other → (result ≡ 0) × (get_or other leaf 0 ≢ get_or out leaf 0)
  pub untold : found ≡ 0 → (i d : ℕ) → i < input_leaves sheet → 1 ≤ d → d ≤ get_or (bounds (input_type sheet)) i 0 → d ≢ get_or stimulus i 0
      → (shown : List ℕ) (result : ℕ) (other : List ℕ) → length shown ≡ output_leaves sheet
      → Previewed sheet (set stimulus i d) shown result other → (result ≡ 0) × (get_or other leaf 0 ≡ get_or out leaf 0)

abbrev pub PressAsShown : Type 0
PressAsShown =
    (s stim : List ℕ) (l found j c : ℕ) → PressGiven s stim l 0 found j c
    → (shown : List ℕ) (result : ℕ) (out : List ℕ) → length shown ≡ output_leaves s → Previewed s stim shown result out
    → (result ≡ 0) × PressedAsShown s stim l found j c out

-- The AND of two bits: from (1,1), which gives 1, the first leaf to 2; from (2,2), which gives 2,
-- nothing; from (0,0), which is undefined, the first leaf to 2. The sheet T puts out what its delay
-- holds, whatever its input.
abbrev pub PressExamples : Type 0
PressExamples =
    (final_press gate_and (1 ∷ 1 ∷ []) 0 ≡ Change 0 2)
    × (final_press gate_and (2 ∷ 2 ∷ []) 0 ≡ NoChange)
    × (final_press gate_and (0 ∷ 0 ∷ []) 0 ≡ Change 0 2)
    × (final_press toggle (1 ∷ []) 0 ≡ NoChange)
    × (press_answer gate_and (1 ∷ 1 ∷ []) 1 ≡ Refused 21 1)
    × (press_answer gate_and [] 0 ≡ Refused 8 0)
    × (press_answer gate_and (1 ∷ 3 ∷ []) 1 ≡ Refused 9 1)

-- all of them
pub record PressPromises : Type 0 where
  pub press_laws : PressLaws
  pub refused_untold : PressRefusedUntold
  pub told : PressTold
  pub none_told : PressNone
  pub as_shown : PressAsShown
  pub examples : PressExamples
