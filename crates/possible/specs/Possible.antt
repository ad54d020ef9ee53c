-- What can still happen (docs/SHEETS.md, "What can still happen"): the sets of the root's leaves for one cycle of input from the sheet as
-- it is, and how many constructors are in each. Its checks are 1 to 7, then 22, 8, 9 and 10. Where nothing refuses, it gives 0 at place 0.
use Rattle.std.specs.Prelude.{ℕ, ◌≡◌, Bool, not, ◌&&◌, ◌||◌, List, [], ◌∷◌, ◌++◌, map, length, eqb, ltb}
use Rattle.picoella.specs.Language.{bounds}
use Rattle.records.specs.Words.{count, word_a}
use Rattle.records.specs.Kinds.{is_flat}
use Rattle.records.specs.Says.{kind_at}
use Rattle.structure.specs.Rules.{is_feedback}
use Rattle.answers.specs.Answers.{packed, when_done, lowest, Check, check, when, first_applying}
use Rattle.answers.specs.Answers.{Answer}
use Rattle.answers.specs.Answers.{Done}
use Rattle.verdict.specs.Verdict.{sheet_checks}
use Rattle.stimulus.specs.Stimulus.{input_type}
use Rattle.stimulus.specs.OneCycle.{one_cycle_checks}
use Rattle.behaviour.specs.Terms.{circuit_term}
use Rattle.behaviour.specs.Run.{output_leaves}
use Rattle.possibilities.specs.Sets.{ConstructorSet, members, sets_of}
use Rattle.possibilities.specs.SetEvaluation.{eval_sets}

-- the sets of the output leaves: the input's leaves begin as those of constants and delays do
unfoldable pub possible_sets : (sheet input : List ℕ) → List ConstructorSet
possible_sets s i = eval_sets (sets_of (bounds (input_type s)) i ∷ []) (circuit_term s)

-- "how many constructors remain possible at each output leaf"
unfoldable pub possible_counts : (sheet input : List ℕ) → List ℕ
possible_counts s i = map members (possible_sets s i)

-- 22: "a feedback, or a flat type above 64 constructors"; used or not
unfoldable pub past_sets : (sheet : List ℕ) → ℕ → Bool
past_sets s r = is_feedback (kind_at s r) || (is_flat (kind_at s r) && ltb 64 (word_a s r))

-- the checks after those of the sheet, in their order
abbrev pub own_set_checks : (sheet stimulus out : List ℕ) → List Check
own_set_checks s stim out =
    check 22 (lowest (past_sets s) (count s))
    ∷ (one_cycle_checks s stim ++ (check 10 (when (not (eqb (length out) (output_leaves s))) (output_leaves s)) ∷ []))

abbrev pub possible_checks : (sheet stimulus out : List ℕ) → List Check
possible_checks s stim out = sheet_checks s ++ own_set_checks s stim out

unfoldable pub possible_answer : (sheet stimulus out : List ℕ) → Answer
possible_answer s stim out = first_applying (possible_checks s stim out) (Done 0)

unfoldable pub final_counts : (sheet stimulus out : List ℕ) → List ℕ
final_counts s stim out = when_done (possible_answer s stim out) (possible_counts s stim) out

-- what a call gives, for every content and length of the three slices
pub record PossibleGiven (sheet stimulus out : List ℕ) (result : ℕ) (out' : List ℕ) : Type 0 where
  pub result_is : result ≡ packed (possible_answer sheet stimulus out)
  pub out_is : out' ≡ final_counts sheet stimulus out
