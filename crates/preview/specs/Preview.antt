-- The preview (docs/SHEETS.md, "The preview"): it "writes the value of the root for that input and for the sheet as it is". Its checks
-- are 1 to 10, with 10 for the outputs of one cycle. Where nothing refuses, it gives 0 at place 0.
use Rattle.std.specs.Prelude.{ℕ, ◌≡◌, not, List, [], ◌∷◌, ◌++◌, length, eqb}
use Rattle.answers.specs.Answers.{packed, when_done, Check, check, when, first_applying}
use Rattle.answers.specs.Answers.{Answer}
use Rattle.answers.specs.Answers.{Done}
use Rattle.verdict.specs.Verdict.{sheet_checks}
use Rattle.stimulus.specs.OneCycle.{one_cycle_checks}
use Rattle.behaviour.specs.Cycle.{output}
use Rattle.behaviour.specs.Run.{output_leaves}

-- the checks after those of the sheet: 8 and 9 for one cycle, and 10 for its outputs
abbrev pub shown_checks : (sheet stimulus out : List ℕ) → List Check
shown_checks s stim out =
    one_cycle_checks s stim ++ (check 10 (when (not (eqb (length out) (output_leaves s))) (output_leaves s)) ∷ [])

-- all checks of a preview, in their order
abbrev pub preview_checks : (sheet stimulus out : List ℕ) → List Check
preview_checks s stim out = sheet_checks s ++ shown_checks s stim out

unfoldable pub preview_answer : (sheet stimulus out : List ℕ) → Answer
preview_answer s stim out = first_applying (preview_checks s stim out) (Done 0)

-- the output slice at the end: the outputs of the cycle from the sheet as it is, and on a refusal what was there
unfoldable pub final_preview : (sheet stimulus out : List ℕ) → List ℕ
final_preview s stim out = when_done (preview_answer s stim out) (output s stim) out

-- what a call gives, for every content and length of the three slices: the number returned and the final bytes
pub record Previewed (sheet stimulus out : List ℕ) (result : ℕ) (out' : List ℕ) : Type 0 where
  pub result_is : result ≡ packed (preview_answer sheet stimulus out)
  pub out_is : out' ≡ final_preview sheet stimulus out
