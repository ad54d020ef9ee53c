-- Which alternative fired, as a call (docs/SHEETS.md, "Which alternative fired"): it "fills the slice: at the record of an IF with this
-- number, taken from the evaluation in which every feedback that encloses the IF has its settled value, in the defining part as in
-- the body; and with 0 at every other record. It writes nothing else." "Its checks are 1 to 7, then 8, also for a stimulus that is not
-- exactly one cycle, then 9, then 16. Where none applies it gives 0 at place 0." The slice is a list of words here, so its length and
-- 16's place count words, not bytes.
use Rattle.std.specs.Prelude.{ℕ, ◌≡◌, not, List, [], ◌∷◌, ◌++◌, length, eqb}
use Rattle.records.specs.Words.{count}
use Rattle.answers.specs.Answers.{packed, when_done, Check, check, when, first_applying}
use Rattle.answers.specs.Answers.{Answer}
use Rattle.answers.specs.Answers.{Done}
use Rattle.verdict.specs.Verdict.{sheet_checks}
use Rattle.stimulus.specs.OneCycle.{one_cycle_checks}
use Rattle.behaviour.specs.Firing.{fired}

-- 1 to 7, 8 and 9 for exactly one cycle, and 16
abbrev pub fired_checks : (sheet stimulus words : List ℕ) → List Check
fired_checks s stim words =
    sheet_checks s ++ (one_cycle_checks s stim ++ (check 16 (when (not (eqb (length words) (count s))) (count s)) ∷ []))

unfoldable pub fired_answer : (sheet stimulus words : List ℕ) → Answer
fired_answer s stim words = first_applying (fired_checks s stim words) (Done 0)

-- the slice at the end: a word for each record, and on a refusal what was there
unfoldable pub final_fired : (sheet stimulus words : List ℕ) → List ℕ
final_fired s stim words = when_done (fired_answer s stim words) (fired s stim) words

-- what a call gives, for every content and length of the three slices: the number returned and the final words
pub record ToldFired (sheet stimulus words : List ℕ) (result : ℕ) (words' : List ℕ) : Type 0 where
  pub result_is : result ≡ packed (fired_answer sheet stimulus words)
  pub words_is : words' ≡ final_fired sheet stimulus words
