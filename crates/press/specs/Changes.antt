-- What the change that the code finds stands for, and what a call gives before its answer is put in one number.
use Rattle.std.specs.Prelude.{ℕ, List, ◌≡◌, Option, Some, None, Result, Ok, Err}
use Rattle.answers.specs.Answers.{Answer, Done, Refused}
use Rattle.answers.specs.Results.{code_number}
use Rattle.answers.specs.declared.Refusal.{Refusal}
use Rattle.press.specs.declared.Change as Told
use Rattle.press.specs.Press.{Press, Change, NoChange, press_answer, final_press}

abbrev pub press_told : Option Told.Change → Press
press_told (Some change) = Change change.leaf change.constructor
press_told None = NoChange

abbrev pub answer_pressed : Result (Option Told.Change) Refusal → Answer
answer_pressed (Ok press) = Done 0
answer_pressed (Err r) = Refused (code_number r.code) r.place

abbrev pub press_given : Result (Option Told.Change) Refusal → Press
press_given (Ok press) = press_told press
press_given (Err r) = NoChange

pub record PressAnswered (sheet stimulus : List ℕ) (leaf : ℕ) (result : Result (Option Told.Change) Refusal) : Type 0 where
  pub answer_is : answer_pressed result ≡ press_answer sheet stimulus leaf
  pub press_is : press_given result ≡ final_press sheet stimulus leaf
