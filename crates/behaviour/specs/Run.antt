-- The run (docs/SHEETS.md, "The run" and "Codes"): over a list of inputs from a sheet, and for every call. "Cycle 0 works on the sheet
-- that was lent, cycle 1 on the sheet after cycle 0, and so on." On the empty list a run gives no outputs and leaves the sheet as it
-- is. The answer is that of the first check that applies, with its place; "On a refusal every lent slice is as it was." What an
-- undecided IF gives is a parameter of the run over a list; the call takes the rule in force. At the end stands a well-formed call as a
-- run of 000's rules.
use Rattle.std.specs.Prelude.{ℕ, ◌*◌, ◌≡◌, not, List, [], ◌∷◌, ◌++◌, map, length, eqb}
use Rattle.picoella.specs.Language.{leaves, Expr}
use Rattle.records.specs.Trees.{type_at}
use Rattle.answers.specs.Answers.{packed, when_done, on_done, Check, check, when, first_applying, verdict_answer}
use Rattle.answers.specs.Answers.{Answer}
use Rattle.answers.specs.Answers.{Done}
use Rattle.verdict.specs.Verdict.{sheet_checks, output_type, verdict}
use Rattle.meaning.specs.Undecided.{undecided_rule, undecided_constant}
use Rattle.behaviour.specs.Cycle.{output_by, after_by}
use Rattle.stimulus.specs.Stimulus.{cycle_count, end_to_end, cycles, stimulus_checks, input_type}
use Rattle.std.proofs.Math.Option.{some}
use Rattle.records.specs.Decoding.{decode}
use Rattle.meaning.specs.Constants.{ConstantTree, AllConstantsOf, flatten}
use Rattle.meaning.specs.Rules.{ReducesSeq}

module _ (undecided : List ℕ → List ℕ → List ℕ) where
  -- the outputs in order
  abbrev pub outputs_by : (sheet : List ℕ) (inputs : List (List ℕ)) → List (List ℕ)
  outputs_by s [] = []
  outputs_by s (i ∷ is) = output_by undecided s i ∷ outputs_by (after_by undecided s i) is

  -- the sheet after the last cycle
  abbrev pub sheet_after : (sheet : List ℕ) (inputs : List (List ℕ)) → List ℕ
  sheet_after s [] = s
  sheet_after s (i ∷ is) = sheet_after (after_by undecided s i) is

-- the bytes of one cycle's outputs
abbrev pub output_leaves : (sheet : List ℕ) → ℕ
output_leaves s = leaves (type_at s (output_type s))

-- the cycles times the output type's leaves, where that type is t
abbrev pub output_needed : (sheet : List ℕ) (t : ℕ) (stimulus : List ℕ) → ℕ
output_needed s t stim = cycle_count s stim * leaves (type_at s t)

-- the checks of the lent slices' lengths: 10 and 11
abbrev pub length_checks : (sheet : List ℕ) (t : ℕ) (stimulus out next : List ℕ) → List Check
length_checks s t stim out next =
    check 10 (when (not (eqb (length out) (output_needed s t stim))) (output_needed s t stim))
    ∷ check 11 (when (not (eqb (length next) (length s))) (length s))
    ∷ []

-- the checks of an accepted sheet's run, in their order: 8 and 9, and then those
abbrev pub run_checks : (sheet : List ℕ) (t : ℕ) (stimulus out next : List ℕ) → List Check
run_checks s t stim out next = stimulus_checks s stim ++ length_checks s t stim out next

-- codes 8 to 11, for an accepted sheet with output type t
unfoldable pub by_slices : (sheet : List ℕ) (t : ℕ) (stimulus out next : List ℕ) → Answer
by_slices s t stim out next = first_applying (run_checks s t stim out next) (Done (cycle_count s stim))

-- codes 1 to 7 by the verdict, and then the others
unfoldable pub answer : (sheet stimulus out next : List ℕ) → Answer
answer s stim out next = on_done (verdict_answer (verdict s)) (λ t. by_slices s t stim out next)

-- all checks of a call, in their order
abbrev pub call_checks : (sheet stimulus out next : List ℕ) → List Check
call_checks s stim out next = sheet_checks s ++ run_checks s (output_type s) stim out next

-- the outputs laid end to end
unfoldable pub final_out : (sheet stimulus out next : List ℕ) → List ℕ
final_out s stim out next =
    let new = end_to_end (outputs_by undecided_rule s (cycles s stim)) in when_done (answer s stim out next) new out

-- the sheet after the last cycle
unfoldable pub final_next : (sheet stimulus out next : List ℕ) → List ℕ
final_next s stim out next =
    let new = sheet_after undecided_rule s (cycles s stim) in when_done (answer s stim out next) new next

-- what a call gives, for every content and length of the four slices: the number returned and the final bytes
pub record RunGiven (sheet stimulus out next : List ℕ) (result : ℕ) (out' next' : List ℕ) : Type 0 where
  pub result_is : result ≡ packed (answer sheet stimulus out next)
  pub out_is : out' ≡ final_out sheet stimulus out next
  pub next_is : next' ≡ final_next sheet stimulus out next

-- From the bytes of a call to the rules of 000 in one statement: what a well-formed call takes and gives is a run of those rules. All
-- that it speaks of is bytes, the expression that a sheet decodes to, 000's constants and 000's rules.

-- of a sheet with output type t: `out` and `next` are the final bytes of the two slices
pub record RunsByRules (sheet stimulus : List ℕ) (t : ℕ) (out next : List ℕ) : Type 0 where
  -- the expression that the sheet decodes to
  pub expression : Expr
  pub decoded : decode sheet ≡ some expression
  -- the inputs, constants of the input's type, one for each cycle
  pub inputs : List ConstantTree
  pub inputs_typed : AllConstantsOf (input_type sheet) inputs
  pub one_each : length inputs ≡ cycle_count sheet stimulus
  -- the outputs, constants of the output's type, equally many
  pub outputs : List ConstantTree
  pub outputs_typed : AllConstantsOf (type_at sheet t) outputs
  pub equally_many : length outputs ≡ length inputs
  -- and the expression after
  pub expression_after : Expr
  -- such that the stimulus is the inputs flattened,
  pub stimulus_is : stimulus ≡ end_to_end (map flatten inputs)
  -- the rules reduce the expression over the inputs to the outputs and to that expression,
  pub reduces : ReducesSeq undecided_constant [] expression inputs outputs expression_after
  -- the output slice is the outputs flattened end to end,
  pub out_is : out ≡ end_to_end (map flatten outputs)
  -- and the next slice decodes to that expression
  pub next_decodes : decode next ≡ some expression_after
