-- The translation of a text (docs/SHEETS.md, "Text" and "Codes"): 0 with the sheet's length; or 13 for a text outside the grammar; then
-- 14 for the first name that breaks a rule, or with none the first constant pair without a type; then 15, where "the slice is shorter
-- than the sheet, or the sheet would have more than 4,096 records". "The sheet stands at the start of the lent slice, and zeros from
-- there to its end."
use Rattle.std.specs.Prelude.{ℕ, ◌*◌, ◌-◌, ◌≡◌, Bool, true, false, cond, List, [], ◌∷◌, ◌++◌, length, replicate, ltb}
use Rattle.std.proofs.Math.Option.{none, some}
use Rattle.answers.specs.Answers.{Answer, Done, Refused, packed, when_done, Check, check, when, first_applying}
use Rattle.grammar.specs.Tokens.{Token}
use Rattle.grammar.specs.Source.{Text}
use Rattle.grammar.specs.Legal.{Reading, LeavesGrammar, Keeps}
use Rattle.name_rules.specs.Checks.{AllPass, first_bad_place}
use Rattle.name_rules.specs.Constants.{constants_of_text}
use Rattle.name_rules.specs.Names.{name_checks, text_checks}
use Rattle.name_rules.specs.RecordsNeeded.{records_needed}
use Rattle.layout.specs.Layout.{sheet_of_text}

-- the bytes that a text's sheet needs, whatever their number
abbrev pub length_needed : Text → ℕ
length_needed t = 12 * records_needed t

-- the slice is shorter than the sheet, or the sheet has more than 4,096 records
abbrev pub lacks_room : Text → ℕ → Bool
lacks_room t room = cond (ltb room (length_needed t)) true (ltb 4096 (records_needed t))

-- the checks on a text in the grammar, in their order
abbrev pub text_call_checks : Text → (room : ℕ) → List Check
text_call_checks t room =
    check 14 (first_bad_place (name_checks t))
    ∷ check 14 (first_bad_place (constants_of_text t))
    ∷ check 15 (when (lacks_room t room) (length_needed t))
    ∷ []

unfoldable pub text_answer : Text → (room : ℕ) → Answer
text_answer t room = first_applying (text_call_checks t room) (Done (length_needed t))

-- the lent slice at the end: the sheet and zeros after it, and on a refusal what was there
unfoldable pub final_sheet : Text → (entry : List ℕ) → List ℕ
final_sheet t entry = when_done (text_answer t (length entry)) (sheet_of_text t ++ replicate (length entry - length_needed t) 0) entry

-- what a call gives, for every content and length of the two slices: the answer and the final bytes
pub data Translated (bytes entry : List ℕ) : Answer → List ℕ → Type 0 where
  outside_grammar : {i : ℕ} → LeavesGrammar bytes i → Translated bytes entry (Refused 13 i) entry
  in_grammar : {ts : List Token} {t : Text} → Keeps bytes → Reading bytes ts t
      → Translated bytes entry (text_answer t (length entry)) (final_sheet t entry)

-- all checks of a call, in their order, and the place that it gives where none applies: 13 for a text that leaves the grammar; it does not
-- apply to a text in the grammar, and then come the checks on what is read
pub data TranslationChecks (bytes : List ℕ) (room : ℕ) : List Check → (done : ℕ) → Type 0 where
  checks_outside : {i : ℕ} → LeavesGrammar bytes i → TranslationChecks bytes room (check 13 (some i) ∷ []) 0
  checks_inside : {ts : List Token} {t : Text} → Keeps bytes → Reading bytes ts t
      → TranslationChecks bytes room (check 13 none ∷ text_call_checks t room) (length_needed t)

-- a call to which none applies: the text is in the grammar, its names and constants are good, and its sheet has room
pub record TranslationFormed (bytes : List ℕ) (room : ℕ) : Type 0 where
  pub keeps : Keeps bytes
  pub tokens : List Token
  pub source : Text
  pub reading : Reading bytes tokens source
  pub good : AllPass (text_checks source)
  pub fits : lacks_room source room ≡ false

-- the same with the answer in one number
pub record TranslatedInOne (bytes entry : List ℕ) (result : ℕ) (exit : List ℕ) : Type 0 where
  pub answer : Answer
  pub translated : Translated bytes entry answer exit
  pub result_is : result ≡ packed answer
