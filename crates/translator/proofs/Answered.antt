-- What each step of the call finds is the answer, and what the slice then holds is what it holds at the end.
-- Assumes nothing.
use Prim.Native.Nat.{ℕ, ◌-◌}
use mathlib.Core.Path.{◌≡◌, refl, ap, subst, ◌∙◌}
use mathlib.Core.Bool.{Bool, true, false}
use mathlib.Core.List.{List, ◌++◌}
use mathlib.Core.Option.{Option, none, some}
use lib.ListN.{length, replicate}
use Rattle.answers.specs.Answers.{Answer, Done, Refused, when_done, when, or_refused}
use Rattle.grammar.specs.Tokens.{Token}
use Rattle.grammar.specs.Source.{Text}
use Rattle.grammar.specs.Legal.{Reading, Keeps}
use Rattle.name_rules.specs.Checks.{first_bad_place}
use Rattle.name_rules.specs.Constants.{constants_of_text}
use Rattle.name_rules.specs.Names.{name_checks}
use Rattle.layout.specs.Layout.{sheet_of_text}
use Rattle.translator.specs.Translated.{length_needed, lacks_room, text_answer, final_sheet, Translated, in_grammar}

-- the answer by what the three checks find
abbrev pub answer_by : (names constants room : Option ℕ) → ℕ → Answer
answer_by o p r n = or_refused 14 o (or_refused 14 p (or_refused 15 r (Done n)))

pub answered : (t : Text) (room : ℕ) {o p : Option ℕ} {b : Bool} → first_bad_place (name_checks t) ≡ o → first_bad_place (constants_of_text t) ≡ p
    → lacks_room t room ≡ b → text_answer t room ≡ answer_by o p (when b (length_needed t)) (length_needed t)
unfolding text_answer
answered t room {o} {p} e f g =
    ap (λ x. answer_by x (first_bad_place (constants_of_text t)) (when (lacks_room t room) (length_needed t)) (length_needed t)) e
    ∙ ap (λ x. answer_by o x (when (lacks_room t room) (length_needed t)) (length_needed t)) f
    ∙ ap (λ x. answer_by o p (when x (length_needed t)) (length_needed t)) g

-- an answer, and what the slice holds by it
translated : {bytes : List ℕ} {ts : List Token} {t : Text} (entry : List ℕ) (a : Answer) → Keeps bytes → Reading bytes ts t
    → text_answer t (length entry) ≡ a
    → Translated bytes entry a (when_done a (sheet_of_text t ++ replicate (length entry - length_needed t) 0) entry)
unfolding final_sheet
translated {bytes} {t} entry a k r e =
    subst (λ x. Translated bytes entry x (when_done x (sheet_of_text t ++ replicate (length entry - length_needed t) 0) entry)) e (in_grammar k r)

module _ {bytes : List ℕ} {ts : List Token} {t : Text} {entry : List ℕ} (k : Keeps bytes) (r : Reading bytes ts t) where
  pub bad-name : (p : ℕ) → first_bad_place (name_checks t) ≡ some p → Translated bytes entry (Refused 14 p) entry
  bad-name p e = translated entry (Refused 14 p) k r (answered t (length entry) e refl refl)

  pub untyped-constant : (p : ℕ) → first_bad_place (name_checks t) ≡ none → first_bad_place (constants_of_text t) ≡ some p
      → Translated bytes entry (Refused 14 p) entry
  untyped-constant p e f = translated entry (Refused 14 p) k r (answered t (length entry) e f refl)

  pub no_room : first_bad_place (name_checks t) ≡ none → first_bad_place (constants_of_text t) ≡ none → lacks_room t (length entry) ≡ true
      → Translated bytes entry (Refused 15 (length_needed t)) entry
  no_room e f g = translated entry (Refused 15 (length_needed t)) k r (answered t (length entry) e f g)

  pub sheet-written : first_bad_place (name_checks t) ≡ none → first_bad_place (constants_of_text t) ≡ none → lacks_room t (length entry) ≡ false
      → Translated bytes entry (Done (length_needed t)) (sheet_of_text t ++ replicate (length entry - length_needed t) 0)
  sheet-written e f g = translated entry (Done (length_needed t)) k r (answered t (length entry) e f g)
