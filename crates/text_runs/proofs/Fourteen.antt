-- A call answers 14 exactly where a check of the text that is read fails, at the place of the
-- first.
-- Assumes nothing.
use Prim.Native.Nat.{ℕ}
use mathlib.Core.Path.{◌≡◌, refl, sym, subst, ◌∙◌}
use mathlib.Core.Logic.{◌⊎◌, inl, inr}
use mathlib.Core.List.{List}
use mathlib.Core.Option.{Option, none, some}
use native.Mathlib.Omega.{arith}
use lib.ListN.{length}
use Rattle.answers.specs.Answers.{or_refused, when}
use Rattle.answers.specs.Answers.{Answer}
use Rattle.answers.specs.Answers.{Done, Refused}
use Rattle.grammar.specs.Source.{Text}
use Rattle.name_rules.specs.Checks.{AllPass, FirstFails, first_bad_place}
use Rattle.name_rules.specs.Constants.{constants_of_text}
use Rattle.name_rules.specs.Names.{name_checks, text_checks}
use Rattle.translator.specs.Translated.{length_needed, lacks_room, text_answer, final_sheet, Translated, outside_grammar, in_grammar}
use Rattle.text_passes.proofs.Kept as Passes
use Rattle.text_runs.specs.Promises.{FailsAt, AnsweredFourteen}

-- from the answer to the checks
answer-fails : (t : Text) (room p : ℕ) → text_answer t room ≡ Refused 14 p → FirstFails (text_checks t) p
unfolding text_answer
answer-fails t room p e =
    go (first_bad_place (name_checks t)) (first_bad_place (constants_of_text t)) (when (lacks_room t room) (length_needed t)) refl refl e
  where
    go : (o q r : Option ℕ) → first_bad_place (name_checks t) ≡ o → first_bad_place (constants_of_text t) ≡ q
        → or_refused 14 o (or_refused 14 q (or_refused 15 r (Done (length_needed t)))) ≡ Refused 14 p → FirstFails (text_checks t) p
    go (some i) q r x y e =
        let same : some i ≡ some p = cc in
        ((Passes.kept).names_first t p).1 (inl (((Passes.kept).bad_place_exactly (name_checks t) p).0 (x ∙ same)))
    go none (some i) r x y e =
        let same : some i ≡ some p = cc in
        ((Passes.kept).names_first t p).1
        (inr (
          ((Passes.kept).no_bad_place (name_checks t)).0 x,
          ((Passes.kept).bad_place_exactly (constants_of_text t) p).0 (y ∙ same),
        ))
    go none none (some i) x y e = absurd (let other : ◌≡◌ {A = ℕ} 15 14 = cc in omega arith)
    go none none none x y e = absurd (let other : ◌≡◌ {A = ℕ} 0 1 = cc in omega arith)

-- and back
fails-answer : (t : Text) (room p : ℕ) → FirstFails (text_checks t) p → text_answer t room ≡ Refused 14 p
unfolding text_answer
fails-answer t room p f = go (((Passes.kept).names_first t p).0 f)
  where
    go : FirstFails (name_checks t) p ⊎ (AllPass (name_checks t) × FirstFails (constants_of_text t) p)
        → or_refused 14 (first_bad_place (name_checks t))
        (or_refused 14 (first_bad_place (constants_of_text t)) (or_refused 15 (when (lacks_room t room) (length_needed t)) (Done (length_needed t))))
        ≡ Refused 14 p
    go (inl x) = rw (((Passes.kept).bad_place_exactly (name_checks t) p).1 x)
    go (inr x) =
        rw (((Passes.kept).no_bad_place (name_checks t)).1 x.0, ((Passes.kept).bad_place_exactly (constants_of_text t) p).1 x.1)

as_it_was : (t : Text) (entry : List ℕ) (p : ℕ) → text_answer t (length entry) ≡ Refused 14 p → final_sheet t entry ≡ entry
unfolding final_sheet
as_it_was t entry p e = rw e

fails_of : {bytes entry exit : List ℕ} (p : ℕ) {a : Answer} → Translated bytes entry a exit → a ≡ Refused 14 p → FailsAt bytes p × (exit ≡ entry)
fails_of p (outside_grammar l) e = absurd (let other : ◌≡◌ {A = ℕ} 13 14 = cc in omega arith)
fails_of {entry = entry} p (in_grammar {ts} {t} k r) e = (
  record { keeps = k; tokens = ts; source = t; reading = r; fails = answer-fails t (length entry) p e },
  as_it_was t entry p e,
)

pub answered_fourteen : AnsweredFourteen
answered_fourteen bytes entry p exit = (
  λ h. fails_of p h refl,
  λ f. let x = f.0 in
      let e = fails-answer x.source (length entry) p x.fails in
      let same = as_it_was x.source entry p e ∙ sym f.1 in
      subst (λ a. Translated bytes entry a exit) e
      (subst (Translated bytes entry (text_answer x.source (length entry))) same (in_grammar x.keeps x.reading)),
)
