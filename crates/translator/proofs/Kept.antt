-- One term of every promise of the front page.
-- Assumes nothing.
use Prim.Native.Nat.{ℕ, ◌*◌, ◌-◌, ◌^◌, ◌≤◌, ◌<◌}
use native.Mathlib.Omega.{arith}
use mathlib.Core.Path.{◌≡◌, refl, sym, ap, subst, ◌∙◌}
use mathlib.Core.Logic.{◌⊎◌, inl, inr, ◌↔◌}
use mathlib.Core.Bool.{Bool, true, false, cond, not}
use mathlib.Core.List.{List, [], ◌∷◌, ◌++◌}
use mathlib.Core.Option.{none, some}
use lib.ListN.{length, take, drop, replicate, length-append, length-replicate}
use lib.Dec.{T, ltb, nltb→le}
use Rattle.records.specs.SheetOf.{Record, words, sheet_of}
use Rattle.answers.specs.Answers.{Answer, Done, Refused, when_done, check, when, NoneApplies, SaysOf}
use Rattle.answers.specs.GivenSlices.{no_slice, one_slice}
use Rattle.answers.proofs.First.{first_says, says_first, when-none, when-some}
use Rattle.answers.proofs.StandardLaws.{first-place, standard-laws}
use Rattle.grammar.specs.Tokens.{Token}
use Rattle.grammar.specs.Source.{Text}
use Rattle.grammar.specs.Legal.{Reading, LeavesGrammar, Keeps}
use Rattle.grammar.proofs.Kept as Grammar
use Rattle.name_rules.specs.Checks.{AllPass}
use Rattle.name_rules.specs.Constants.{constants_of_text}
use Rattle.name_rules.specs.Names.{name_checks, text_checks}
use Rattle.name_rules.specs.RecordsNeeded.{records_needed}
use Rattle.name_rules.proofs.Bounded.{records_bounded}
use Rattle.layout.specs.Layout.{text_records, sheet_of_text}
use Rattle.layout.proofs.Kept as Translation
use Rattle.translator.specs.Translated.{
  length_needed,
  lacks_room,
  text_call_checks,
  text_answer,
  final_sheet,
  Translated,
  outside_grammar,
  in_grammar,
  TranslationFormed,
  checks_outside,
  checks_inside,
}
use Rattle.translator.specs.Promises.{EveryTranslated, OneTranslation, TextFirstThatApplies, TranslationLaws, WroteSheet, WritesSheet, TranslatorPromises}
use Rattle.name_rules.proofs.First.{none-bad, pass-none, pass-split, both-pass}
use Rattle.translator.proofs.PlacesWithin.{names-within, constants-within}

every : EveryTranslated
every bytes entry = go ((Grammar.kept).keeps_or_leaves bytes)
  where
    go : Keeps bytes ⊎ ((i : ℕ) × LeavesGrammar bytes i) → (a : Answer) × (exit : List ℕ) × Translated bytes entry a exit
    go (inl k) =
        let l = k.legal in
        let t = l.1 in
        (text_answer t (length entry), final_sheet t entry, in_grammar k l.2)
    go (inr h) = (Refused 13 h.0, entry, outside_grammar h.1)

one : OneTranslation
one bytes entry a b x y (outside_grammar {i} l) (outside_grammar {i = j} m) =
    (ap (λ p. Refused 13 p) ((Grammar.kept).one_place bytes i j l m), refl)
one bytes entry a b x y (outside_grammar {i} l) (in_grammar k r) = absurd ((Grammar.kept).never_both bytes i l k)
one bytes entry a b x y (in_grammar k r) (outside_grammar {i} l) = absurd ((Grammar.kept).never_both bytes i l k)
one bytes entry a b x y (in_grammar {ts} {t} k r) (in_grammar {ts = us} {t = u} m s) =
    let e = ((Grammar.kept).one_reading bytes ts us t u r s).1 in
    (ap (λ v. text_answer v (length entry)) e, ap (λ v. final_sheet v entry) e)

first : TextFirstThatApplies
unfolding text_answer
first t room a = (
  λ e. subst (SaysOf (text_call_checks t room) (length_needed t)) e (first_says (text_call_checks t room) (length_needed t)),
  says_first (text_call_checks t room) (length_needed t) a,
)

-- where the text leaves the grammar, 13 applies and no call is well formed
outside-formed : {bytes : List ℕ} {i room : ℕ} → LeavesGrammar bytes i → NoneApplies (check 13 (some i) ∷ []) ↔ TranslationFormed bytes room
outside-formed {bytes} {i} l = (
  λ h. let z : ◌≡◌ {A = ℕ} 0 1 = let e = h.0 in cc in absurd (omega arith),
  λ f. absurd ((Grammar.kept).never_both bytes i l f.keeps),
)

-- and in the grammar the checks are those of the one text that is read
inside-formed : {bytes : List ℕ} {ts : List Token} {t : Text} {room : ℕ} → Keeps bytes → Reading bytes ts t
    → NoneApplies (check 13 none ∷ text_call_checks t room) ↔ TranslationFormed bytes room
inside-formed {bytes} {ts} {t} {room} k r = (
  λ h. record {
    keeps = k;
    tokens = ts;
    source = t;
    reading = r;
    good = both-pass (none-bad (name_checks t) h.1.0) (none-bad (constants_of_text t) h.1.1.0);
    fits = when-none (lacks_room t room) (length_needed t) h.1.1.1.0;
  },
  λ f. let e = ((Grammar.kept).one_reading bytes f.tokens ts f.source t f.reading r).1 in
      let g = pass-split (name_checks t) (subst (λ u. AllPass (text_checks u)) e f.good) in
      let y : lacks_room t room ≡ false = subst (λ u. lacks_room u room ≡ false) e f.fits in
      (refl, (pass-none g.0, (pass-none g.1, (ap (λ b. when b (length_needed t)) y, tt)))),
)

laws : TranslationLaws
unfolding text_answer final_sheet
laws bytes entry a exit (outside_grammar {i} l) =
    let w = ((Grammar.kept).place_within bytes i l).1 in
    record {
      checks = check 13 (some i) ∷ [];
      done = 0;
      are_checks = checks_outside l;
      laws = standard-laws (outside-formed l) refl refl (omega (arith, w)) (one_slice [] no_slice);
    }
laws bytes entry a exit (in_grammar {ts} {t} k r) =
    let s = k.short in
    let b = records_bounded r.lexed r.parsed in
    let n : length_needed t < 2 ^ 32 = omega (arith, s, b) in
    record {
      checks = check 13 none ∷ text_call_checks t (length entry);
      done = length_needed t;
      are_checks = checks_inside k r;
      laws =
          standard-laws (inside-formed k r) refl refl
          (first-place (text_call_checks t (length entry)) (length_needed t) (
            λ p e. let w = names-within r.lexed r.parsed p e in omega (arith, s, w),
            λ _. (
              λ p e. let w = constants-within r.lexed r.parsed p e in omega (arith, s, w),
              λ _. (λ p e. let w = when-some (lacks_room t (length entry)) (length_needed t) p e in omega (arith, n, w), λ _. n),
            ),
          ))
          (one_slice (sheet_of_text t ++ replicate (length entry - length_needed t) 0) no_slice);
    }

take-first : (xs ys : List ℕ) → take (length xs) (xs ++ ys) ≡ xs
take-first [] ys = refl
take-first (x ∷ xs) ys = ap (λ l. x ∷ l) (take-first xs ys)

drop-first : (xs ys : List ℕ) → drop (length xs) (xs ++ ys) ≡ ys
drop-first [] ys = refl
drop-first (x ∷ xs) ys = drop-first xs ys

sheet_long : (rs : List Record) → length (sheet_of rs) ≡ 12 * length rs
sheet_long [] = refl
sheet_long (words kind next a b c d ∷ rs) = let e = sheet_long rs in omega arith

fewer : (m n k : ℕ) → cond (ltb m n) true (ltb 4096 k) ≡ false → k ≤ 4096
fewer m n k e = go (ltb m n) e
  where
    last : ltb 4096 k ≡ false → k ≤ 4096
    last f = nltb→le 4096 k (subst (λ b. T (not b)) (sym f) tt)

    go : (b : Bool) → cond b true (ltb 4096 k) ≡ false → k ≤ 4096
    go true f = let z : ◌≡◌ {A = ℕ} 0 1 = cc in absurd (omega arith)
    go false f = last f

roomy : (m n : ℕ) (c : Bool) → cond (ltb m n) true c ≡ false → n ≤ m
roomy m n c e = go (ltb m n) refl e
  where
    go : (b : Bool) → ltb m n ≡ b → cond b true c ≡ false → n ≤ m
    go true f e = let z : ◌≡◌ {A = ℕ} 0 1 = cc in absurd (omega arith)
    go false f e = nltb→le m n (subst (λ b. T (not b)) (sym f) tt)

done-is : (t : Text) (room n : ℕ) → text_answer t room ≡ Done n → SaysOf (text_call_checks t room) (length_needed t) (Done n)
done-is t room n e = (first t room (Done n)).0 e

wrote : {bytes entry : List ℕ} {n : ℕ} (ts : List Token) (t : Text) → Reading bytes ts t → text_answer t (length entry) ≡ Done n
    → WroteSheet bytes entry n (final_sheet t entry)
unfolding final_sheet sheet_of_text
wrote {entry} {n} ts t r e =
    let s = done-is t (length entry) n e in
    let good : AllPass (text_checks t) = both-pass (none-bad (name_checks t) s.0.0) (none-bad (constants_of_text t) s.0.1.0) in
    let m : n ≡ length_needed t = s.1 in
    let fits : length_needed t ≤ length entry = roomy (length entry) (length_needed t) (ltb 4096 (records_needed t)) (when-none (lacks_room t (length entry)) (length_needed t) s.0.1.1.0) in
    let long : length_needed t ≡ length (sheet_of_text t) =
    ap (λ k. 12 * k) (sym ((Translation.kept).as_many_records ts t r.parsed good)) ∙ sym (sheet_long (text_records t)) in
    let x : final_sheet t entry ≡ sheet_of_text t ++ replicate (length entry - length_needed t) 0 =
    ap (λ a. when_done a (sheet_of_text t ++ replicate (length entry - length_needed t) 0) entry) e in
    record {
      tokens = ts;
      source = t;
      reading = r;
      good = good;
      needed = m;
      fits = omega (arith, m, fits);
      few =
          let k = fewer (length entry) (length_needed t) (records_needed t) (when-none (lacks_room t (length entry)) (length_needed t) s.0.1.1.0) in
          omega (arith, m, k);
      as_long =
          ap length x ∙ length-append (sheet_of_text t) _
          ∙ (let z = length-replicate {A = ℕ} (length entry - length_needed t) 0 in let y = sym long in omega (arith, y, z, fits));
      sheet = ap (λ k. take k (final_sheet t entry)) (m ∙ long) ∙ ap (λ l. take (length (sheet_of_text t)) l) x ∙ take-first (sheet_of_text t) _;
      zeros =
          ap (λ k. drop k (final_sheet t entry)) (m ∙ long) ∙ ap (λ l. drop (length (sheet_of_text t)) l) x ∙ drop-first (sheet_of_text t) _
          ∙ ap (λ k. replicate (length entry - k) 0) (sym m);
    }

writes : WritesSheet
writes bytes entry n exit h = go (Done n) exit h refl
  where
    go : (a : Answer) (exit : List ℕ) → Translated bytes entry a exit → a ≡ Done n → WroteSheet bytes entry n exit
    go a exit (outside_grammar l) e = let z : ◌≡◌ {A = ℕ} 0 1 = cc in absurd (omega arith)
    go a exit (in_grammar {ts} {t} k r) e = wrote ts t r e

pub kept : TranslatorPromises
kept =
    record {
      every_translated = every;
      one_translation = one;
      first_that_applies = first;
      translation_laws = laws;
      writes_sheet = writes;
    }
