-- What is promised of the translation: each promise a named type, and at the end the list of them. One term of each stands in
-- `proofs/Kept.antt`.
use Rattle.std.specs.Prelude.{ℕ, ◌-◌, ◌≤◌, ◌≡◌, ◌↔◌, List, [], ◌∷◌, length, take, drop, replicate}
use Rattle.answers.specs.Answers.{Answer, Done, Check, SaysOf}
use Rattle.answers.specs.StandardLaws.{lent_slice, StandardLaws}
use Rattle.grammar.specs.Tokens.{Token}
use Rattle.grammar.specs.Source.{Text}
use Rattle.grammar.specs.Legal.{Reading}
use Rattle.name_rules.specs.Checks.{AllPass}
use Rattle.name_rules.specs.Names.{text_checks}
use Rattle.layout.specs.Layout.{sheet_of_text}
use Rattle.translator.specs.Translated.{length_needed, text_call_checks, text_answer, Translated, TranslationChecks, TranslationFormed}

-- 1. Every call is answered, and in one way.
abbrev pub EveryTranslated : Type 0
EveryTranslated = (bytes entry : List ℕ) → (a : Answer) × (exit : List ℕ) × Translated bytes entry a exit

abbrev pub OneTranslation : Type 0
OneTranslation =
    (bytes entry : List ℕ) (a b : Answer) (x y : List ℕ) → Translated bytes entry a x → Translated bytes entry b y → (a ≡ b) × (x ≡ y)

-- 2. Of a text in the grammar the answer is that of the first check that applies, and no other is.
abbrev pub TextFirstThatApplies : Type 0
TextFirstThatApplies =
    (t : Text) (room : ℕ) (a : Answer) → text_answer t room ≡ a ↔ SaysOf (text_call_checks t room) (length_needed t) a

-- 3. What every call promises (`StandardLaws` of `answers`), whatever the call gave.
pub record TranslationLawful (bytes entry : List ℕ) (a : Answer) (exit : List ℕ) : Type 0 where
  pub checks : List Check
  pub done : ℕ
  pub are_checks : TranslationChecks bytes (length entry) checks done
  pub laws : StandardLaws checks (TranslationFormed bytes (length entry)) done a (lent_slice entry exit ∷ [])

abbrev pub TranslationLaws : Type 0
TranslationLaws =
    (bytes entry : List ℕ) (a : Answer) (exit : List ℕ) → Translated bytes entry a exit → TranslationLawful bytes entry a exit

-- 4. Where the call gives 0 with length n, the names and constants of the text are good, the first n bytes are its sheet, at most as many as
-- the slice has and as a sheet may have, and after them are zeros.
pub record WroteSheet (bytes entry : List ℕ) (n : ℕ) (exit : List ℕ) : Type 0 where
  pub tokens : List Token
  pub source : Text
  pub reading : Reading bytes tokens source
  pub good : AllPass (text_checks source)
  pub needed : n ≡ length_needed source
  pub fits : n ≤ length entry
  pub few : n ≤ 49152
  pub as_long : length exit ≡ length entry
  pub sheet : take n exit ≡ sheet_of_text source
  pub zeros : drop n exit ≡ replicate (length entry - n) 0

abbrev pub WritesSheet : Type 0
WritesSheet = (bytes entry : List ℕ) (n : ℕ) (exit : List ℕ) → Translated bytes entry (Done n) exit → WroteSheet bytes entry n exit

-- all of them
pub record TranslatorPromises : Type 0 where
  pub every_translated : EveryTranslated
  pub one_translation : OneTranslation
  pub first_that_applies : TextFirstThatApplies
  pub translation_laws : TranslationLaws
  pub writes_sheet : WritesSheet
