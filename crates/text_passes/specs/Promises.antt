-- What is promised of the sheet of a text before the check: for every text that is read, whose
-- names and constants are good and whose sheet has at most 4,096 records. One term of each promise
-- stands in `proofs/Kept.antt`.
use Rattle.std.specs.Prelude.{ℕ, suc, ◌-◌, ◌≤◌, ◌<◌, ◌≡◌, ◌≢◌, ◌⊎◌, ◌↔◌, false, List, length}
use Rattle.std.proofs.Math.Option.{none, some}
use Rattle.records.specs.Words.{count, next_word, word_b}
use Rattle.records.specs.Says.{namings}
use Rattle.records.specs.Trees.{type_at}
use Rattle.answers.specs.Answers.{code, verdict_answer}
use Rattle.answers.specs.Promises.{LowestBreaking}
use Rattle.answers.specs.Answers.{Accepted, WrongRecord, WrongType, TooDeep, IllTyped}
use Rattle.verdict.specs.Verdict.{verdict}
use Rattle.grammar.specs.Tokens.{Token}
use Rattle.grammar.specs.Source.{Declaration, Text}
use Rattle.grammar.specs.Grammar.{ReadsText}
use Rattle.name_rules.specs.Checks.{PlacedCheck, AllPass, FirstFails, first_bad_place}
use Rattle.name_rules.specs.Constants.{constants_of_text}
use Rattle.name_rules.specs.Names.{name_checks, text_checks}
use Rattle.name_rules.specs.RecordsNeeded.{records_needed}
use Rattle.layout.specs.Resolved.{type_meant, type_number}
use Rattle.layout.specs.Layout.{sheet_of_text}
use Rattle.layout.specs.Promises.{types_of}
use Rattle.text_meaning.specs.Promises.{declarations}
use Rattle.text_passes.specs.RefusedTypes.{declaration_at, over_counted, refused_pair}
use Rattle.text_passes.specs.DelayConstants.{UntypedPair}
use Rattle.text_passes.specs.RecordWalk.{record_walk, numbers_from}
use Rattle.text_passes.specs.TextDepths.{text_expressions, first_too_deep}
use Rattle.text_passes.specs.NamedTypes.{type_name_of, NameTypedText}

-- a text that is read, with good names and constants, whose sheet fits
pub record FittingText (ts : List Token) (t : Text) : Type 0 where
  pub read : ReadsText ts t
  pub good : AllPass (text_checks t)
  pub few : records_needed t ≤ 4096

-- 1. The check never answers 1, 2 or 4.
abbrev pub NeverAnswered : Type 0
NeverAnswered =
    (ts : List Token) (t : Text) → FittingText ts t
    → (code (verdict_answer (verdict (sheet_of_text t))) ≢ 1)
    × (code (verdict_answer (verdict (sheet_of_text t))) ≢ 2)
    × (code (verdict_answer (verdict (sheet_of_text t))) ≢ 4)

-- 2. It answers 3 exactly where a flat type has more than 255 constructors, at the record of the
-- first such type.
abbrev pub AnsweredThree : Type 0
AnsweredThree =
    (ts : List Token) (t : Text) → FittingText ts t → (r : ℕ)
    → verdict (sheet_of_text t) ≡ WrongRecord r ↔ LowestBreaking (over_counted (declarations t)) (suc (length (declarations t))) r

-- 3. It answers 5 exactly where no flat type has more, and a pair type has the parts of a lower one
-- or more than 64 leaves, at the record of the first such type.
abbrev pub AnsweredFive : Type 0
AnsweredFive =
    (ts : List Token) (t : Text) → FittingText ts t → (r : ℕ)
    → verdict (sheet_of_text t) ≡ WrongType r
    ↔ (((i : ℕ) → over_counted (declarations t) i ≡ false) × LowestBreaking (refused_pair (declarations t)) (suc (length (declarations t))) r)

-- 4. It answers 6 exactly where neither holds, and an expression lies deeper than 64 or in more
-- than three feedbacks' defining parts, at the record of the first such expression.
abbrev pub AnsweredSix : Type 0
AnsweredSix =
    (ts : List Token) (t : Text) → FittingText ts t → (r : ℕ)
    → verdict (sheet_of_text t) ≡ TooDeep r
    ↔ (((i : ℕ) → over_counted (declarations t) i ≡ false)
    × ((i : ℕ) → refused_pair (declarations t) i ≡ false)
    × (first_too_deep (text_expressions t) ≡ some r))

-- 5. It accepts the sheet with output type τ exactly where none of these applies and the text is
-- well typed over its names, with the type of declaration τ. So 7 is left for the texts that are
-- not.
abbrev pub AcceptedExactly : Type 0
AcceptedExactly =
    (ts : List Token) (t : Text) → FittingText ts t → (τ : ℕ)
    → verdict (sheet_of_text t) ≡ Accepted τ
    ↔ (((i : ℕ) → over_counted (declarations t) i ≡ false)
    × ((i : ℕ) → refused_pair (declarations t) i ≡ false)
    × (first_too_deep (text_expressions t) ≡ none)
    × NameTypedText t τ)

-- 6. And it answers 7, at some record, exactly where none of these applies and the text is not well
-- typed.
abbrev pub AnsweredSeven : Type 0
AnsweredSeven =
    (ts : List Token) (t : Text) → FittingText ts t
    → ((r : ℕ) × (verdict (sheet_of_text t) ≡ IllTyped r))
    ↔ (((i : ℕ) → over_counted (declarations t) i ≡ false)
    × ((i : ℕ) → refused_pair (declarations t) i ≡ false)
    × (first_too_deep (text_expressions t) ≡ none)
    × ((τ : ℕ) → NameTypedText t τ → ⊥))

-- 7. Each record but the header is named by exactly one word.
abbrev pub EachNamedOnce : Type 0
EachNamedOnce =
    (ts : List Token) (t : Text) → ReadsText ts t → AllPass (text_checks t)
    → (r : ℕ) → 0 < r → r < count (sheet_of_text t) → length (namings (sheet_of_text t) r) ≡ 1

-- record τ is that of a declared type: it has the number of the declaration, and the name that is
-- declared stands for its type
pub record TypeDeclared (t : Text) (τ : ℕ) : Type 0 where
  pub declared : Declaration
  pub at : declaration_at (declarations t) τ ≡ some declared
  pub number : type_number (types_of t) (type_name_of declared) ≡ τ
  pub type : type_at (sheet_of_text t) τ ≡ type_meant (types_of t) (type_name_of declared)

-- 8. Where the sheet is accepted, the outputs have a type that the text declares.
abbrev pub OutputDeclared : Type 0
OutputDeclared =
    (ts : List Token) (t : Text) → ReadsText ts t → AllPass (text_checks t)
    → (τ : ℕ) → verdict (sheet_of_text t) ≡ Accepted τ → TypeDeclared t τ

-- 9. Code 14: the place that the search finds is that of the first check that fails, all before it
-- holding; it finds none exactly where all hold.
abbrev pub BadPlaceExactly : Type 0
BadPlaceExactly = (cs : List PlacedCheck) (p : ℕ) → first_bad_place cs ≡ some p ↔ FirstFails cs p

abbrev pub NoBadPlace : Type 0
NoBadPlace = (cs : List PlacedCheck) → first_bad_place cs ≡ none ↔ AllPass cs

-- 10. Names before constants: the first check of a text that fails is the first of its names', or,
-- where those all hold, the first of its constants'.
abbrev pub NamesFirst : Type 0
NamesFirst =
    (t : Text) (p : ℕ)
    → FirstFails (text_checks t) p ↔ (FirstFails (name_checks t) p ⊎ (AllPass (name_checks t) × FirstFails (constants_of_text t) p))

-- 11. Where all names are good only a pair of a constant can fail, and its place is its opening
-- bracket.
abbrev pub OnlyPairsFail : Type 0
OnlyPairsFail =
    (ts : List Token) (t : Text) → ReadsText ts t → AllPass (name_checks t)
    → (p : ℕ) → FirstFails (constants_of_text t) p → UntypedPair ts t p

-- 12. The order of the records: the types stand first, and the walk from the first of them visits
-- 1, 2 and so on up to the last; the root is the record after it, and the walk from there visits it
-- and all records after it, in the order of their numbers.
pub record InOrder (t : Text) : Type 0 where
  pub first-type : next_word (sheet_of_text t) 0 ≡ 1
  pub types : record_walk (sheet_of_text t) 1 ≡ numbers_from 1 (length (declarations t))
  pub root : word_b (sheet_of_text t) 0 ≡ suc (length (declarations t))
  pub expression : record_walk (sheet_of_text t) (word_b (sheet_of_text t) 0)
      ≡ numbers_from (word_b (sheet_of_text t) 0) (count (sheet_of_text t) - word_b (sheet_of_text t) 0)

abbrev pub RecordsInOrder : Type 0
RecordsInOrder = (ts : List Token) (t : Text) → ReadsText ts t → AllPass (text_checks t) → InOrder t

pub record PassPromises : Type 0 where
  pub never_answered : NeverAnswered
  pub answered_three : AnsweredThree
  pub answered_five : AnsweredFive
  pub answered_six : AnsweredSix
  pub accepted_exactly : AcceptedExactly
  pub answered_seven : AnsweredSeven
  pub named_once : EachNamedOnce
  pub output_declared : OutputDeclared
  pub bad_place_exactly : BadPlaceExactly
  pub no_bad_place : NoBadPlace
  pub names_first : NamesFirst
  pub only_pairs_fail : OnlyPairsFail
  pub records_in_order : RecordsInOrder
