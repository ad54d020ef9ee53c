-- What is promised of the names and constants of a text (code 14). One term of each promise stands in `proofs/Kept.antt`.
use Rattle.std.specs.Prelude.{ℕ, ◌*◌, ◌≤◌, ◌<◌, ◌≡◌, ◌⊎◌, ◌↔◌, Bool, true, false, cond, List, [], ◌∷◌, length}
use Rattle.grammar.specs.Tokens.{Keyword, TYPE, IN, INPUT, LET, INIT, REC, IF, MATCHES, THEN, ELSE, DELAY}
use Rattle.grammar.specs.Tokens.{Symbol, opens, closes, comma, equals, bar, query, index_opens, index_closes, one, two}
use Rattle.grammar.specs.Tokens.{Token, keyword, symbol, name_token}
use Rattle.grammar.specs.Source.{Text}
use Rattle.grammar.specs.Grammar.{ReadsText}
use Rattle.grammar.specs.Legal.{Reading}
use Rattle.name_rules.specs.Declared.{same_name}
use Rattle.name_rules.specs.Checks.{AllPass, FirstFails, check_places}
use Rattle.name_rules.specs.Constants.{constants_of_text}
use Rattle.name_rules.specs.RecordsNeeded.{records_needed}
use Rattle.name_rules.specs.Names.{name_checks, text_checks}

-- 1. All checks of a text hold, or one fails that all before it hold; never both, and at one place.
abbrev pub HoldOrFail : Type 0
HoldOrFail = (t : Text) → AllPass (text_checks t) ⊎ ((p : ℕ) × FirstFails (text_checks t) p)

abbrev pub NotBoth : Type 0
NotBoth = (t : Text) (p : ℕ) → FirstFails (text_checks t) p → AllPass (text_checks t) → ⊥

abbrev pub OneBadPlace : Type 0
OneBadPlace = (t : Text) (p q : ℕ) → FirstFails (text_checks t) p → FirstFails (text_checks t) q → p ≡ q

-- the places of the names of a text
abbrev pub name_places : List Token → List ℕ
name_places [] = []
name_places (keyword k p ∷ ts) = name_places ts
name_places (symbol s p ∷ ts) = name_places ts
name_places (name_token w p ∷ ts) = p ∷ name_places ts

pub data Increasing : List ℕ → Type 0 where
  increasing_none : Increasing []
  increasing_one : {p : ℕ} → Increasing (p ∷ [])
  increasing_more : {p q : ℕ} {ps : List ℕ} → p < q → Increasing (q ∷ ps) → Increasing (p ∷ q ∷ ps)

-- 2. Each name of a text is checked once, in text order.
abbrev pub EachNameOnce : Type 0
EachNameOnce = (ts : List Token) (t : Text) → ReadsText ts t → check_places (name_checks t) ≡ name_places ts

abbrev pub InTextOrder : Type 0
InTextOrder = (bytes : List ℕ) (ts : List Token) (t : Text) → Reading bytes ts t → Increasing (check_places (name_checks t))

-- where a constant stands among tokens: after DELAY and a bracket
pub data DelayPhase : Type 0 where
  before_delay bracket_next constant_next : DelayPhase

abbrev pub after_keyword : Keyword → DelayPhase
after_keyword TYPE = before_delay
after_keyword IN = before_delay
after_keyword INPUT = before_delay
after_keyword LET = before_delay
after_keyword INIT = before_delay
after_keyword REC = before_delay
after_keyword IF = before_delay
after_keyword MATCHES = before_delay
after_keyword THEN = before_delay
after_keyword ELSE = before_delay
after_keyword DELAY = bracket_next

abbrev pub is_query : Symbol → Bool
is_query opens = false
is_query closes = false
is_query comma = false
is_query equals = false
is_query bar = false
is_query query = true
is_query index_opens = false
is_query index_closes = false
is_query one = false
is_query two = false

-- the places of the constants of DELAYs: of a pair its first byte, of another its name's
abbrev pub constant_places : DelayPhase → List Token → List ℕ
constant_places before_delay [] = []
constant_places before_delay (keyword k p ∷ ts) = constant_places (after_keyword k) ts
constant_places before_delay (symbol s p ∷ ts) = constant_places before_delay ts
constant_places before_delay (name_token w p ∷ ts) = constant_places before_delay ts
constant_places bracket_next [] = []
constant_places bracket_next (t ∷ ts) = constant_places constant_next ts
constant_places constant_next [] = []
constant_places constant_next (keyword k p ∷ ts) = constant_places before_delay ts
constant_places constant_next (symbol s p ∷ ts) = cond (is_query s) (constant_places constant_next ts) (p ∷ constant_places before_delay ts)
constant_places constant_next (name_token w p ∷ ts) = p ∷ constant_places before_delay ts

-- 3. Each constant of a DELAY is checked once, in text order; so the first constant pair without a type is the first in the text.
abbrev pub EachConstantOnce : Type 0
EachConstantOnce = (ts : List Token) (t : Text) → ReadsText ts t → check_places (constants_of_text t) ≡ constant_places before_delay ts

abbrev pub ConstantsInTextOrder : Type 0
ConstantsInTextOrder =
    (bytes : List ℕ) (ts : List Token) (t : Text) → Reading bytes ts t → Increasing (check_places (constants_of_text t))

-- 4. A text needs at most 65 records a byte; so within the limit the length needed, 12 bytes a record, is below 2^26.
abbrev pub RecordsBounded : Type 0
RecordsBounded = (bytes : List ℕ) (ts : List Token) (t : Text) → Reading bytes ts t → records_needed t ≤ 65 * length bytes

-- 5. Two names are the same exactly where they have the same letters.
abbrev pub SameLetters : Type 0
SameLetters = (v w : List ℕ) → (same_name v w ≡ true) ↔ (v ≡ w)

pub record NamingPromises : Type 0 where
  pub hold_or_fail : HoldOrFail
  pub not_both : NotBoth
  pub one_bad_place : OneBadPlace
  pub each_name_once : EachNameOnce
  pub in_text_order : InTextOrder
  pub each_constant_once : EachConstantOnce
  pub constants_in_text_order : ConstantsInTextOrder
  pub records_bounded : RecordsBounded
  pub same_letters : SameLetters
