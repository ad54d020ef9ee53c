-- What is promised of the grammar: each promise a named type, and at the end the list of them. One term of each stands in
-- `proofs/Kept.antt`. None of them names the machine: they speak of bytes, tokens, productions and continuations alone.
use Rattle.std.specs.Prelude.{ℕ, ◌≤◌, ◌<◌, ◌≡◌, ◌⊎◌, ◌↔◌, List, length, take}
use Rattle.grammar.specs.Tokens.{Token, Tokens}
use Rattle.grammar.specs.Source.{Text}
use Rattle.grammar.specs.Grammar.{ReadsText}
use Rattle.grammar.specs.Legal.{Reading, Viable, text_bytes, LeavesGrammar, Keeps}

-- 1. The grammar admits one reading: bytes have one list of tokens, tokens one abstract text.
abbrev pub OneLexing : Type 0
OneLexing = (i : ℕ) (bytes : List ℕ) (ts us : List Token) → Tokens i bytes ts → Tokens i bytes us → ts ≡ us

abbrev pub OneParsing : Type 0
OneParsing = (ts : List Token) (t u : Text) → ReadsText ts t → ReadsText ts u → t ≡ u

abbrev pub OneReading : Type 0
OneReading =
    (bytes : List ℕ) (ts us : List Token) (t u : Text) → Reading bytes ts t → Reading bytes us u → (ts ≡ us) × (t ≡ u)

-- 2. Every text keeps to the grammar or leaves it at a place; never both, and at one place only.
abbrev pub KeepsOrLeaves : Type 0
KeepsOrLeaves = (bytes : List ℕ) → Keeps bytes ⊎ ((i : ℕ) × LeavesGrammar bytes i)

abbrev pub NeverBoth : Type 0
NeverBoth = (bytes : List ℕ) (i : ℕ) → LeavesGrammar bytes i → Keeps bytes → ⊥

abbrev pub OnePlace : Type 0
OnePlace = (bytes : List ℕ) (i j : ℕ) → LeavesGrammar bytes i → LeavesGrammar bytes j → i ≡ j

-- 3. So a text is legal and within the limit exactly where it leaves the grammar nowhere.
abbrev pub NoPlace : Type 0
NoPlace = (bytes : List ℕ) → Keeps bytes ↔ ((i : ℕ) → LeavesGrammar bytes i → ⊥)

-- 4. The place is the first: up to it some continuation is legal, and past a byte's place none is.
abbrev pub LegalBefore : Type 0
LegalBefore = (bytes : List ℕ) (i k : ℕ) → LeavesGrammar bytes i → k ≤ i → Viable (take k bytes)

abbrev pub IllegalAfter : Type 0
IllegalAfter =
    (bytes : List ℕ) (i k : ℕ) → LeavesGrammar bytes i → i < length bytes → i < text_bytes → i < k → Viable (take k bytes) → ⊥

-- 5. The place lies in the text or at its end, and no further than the limit.
abbrev pub PlaceWithin : Type 0
PlaceWithin = (bytes : List ℕ) (i : ℕ) → LeavesGrammar bytes i → (i ≤ length bytes) × (i ≤ text_bytes)

pub record GrammarPromises : Type 0 where
  pub one_lexing : OneLexing
  pub one_parsing : OneParsing
  pub one_reading : OneReading
  pub keeps_or_leaves : KeepsOrLeaves
  pub never_both : NeverBoth
  pub one_place : OnePlace
  pub no_place : NoPlace
  pub legal_before : LegalBefore
  pub illegal_after : IllegalAfter
  pub place_within : PlaceWithin
