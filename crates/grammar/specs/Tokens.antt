-- The tokens of a text (docs/SHEETS.md, "Grammar"): a name "is 1 to 16 lower-case letters", a keyword "is in capitals"; "A run of
-- letters is one token"; blanks "are spaces and line feeds (bytes 32 and 10)". Each token carries the place of its first byte, counted
-- from 0.
use Rattle.std.specs.Prelude.{ℕ, suc, ◌+◌, ◌≤◌, ◌≡◌, Bool, true, false, cond, List, [], ◌∷◌, length, eqb, leb}

pub data Keyword : Type 0 where
  TYPE IN INPUT LET INIT REC IF MATCHES THEN ELSE DELAY : Keyword

-- the letters of a keyword
abbrev pub spelling : Keyword → List ℕ
spelling TYPE = 84 ∷ 89 ∷ 80 ∷ 69 ∷ []
spelling IN = 73 ∷ 78 ∷ []
spelling INPUT = 73 ∷ 78 ∷ 80 ∷ 85 ∷ 84 ∷ []
spelling LET = 76 ∷ 69 ∷ 84 ∷ []
spelling INIT = 73 ∷ 78 ∷ 73 ∷ 84 ∷ []
spelling REC = 82 ∷ 69 ∷ 67 ∷ []
spelling IF = 73 ∷ 70 ∷ []
spelling MATCHES = 77 ∷ 65 ∷ 84 ∷ 67 ∷ 72 ∷ 69 ∷ 83 ∷ []
spelling THEN = 84 ∷ 72 ∷ 69 ∷ 78 ∷ []
spelling ELSE = 69 ∷ 76 ∷ 83 ∷ 69 ∷ []
spelling DELAY = 68 ∷ 69 ∷ 76 ∷ 65 ∷ 89 ∷ []

-- the tokens of one byte: ( ) , = | ? [ ] 1 2
pub data Symbol : Type 0 where
  opens closes comma equals bar query index_opens index_closes one two : Symbol

-- what a byte is
pub data ByteClass : Type 0 where
  is_blank is_lower is_upper is_other : ByteClass
  is_symbol : Symbol → ByteClass

-- a byte from the first to the last of two
abbrev pub between : ℕ → ℕ → ℕ → Bool
between first last b = cond (leb first b) (leb b last) false

-- a byte that is no letter
abbrev pub unlettered : ℕ → ByteClass
unlettered b =
    cond (eqb b 32) is_blank
    (cond (eqb b 10) is_blank
    (cond (eqb b 40) (is_symbol opens)
    (cond (eqb b 41) (is_symbol closes)
    (cond (eqb b 44) (is_symbol comma)
    (cond (eqb b 61) (is_symbol equals)
    (cond (eqb b 124) (is_symbol bar)
    (cond (eqb b 63) (is_symbol query)
    (cond (eqb b 91) (is_symbol index_opens)
    (cond (eqb b 93) (is_symbol index_closes)
    (cond (eqb b 49) (is_symbol one)
    (cond (eqb b 50) (is_symbol two)
    is_other)))))))))))

abbrev pub byte_class : ℕ → ByteClass
byte_class b = cond (between 97 122 b) is_lower (cond (between 65 90 b) is_upper (unlettered b))

abbrev pub is_letter : ByteClass → Bool
is_letter is_lower = true
is_letter is_upper = true
is_letter is_blank = false
is_letter is_other = false
is_letter (is_symbol s) = false

-- the text goes on with no letter
abbrev pub NoLetter : List ℕ → Type 0
NoLetter [] = Unit {0}
NoLetter (b ∷ bs) = is_letter (byte_class b) ≡ false

-- a token, with the place of its first byte
pub data Token : Type 0 where
  keyword : Keyword → (place : ℕ) → Token
  symbol : Symbol → (place : ℕ) → Token
  name_token : (letters : List ℕ) (place : ℕ) → Token

-- `LetterRun bs word rest`: bs begins with a run of letters, word, and rest is what follows it
pub data LetterRun : List ℕ → List ℕ → List ℕ → Type 0 where
  run_last : {b : ℕ} {rest : List ℕ} → is_letter (byte_class b) ≡ true → NoLetter rest → LetterRun (b ∷ rest) (b ∷ []) rest
  run_more : {b : ℕ} {bs word rest : List ℕ} → is_letter (byte_class b) ≡ true → LetterRun bs word rest → LetterRun (b ∷ bs) (b ∷ word) rest

pub data AllLower : List ℕ → Type 0 where
  lower_none : AllLower []
  lower_more : {b : ℕ} {bs : List ℕ} → byte_class b ≡ is_lower → AllLower bs → AllLower (b ∷ bs)

-- the token that a run of letters is: a keyword by its spelling, or a name
pub data Spells : List ℕ → ℕ → Token → Type 0 where
  spells_keyword : {word : List ℕ} {place : ℕ} {k : Keyword} → word ≡ spelling k → Spells word place (keyword k place)
  spells_name : {word : List ℕ} {place : ℕ} → AllLower word → length word ≤ 16 → Spells word place (name_token word place)

-- `Tokens i bs ts`: the bytes bs, of which the first stands at place i, have the tokens ts
pub data Tokens : ℕ → List ℕ → List Token → Type 0 where
  no_token : {i : ℕ} → Tokens i [] []
  a_blank : {i b : ℕ} {bs : List ℕ} {ts : List Token} → byte_class b ≡ is_blank → Tokens (suc i) bs ts → Tokens i (b ∷ bs) ts
  a-symbol : {i b : ℕ} {bs : List ℕ} {ts : List Token} {s : Symbol}
      → byte_class b ≡ is_symbol s → Tokens (suc i) bs ts → Tokens i (b ∷ bs) (symbol s i ∷ ts)
  a_word : {i : ℕ} {bs word rest : List ℕ} {t : Token} {ts : List Token}
      → LetterRun bs word rest → Spells word i t → Tokens (i + length word) rest ts → Tokens i bs (t ∷ ts)
