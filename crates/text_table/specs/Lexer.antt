-- The tokens of bytes, computed from the last byte to the first: a letter goes before the word that begins after it.
use Rattle.std.specs.Prelude.{ℕ, suc, cond, List, [], ◌∷◌}
use Rattle.grammar.specs.Tokens.{Keyword, TYPE, IN, INPUT, LET, INIT, REC, IF, MATCHES, THEN, ELSE, DELAY, spelling}
use Rattle.grammar.specs.Tokens.{ByteClass, is_blank, is_lower, is_upper, is_other, is_symbol, byte_class, Token, keyword, symbol, name_token}
use Rattle.name_rules.specs.Declared.{same_name}

abbrev pub keywords_in_turn : List Keyword
keywords_in_turn = TYPE ∷ IN ∷ INPUT ∷ LET ∷ INIT ∷ REC ∷ IF ∷ MATCHES ∷ THEN ∷ ELSE ∷ DELAY ∷ []

abbrev pub keyword_spelled : List Keyword → List ℕ → ℕ → Token
keyword_spelled [] w p = name_token w p
keyword_spelled (k ∷ ks) w p = cond (same_name w (spelling k)) (keyword k p) (keyword_spelled ks w p)

abbrev pub word_begun : ByteClass → List ℕ → ℕ → Token
word_begun is_lower w p = name_token w p
word_begun is_upper w p = keyword_spelled keywords_in_turn w p
word_begun is_blank w p = name_token w p
word_begun is_other w p = name_token w p
word_begun (is_symbol s) w p = name_token w p

abbrev pub word_token : List ℕ → ℕ → Token
word_token [] p = name_token [] p
word_token (b ∷ w) p = word_begun (byte_class b) (b ∷ w) p

-- what bytes begin with: the letters of a word, and the tokens after it
pub data Lexing : Type 0 where
  lexing : (word : List ℕ) → List Token → Lexing

-- a word that begins at a place, if there is one
abbrev pub word_at : ℕ → Lexing → List Token
word_at p (lexing [] ts) = ts
word_at p (lexing (b ∷ w) ts) = word_token (b ∷ w) p ∷ ts

abbrev pub with_letter : ℕ → Lexing → Lexing
with_letter b (lexing w ts) = lexing (b ∷ w) ts

abbrev pub with_byte : ByteClass → (b i : ℕ) → Lexing → Lexing
with_byte is_lower b i l = with_letter b l
with_byte is_upper b i l = with_letter b l
with_byte is_blank b i l = lexing [] (word_at (suc i) l)
with_byte is_other b i l = lexing [] (word_at (suc i) l)
with_byte (is_symbol s) b i l = lexing [] (symbol s i ∷ word_at (suc i) l)

abbrev pub lexed_from : ℕ → List ℕ → Lexing
lexed_from i [] = lexing [] []
lexed_from i (b ∷ bs) = with_byte (byte_class b) b i (lexed_from (suc i) bs)

abbrev pub tokens_in : List ℕ → List Token
tokens_in bytes = word_at 0 (lexed_from 0 bytes)
