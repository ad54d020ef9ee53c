-- The machine that reads a text byte by byte: a state, a stack of the states that wait, and what is left of the word that is being read.
-- The state changes with a token's first byte: from there on the word alone says which letters may still come.
use Rattle.std.specs.Prelude.{ℕ, ◌+◌, Bool, true, false, cond, List, [], ◌∷◌, eqb, ltb}
use Rattle.std.proofs.Math.Option.{Option, none, some}
use Rattle.grammar.specs.Tokens.{Keyword, TYPE, IN, INPUT, LET, INIT, REC, IF, MATCHES, THEN, ELSE, DELAY, spelling}
use Rattle.grammar.specs.Tokens.{Symbol, opens, closes, comma, equals, bar, query, index_opens, index_closes, one, two}
use Rattle.grammar.specs.Tokens.{ByteClass, is_blank, is_lower, is_upper, is_other, is_symbol, between, byte_class, Token, keyword, symbol, name_token}
use Rattle.grammar.specs.Rows.{State, start, done, state_number, Lead, a_symbol, a_keyword, a_name, Action, go, call, return, Transition, on, transitions}

-- the rest of a word: no word, a name of so many letters so far, the letters of a keyword that are still to come
pub data WordLeft : Type 0 where
  no_word : WordLeft
  in_name : (letters : ℕ) → WordLeft
  spelt : (left : List ℕ) → WordLeft

pub data Config : Type 0 where
  dead : Config
  live : State → List State → WordLeft → Config

abbrev pub symbol_byte : Symbol → ℕ
symbol_byte opens = 40
symbol_byte closes = 41
symbol_byte comma = 44
symbol_byte equals = 61
symbol_byte bar = 124
symbol_byte query = 63
symbol_byte index_opens = 91
symbol_byte index_closes = 93
symbol_byte one = 49
symbol_byte two = 50

abbrev pub first_letter : List ℕ → ℕ
first_letter [] = 0
first_letter (b ∷ bs) = b

abbrev pub after_first : List ℕ → List ℕ
after_first [] = []
after_first (b ∷ bs) = bs

-- the byte that a token begins with; of a name's first letters, which are alike, the first of the alphabet
abbrev pub lead_byte : Lead → ℕ
lead_byte (a_symbol s) = symbol_byte s
lead_byte (a_keyword k) = first_letter (spelling k)
lead_byte a_name = 97

abbrev pub lead_word : Lead → WordLeft
lead_word (a_symbol s) = no_word
lead_word (a_keyword k) = spelt (after_first (spelling k))
lead_word a_name = in_name 1

-- the letters that begin a name are alike
abbrev pub alike : ℕ → ℕ
alike b = cond (between 97 122 b) 97 b

abbrev pub find : ℕ → List Transition → Option Transition
find b [] = none
find b (on l a ∷ more) = cond (eqb b (lead_byte l)) (some (on l a)) (find b more)

-- back to the state that waits on the stack; under the last one the text's expression is complete
abbrev pub back : List State → WordLeft → Config
back [] w = live done [] w
back (q ∷ K) w = live q K w

abbrev pub perform : Action → List State → WordLeft → Config
perform (go q) K w = live q K w
perform (call r q) K w = live q (r ∷ K) w
perform return K w = back K w

abbrev pub perform_found : Option Transition → List State → Config
perform_found none K = dead
perform_found (some (on l a)) K = perform a K (lead_word l)

-- a byte that begins a token
abbrev pub begin_token : ℕ → State → List State → Config
begin_token b q K = perform_found (find (alike b) (transitions q)) K

-- a byte where no word is begun
abbrev pub fresh : ByteClass → ℕ → State → List State → Config
fresh is_lower b q K = begin_token b q K
fresh is_upper b q K = begin_token b q K
fresh (is_symbol s) b q K = begin_token b q K
fresh is_blank b q K = live q K no_word
fresh is_other b q K = dead

-- a byte after a word that can end there, or go on with a small letter
abbrev pub further : ByteClass → Config → ℕ → State → List State → Config
further is_lower c b q K = c
further is_upper c b q K = dead
further (is_symbol s) c b q K = begin_token b q K
further is_blank c b q K = live q K no_word
further is_other c b q K = dead

abbrev pub on_byte : ℕ → State → List State → WordLeft → Config
on_byte b q K no_word = fresh (byte_class b) b q K
on_byte b q K (in_name n) = further (byte_class b) (cond (ltb n 16) (live q K (in_name (n + 1))) dead) b q K
on_byte b q K (spelt []) = further (byte_class b) dead b q K
on_byte b q K (spelt (c ∷ left)) = cond (eqb b c) (live q K (spelt left)) dead

-- whether a word can end here
abbrev pub can_end : WordLeft → Bool
can_end no_word = true
can_end (in_name n) = true
can_end (spelt []) = true
can_end (spelt (c ∷ left)) = false

abbrev pub after_bytes : Config → List ℕ → Config
after_bytes c [] = c
after_bytes dead (b ∷ bs) = dead
after_bytes (live q K w) (b ∷ bs) = after_bytes (on_byte b q K w) bs

-- the machine has read a whole text
abbrev pub ends : Config → Bool
ends dead = false
ends (live q K w) = cond (can_end w) (eqb (state_number q) 16) false

abbrev pub begins : Config
begins = live start [] no_word

-- the machine on tokens: on a token it does what it does on the token's bytes
abbrev pub lead_of : Token → Lead
lead_of (keyword k p) = a_keyword k
lead_of (symbol s p) = a_symbol s
lead_of (name_token w p) = a_name

abbrev pub keyword_number : Keyword → ℕ
keyword_number TYPE = 128
keyword_number IN = 129
keyword_number INPUT = 130
keyword_number LET = 131
keyword_number INIT = 132
keyword_number REC = 133
keyword_number IF = 134
keyword_number MATCHES = 135
keyword_number THEN = 136
keyword_number ELSE = 137
keyword_number DELAY = 138

abbrev pub lead_number : Lead → ℕ
lead_number (a_symbol s) = symbol_byte s
lead_number (a_keyword k) = keyword_number k
lead_number a_name = 97

abbrev pub taken : Lead → List State → Option Transition → Config
taken t K none = dead
taken t K (some (on l a)) = cond (eqb (lead_number t) (lead_number l)) (perform a K no_word) dead

abbrev pub on_token : Token → State → List State → Config
on_token t q K = taken (lead_of t) K (find (lead_byte (lead_of t)) (transitions q))

abbrev pub after_tokens : Config → List Token → Config
after_tokens c [] = c
after_tokens dead (t ∷ ts) = dead
after_tokens (live q K w) (t ∷ ts) = after_tokens (on_token t q K) ts
