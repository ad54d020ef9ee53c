-- The machine of `grammar` in the numbers of the code: states, words, the stack as a table, and the tables that the code is lent.
use Rattle.std.specs.Prelude.{ℕ, zero, suc, ◌+◌, ◌-◌, ◌≤◌, ◌<◌, ◌≡◌, Bool, cond, List, [], ◌∷◌, ◌++◌, map, length, get_or, drop, replicate, eqb, ltb, leb}
use Rattle.std.specs.Prelude.{Option as Found, Some, None}
use Rattle.std.proofs.Math.Option.{Option, none, some}
use Rattle.grammar.specs.Sizes.{text_table}
use Rattle.grammar.specs.Tokens.{Keyword, TYPE, IN, INPUT, LET, INIT, REC, IF, MATCHES, THEN, ELSE, DELAY}
use Rattle.grammar.specs.Tokens.{Symbol, opens, closes, comma, equals, bar, query, index_opens, index_closes, one, two}
use Rattle.grammar.specs.Tokens.{ByteClass, is_blank, is_lower, is_upper, is_other, is_symbol, byte_class}
use Rattle.grammar.specs.Rows.{State, start, state_number, states, Lead, a_symbol, a_keyword, a_name, Action, go, call, return, Transition, on, transitions}
use Rattle.grammar.specs.Machine.{WordLeft, no_word, in_name, spelt, Config, dead, live, back, perform_found, find}

-- the answer of the code
abbrev pub illegal : Found ℕ → Option ℕ
illegal (Some i) = some i
illegal None = none

abbrev pub state_of : ℕ → State
state_of n = get_or states n start

-- the stack that the first n entries of a table are, the last on top
abbrev pub stack_of : ℕ → List ℕ → List State
stack_of zero s = []
stack_of (suc n) s = state_of (get_or s n 0) ∷ stack_of n s

-- what a stack in a table keeps: it has room for its depth, and what waits are states
pub record Waiting (depth : ℕ) (stack : List ℕ) : Type 0 where
  pub fits : depth ≤ text_table
  pub long : length stack ≡ text_table
  pub waiting : (k : ℕ) → k < depth → get_or stack k 0 < 47

-- the state on top of the states that wait, by its number, if one waits
abbrev pub Topped : List State → Found ℕ → Type 0
Topped K None = K ≡ []
Topped K (Some s) = (rest : List State) × (K ≡ state_of s ∷ rest) × (s < 47)

-- and what waits without it
abbrev pub Popped : List State → Found ℕ → List State → Type 0
Popped K None rest = (K ≡ []) × (rest ≡ [])
Popped K (Some s) rest = (K ≡ state_of s ∷ rest) × (s < 47)

-- the letters of the keywords after their first, each keyword's end a 0
abbrev pub keyword_letters : List ℕ
keyword_letters =
    89 ∷ 80 ∷ 69 ∷ 0
    ∷ 78 ∷ 0
    ∷ 78 ∷ 80 ∷ 85 ∷ 84 ∷ 0
    ∷ 69 ∷ 84 ∷ 0
    ∷ 78 ∷ 73 ∷ 84 ∷ 0
    ∷ 69 ∷ 67 ∷ 0
    ∷ 70 ∷ 0
    ∷ 65 ∷ 84 ∷ 67 ∷ 72 ∷ 69 ∷ 83 ∷ 0
    ∷ 72 ∷ 69 ∷ 78 ∷ 0
    ∷ 76 ∷ 83 ∷ 69 ∷ 0
    ∷ 69 ∷ 76 ∷ 65 ∷ 89 ∷ 0 ∷ []

-- by a word's number the letter that it awaits: 0 is no word and 1 to 16 are names, by their letters so far
abbrev pub letter_table : List ℕ
letter_table = replicate 17 0 ++ keyword_letters

abbrev pub until_zero : List ℕ → List ℕ
until_zero [] = []
until_zero (c ∷ more) = cond (eqb c 0) [] (c ∷ until_zero more)

abbrev pub word_of : ℕ → WordLeft
word_of n = cond (eqb n 0) no_word (cond (ltb n 17) (in_name n) (spelt (until_zero (drop n letter_table))))

abbrev pub keyword_word : Keyword → ℕ
keyword_word TYPE = 17
keyword_word IN = 21
keyword_word INPUT = 23
keyword_word LET = 28
keyword_word INIT = 31
keyword_word REC = 35
keyword_word IF = 38
keyword_word MATCHES = 40
keyword_word THEN = 47
keyword_word ELSE = 51
keyword_word DELAY = 55

abbrev pub word_of_lead : Lead → ℕ
word_of_lead (a_symbol s) = 0
word_of_lead (a_keyword k) = keyword_word k
word_of_lead a_name = 1

-- a row in three numbers: the next state and one, 48 to go back, or 0 for no row; the state that waits and one, or 0; the word
abbrev pub next_number : Action → ℕ
next_number (go q) = state_number q + 1
next_number (call r q) = state_number q + 1
next_number return = 48

abbrev pub waits_number : Action → ℕ
waits_number (go q) = 0
waits_number (call r q) = state_number r + 1
waits_number return = 0

abbrev pub row_next : Option Transition → ℕ
row_next none = 0
row_next (some (on l a)) = next_number a

abbrev pub row_waits : Option Transition → ℕ
row_waits none = 0
row_waits (some (on l a)) = waits_number a

abbrev pub row_word : Option Transition → ℕ
row_word none = 0
row_word (some (on l a)) = word_of_lead l

-- what a row's numbers say to do
abbrev pub follows : (next waits word : ℕ) → List State → Config
follows next waits word K =
    cond (eqb next 0) dead
    (cond (eqb next 48) (back K (word_of word))
    (cond (eqb waits 0) (live (state_of (next - 1)) K (word_of word))
    (live (state_of (next - 1)) (state_of (waits - 1) ∷ K) (word_of word))))

-- the capitals that keywords begin with
abbrev pub capitals : List ℕ
capitals = 84 ∷ 73 ∷ 76 ∷ 82 ∷ 77 ∷ 69 ∷ 68 ∷ []

abbrev pub position : ℕ → List ℕ → ℕ
position b [] = 0
position b (c ∷ more) = cond (eqb b c) 0 (suc (position b more))

abbrev pub symbol_class : Symbol → ℕ
symbol_class opens = 0
symbol_class closes = 1
symbol_class comma = 2
symbol_class equals = 3
symbol_class bar = 4
symbol_class query = 5
symbol_class index_opens = 6
symbol_class index_closes = 7
symbol_class one = 8
symbol_class two = 9

-- the class of a byte: 0 to 9 the symbols, 10 a small letter, 11 to 17 the capitals that keywords begin with, 18 the other ones, 19 a blank,
-- 20 any other byte
abbrev pub class_number : ByteClass → ℕ → ℕ
class_number (is_symbol s) b = symbol_class s
class_number is_lower b = 10
class_number is_upper b = 11 + position b capitals
class_number is_blank b = 19
class_number is_other b = 20

abbrev pub class_of : ℕ → ℕ
class_of b = class_number (byte_class b) b

-- for each class that a token can begin with a byte of it
abbrev pub lead_bytes : List ℕ
lead_bytes = 40 ∷ 41 ∷ 44 ∷ 61 ∷ 124 ∷ 63 ∷ 91 ∷ 93 ∷ 49 ∷ 50 ∷ 97 ∷ 84 ∷ 73 ∷ 76 ∷ 82 ∷ 77 ∷ 69 ∷ 68 ∷ []

-- a row of a table for each state
abbrev pub table_of : (Option Transition → ℕ) → List (List ℕ)
table_of f = map (λ q. map (λ b. f (find b (transitions q))) lead_bytes) states

unfoldable pub next_table : List (List ℕ)
next_table = table_of row_next

unfoldable pub waits_table : List (List ℕ)
waits_table = table_of row_waits

unfoldable pub word_table : List (List ℕ)
word_table = table_of row_word

-- a byte of a class, where the word can end
abbrev pub after_lead : ℕ → State → List State → Config
after_lead c q K = perform_found (find (get_or lead_bytes c 0) (transitions q)) K

abbrev pub lettered : ℕ → State → List State → ℕ → Config
lettered c q K w = cond (eqb c 10) (cond (ltb w 16) (live q K (word_of (w + 1))) dead) dead

abbrev pub after_byte_class : ℕ → State → List State → Config
after_byte_class c q K = cond (leb 18 c) dead (after_lead c q K)

abbrev pub followed : ℕ → State → List State → ℕ → Config
followed c q K w =
    cond (eqb c 19) (live q K no_word) (cond (eqb w 0) (after_byte_class c q K) (cond (leb 10 c) (lettered c q K w) (after_byte_class c q K)))

-- where the machine stands in a text: its state, the states that wait, the last first, and what is left of the word that is being read
pub record Standing : Type 0 where
  pub state : State
  pub waiting : List State
  pub word : WordLeft

abbrev pub standing : State → List State → WordLeft → Standing
standing q K w = record { state = q; waiting = K; word = w }

abbrev pub live_at : Standing → Config
live_at p = live p.state p.waiting p.word

-- a step from where the machine stood gives c: it is refused, or the machine stands where c says
pub record Stepped (c : Config) (old : Standing) (ok : Bool) (new : Standing) : Type 0 where
  pub stepped : c ≡ cond ok (live_at new) dead
  pub higher : length new.waiting ≤ length old.waiting + 1

-- the tables of the code
pub record Tables (nexts waits words : List (List ℕ)) : Type 0 where
  pub nexts_right : nexts ≡ next_table
  pub waits_right : waits ≡ waits_table
  pub words_right : words ≡ word_table
