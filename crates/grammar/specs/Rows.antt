-- The rows of the machine that reads a text: for each state, what may come and what it then does. A state says what was read of the
-- production that is being read; those named `in..` are reached when the part of a production that they wait for is complete, so they are
-- what the stack holds. What may come depends on the state alone, and of one state no two tokens begin with the same byte.
use Rattle.std.specs.Prelude.{ℕ, List, [], ◌∷◌}
use Rattle.grammar.specs.Tokens.{Keyword, TYPE, IN, INPUT, LET, INIT, REC, IF, MATCHES, THEN, ELSE, DELAY}
use Rattle.grammar.specs.Tokens.{Symbol, opens, closes, comma, equals, bar, query, index_opens, index_closes, one, two}

pub data State : Type 0 where
  start declared type_name type_equals type_body constructor_end constructor_next pair_first_type pair_comma pair_second_type pair_close
      pair_in input_type expression undefined_type bracket done in_pair_first in_pair_second let_name let_equals in_let_bound in_let_body
      init_query init_type rec_word rec_name rec_equals in_rec_bound in_rec_body in_tested pattern in_matched in_pattern_first in_pattern_second
      in_then in_else delay_bracket constant in_delay_constant in_constant_first in_constant_second in_delayed delay_close index index_one
      index_two : State

-- what a token begins with, apart from the letters of a name
pub data Lead : Type 0 where
  a_symbol : Symbol → Lead
  a_keyword : Keyword → Lead
  a_name : Lead

-- go on in a state; wait in one, on the stack, and go on in another; go back to the state that waits
pub data Action : Type 0 where
  go : State → Action
  call : (waits next : State) → Action
  return : Action

pub data Transition : Type 0 where
  on : Lead → Action → Transition

abbrev pub transitions : State → List Transition
transitions start = on (a_keyword TYPE) (go type_name) ∷ []
transitions declared = on (a_keyword TYPE) (go type_name) ∷ on (a_keyword INPUT) (go input_type) ∷ []
transitions type_name = on a_name (go type_equals) ∷ []
transitions type_equals = on (a_symbol equals) (go type_body) ∷ []
transitions type_body = on a_name (go constructor_end) ∷ on (a_symbol opens) (go pair_first_type) ∷ []
transitions constructor_end = on (a_symbol bar) (go constructor_next) ∷ on (a_keyword IN) (go declared) ∷ []
transitions constructor_next = on a_name (go constructor_end) ∷ []
transitions pair_first_type = on a_name (go pair_comma) ∷ []
transitions pair_comma = on (a_symbol comma) (go pair_second_type) ∷ []
transitions pair_second_type = on a_name (go pair_close) ∷ []
transitions pair_close = on (a_symbol closes) (go pair_in) ∷ []
transitions pair_in = on (a_keyword IN) (go declared) ∷ []
transitions input_type = on a_name (go expression) ∷ []
transitions expression = on a_name return ∷ on (a_symbol query) (go undefined_type) ∷ on (a_symbol opens) (go bracket) ∷ []
transitions undefined_type = on a_name return ∷ []
transitions bracket =
    on a_name (go in_pair_first) ∷ on (a_symbol query) (call in_pair_first undefined_type) ∷ on (a_symbol opens) (call in_pair_first bracket)
    ∷ on (a_keyword LET) (go let_name) ∷ on (a_keyword IF) (call in_tested expression) ∷ on (a_keyword DELAY) (go delay_bracket) ∷ []
transitions done = on (a_symbol index_opens) (go index) ∷ []
transitions in_pair_first = on (a_symbol index_opens) (call in_pair_first index) ∷ on (a_symbol comma) (call in_pair_second expression) ∷ []
transitions in_pair_second = on (a_symbol index_opens) (call in_pair_second index) ∷ on (a_symbol closes) return ∷ []
transitions let_name = on a_name (go let_equals) ∷ on (a_keyword INIT) (go init_query) ∷ []
transitions let_equals = on (a_symbol equals) (call in_let_bound expression) ∷ []
transitions in_let_bound = on (a_symbol index_opens) (call in_let_bound index) ∷ on (a_keyword IN) (call in_let_body expression) ∷ []
transitions in_let_body = on (a_symbol index_opens) (call in_let_body index) ∷ on (a_symbol closes) return ∷ []
transitions init_query = on (a_symbol query) (go init_type) ∷ []
transitions init_type = on a_name (go rec_word) ∷ []
transitions rec_word = on (a_keyword REC) (go rec_name) ∷ []
transitions rec_name = on a_name (go rec_equals) ∷ []
transitions rec_equals = on (a_symbol equals) (call in_rec_bound expression) ∷ []
transitions in_rec_bound = on (a_symbol index_opens) (call in_rec_bound index) ∷ on (a_keyword IN) (call in_rec_body expression) ∷ []
transitions in_rec_body = on (a_symbol index_opens) (call in_rec_body index) ∷ on (a_symbol closes) return ∷ []
transitions in_tested = on (a_symbol index_opens) (call in_tested index) ∷ on (a_keyword MATCHES) (call in_matched pattern) ∷ []
transitions pattern = on a_name return ∷ on (a_symbol opens) (call in_pattern_first pattern) ∷ []
transitions in_matched = on (a_symbol bar) (call in_matched pattern) ∷ on (a_keyword THEN) (call in_then expression) ∷ []
transitions in_pattern_first = on (a_symbol bar) (call in_pattern_first pattern) ∷ on (a_symbol comma) (call in_pattern_second pattern) ∷ []
transitions in_pattern_second = on (a_symbol bar) (call in_pattern_second pattern) ∷ on (a_symbol closes) return ∷ []
transitions in_then = on (a_symbol index_opens) (call in_then index) ∷ on (a_keyword ELSE) (call in_else expression) ∷ []
transitions in_else = on (a_symbol index_opens) (call in_else index) ∷ on (a_symbol closes) return ∷ []
transitions delay_bracket = on (a_symbol opens) (call in_delay_constant constant) ∷ []
transitions constant = on a_name return ∷ on (a_symbol query) (go undefined_type) ∷ on (a_symbol opens) (call in_constant_first constant) ∷ []
transitions in_delay_constant = on (a_symbol comma) (call in_delayed expression) ∷ []
transitions in_constant_first = on (a_symbol comma) (call in_constant_second constant) ∷ []
transitions in_constant_second = on (a_symbol closes) return ∷ []
transitions in_delayed = on (a_symbol index_opens) (call in_delayed index) ∷ on (a_symbol closes) (go delay_close) ∷ []
transitions delay_close = on (a_symbol closes) return ∷ []
transitions index = on (a_symbol one) (go index_one) ∷ on (a_symbol two) (go index_two) ∷ []
transitions index_one = on (a_symbol index_closes) return ∷ []
transitions index_two = on (a_symbol index_closes) return ∷ []

-- the states' numbers
abbrev pub state_number : State → ℕ
state_number start = 0
state_number declared = 1
state_number type_name = 2
state_number type_equals = 3
state_number type_body = 4
state_number constructor_end = 5
state_number constructor_next = 6
state_number pair_first_type = 7
state_number pair_comma = 8
state_number pair_second_type = 9
state_number pair_close = 10
state_number pair_in = 11
state_number input_type = 12
state_number expression = 13
state_number undefined_type = 14
state_number bracket = 15
state_number done = 16
state_number in_pair_first = 17
state_number in_pair_second = 18
state_number let_name = 19
state_number let_equals = 20
state_number in_let_bound = 21
state_number in_let_body = 22
state_number init_query = 23
state_number init_type = 24
state_number rec_word = 25
state_number rec_name = 26
state_number rec_equals = 27
state_number in_rec_bound = 28
state_number in_rec_body = 29
state_number in_tested = 30
state_number pattern = 31
state_number in_matched = 32
state_number in_pattern_first = 33
state_number in_pattern_second = 34
state_number in_then = 35
state_number in_else = 36
state_number delay_bracket = 37
state_number constant = 38
state_number in_delay_constant = 39
state_number in_constant_first = 40
state_number in_constant_second = 41
state_number in_delayed = 42
state_number delay_close = 43
state_number index = 44
state_number index_one = 45
state_number index_two = 46

abbrev pub states : List State
states = start ∷ declared ∷ type_name ∷ type_equals ∷ type_body ∷ constructor_end ∷ constructor_next ∷ pair_first_type ∷ pair_comma ∷
    pair_second_type ∷ pair_close ∷ pair_in ∷ input_type ∷ expression ∷ undefined_type ∷ bracket ∷ done ∷ in_pair_first ∷ in_pair_second ∷
    let_name ∷ let_equals ∷ in_let_bound ∷ in_let_body ∷ init_query ∷ init_type ∷ rec_word ∷ rec_name ∷ rec_equals ∷ in_rec_bound ∷ in_rec_body ∷
    in_tested ∷ pattern ∷ in_matched ∷ in_pattern_first ∷ in_pattern_second ∷ in_then ∷ in_else ∷ delay_bracket ∷ constant ∷
    in_delay_constant ∷ in_constant_first ∷ in_constant_second ∷ in_delayed ∷ delay_close ∷ index ∷ index_one ∷ index_two ∷ []
