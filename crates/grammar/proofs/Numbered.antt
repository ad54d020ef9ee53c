-- Tokens' leads and states are told apart by their numbers.
-- Assumes nothing.
use Prim.Native.Nat.{ℕ, ◌<◌}
use mathlib.Core.Path.{◌≡◌, refl, sym, ap, ◌∙◌}
use mathlib.Core.Bool.{cond}
use mathlib.Core.List.{List, [], ◌∷◌}
use lib.ListN.{get_or}
use lib.Dec.{eqb, lit<}
use Rattle.grammar.specs.Tokens.{Keyword, TYPE, IN, INPUT, LET, INIT, REC, IF, MATCHES, THEN, ELSE, DELAY}
use Rattle.grammar.specs.Tokens.{Symbol, opens, closes, comma, equals, bar, query, index_opens, index_closes, one, two}
use Rattle.grammar.specs.Rows.{Lead, a_symbol, a_keyword, a_name, State, state_number, states}
use Rattle.grammar.specs.Rows.{start, declared, type_name, type_equals, type_body, constructor_end, constructor_next}
use Rattle.grammar.specs.Rows.{pair_first_type, pair_comma, pair_second_type, pair_close, pair_in, input_type, expression}
use Rattle.grammar.specs.Rows.{undefined_type, bracket, done, in_pair_first, in_pair_second, let_name, let_equals}
use Rattle.grammar.specs.Rows.{in_let_bound, in_let_body, init_query, init_type, rec_word, rec_name, rec_equals, in_rec_bound}
use Rattle.grammar.specs.Rows.{in_rec_body, in_tested, pattern, in_matched, in_pattern_first, in_pattern_second, in_then}
use Rattle.grammar.specs.Rows.{in_else, delay_bracket, constant, in_delay_constant, in_constant_first, in_constant_second}
use Rattle.grammar.specs.Rows.{in_delayed, delay_close, index, index_one, index_two}
use Rattle.grammar.specs.Machine.{lead_number, symbol_byte}

leads : List Lead
leads =
    a_symbol opens ∷ a_symbol closes ∷ a_symbol comma ∷ a_symbol equals ∷ a_symbol bar ∷ a_symbol query ∷ a_symbol index_opens ∷ a_symbol index_closes ∷ a_symbol one ∷ a_symbol two
    ∷ a_keyword TYPE ∷ a_keyword IN ∷ a_keyword INPUT ∷ a_keyword LET ∷ a_keyword INIT ∷ a_keyword REC ∷ a_keyword IF ∷ a_keyword MATCHES ∷ a_keyword THEN ∷ a_keyword ELSE ∷ a_keyword DELAY ∷ []

abbrev among : ℕ → List Lead → Lead
among n [] = a_name
among n (l ∷ more) = cond (eqb n (lead_number l)) l (among n more)

symbol-found : (s : Symbol) → among (symbol_byte s) leads ≡ a_symbol s
unfolding leads
symbol-found opens = refl
symbol-found closes = refl
symbol-found comma = refl
symbol-found equals = refl
symbol-found bar = refl
symbol-found query = refl
symbol-found index_opens = refl
symbol-found index_closes = refl
symbol-found one = refl
symbol-found two = refl

keyword-found : (k : Keyword) → among (lead_number (a_keyword k)) leads ≡ a_keyword k
unfolding leads
keyword-found TYPE = refl
keyword-found IN = refl
keyword-found INPUT = refl
keyword-found LET = refl
keyword-found INIT = refl
keyword-found REC = refl
keyword-found IF = refl
keyword-found MATCHES = refl
keyword-found THEN = refl
keyword-found ELSE = refl
keyword-found DELAY = refl

lead-found : (l : Lead) → among (lead_number l) leads ≡ l
unfolding leads
lead-found (a_symbol s) = symbol-found s
lead-found (a_keyword k) = keyword-found k
lead-found a_name = refl

pub same-lead : (l m : Lead) → lead_number l ≡ lead_number m → l ≡ m
same-lead l m e = sym (lead-found l) ∙ ap (λ n. among n leads) e ∙ lead-found m

pub state-found : (q : State) → get_or states (state_number q) start ≡ q
state-found start = refl
state-found declared = refl
state-found type_name = refl
state-found type_equals = refl
state-found type_body = refl
state-found constructor_end = refl
state-found constructor_next = refl
state-found pair_first_type = refl
state-found pair_comma = refl
state-found pair_second_type = refl
state-found pair_close = refl
state-found pair_in = refl
state-found input_type = refl
state-found expression = refl
state-found undefined_type = refl
state-found bracket = refl
state-found done = refl
state-found in_pair_first = refl
state-found in_pair_second = refl
state-found let_name = refl
state-found let_equals = refl
state-found in_let_bound = refl
state-found in_let_body = refl
state-found init_query = refl
state-found init_type = refl
state-found rec_word = refl
state-found rec_name = refl
state-found rec_equals = refl
state-found in_rec_bound = refl
state-found in_rec_body = refl
state-found in_tested = refl
state-found pattern = refl
state-found in_matched = refl
state-found in_pattern_first = refl
state-found in_pattern_second = refl
state-found in_then = refl
state-found in_else = refl
state-found delay_bracket = refl
state-found constant = refl
state-found in_delay_constant = refl
state-found in_constant_first = refl
state-found in_constant_second = refl
state-found in_delayed = refl
state-found delay_close = refl
state-found index = refl
state-found index_one = refl
state-found index_two = refl

pub same_state : (q r : State) → state_number q ≡ state_number r → q ≡ r
same_state q r e = sym (state-found q) ∙ ap (λ n. get_or states n start) e ∙ state-found r

pub state-below : (q : State) → state_number q < 47
state-below start = lit< tt
state-below declared = lit< tt
state-below type_name = lit< tt
state-below type_equals = lit< tt
state-below type_body = lit< tt
state-below constructor_end = lit< tt
state-below constructor_next = lit< tt
state-below pair_first_type = lit< tt
state-below pair_comma = lit< tt
state-below pair_second_type = lit< tt
state-below pair_close = lit< tt
state-below pair_in = lit< tt
state-below input_type = lit< tt
state-below expression = lit< tt
state-below undefined_type = lit< tt
state-below bracket = lit< tt
state-below done = lit< tt
state-below in_pair_first = lit< tt
state-below in_pair_second = lit< tt
state-below let_name = lit< tt
state-below let_equals = lit< tt
state-below in_let_bound = lit< tt
state-below in_let_body = lit< tt
state-below init_query = lit< tt
state-below init_type = lit< tt
state-below rec_word = lit< tt
state-below rec_name = lit< tt
state-below rec_equals = lit< tt
state-below in_rec_bound = lit< tt
state-below in_rec_body = lit< tt
state-below in_tested = lit< tt
state-below pattern = lit< tt
state-below in_matched = lit< tt
state-below in_pattern_first = lit< tt
state-below in_pattern_second = lit< tt
state-below in_then = lit< tt
state-below in_else = lit< tt
state-below delay_bracket = lit< tt
state-below constant = lit< tt
state-below in_delay_constant = lit< tt
state-below in_constant_first = lit< tt
state-below in_constant_second = lit< tt
state-below in_delayed = lit< tt
state-below delay_close = lit< tt
state-below index = lit< tt
state-below index_one = lit< tt
state-below index_two = lit< tt
