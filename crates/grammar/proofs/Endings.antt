-- From every state a text can be brought to its end: bytes that complete the production, a line a state, and then those of the states that
-- wait. So what the machine has read can be continued.
-- Assumes nothing.
use Prim.Native.Nat.{ℕ}
use mathlib.Core.Path.{◌≡◌, refl, ap, ◌∙◌}
use mathlib.Core.Bool.{Bool, true, false, cond}
use mathlib.Core.List.{List, [], ◌∷◌, ◌++◌}
use mathlib.Core.Logic.{◌⊎◌, inl, inr}
use native.Mathlib.Omega.{arith}
use lib.Dec.{eqb}
use borrow.Author.Tests.{eq-eqb}
use Rattle.grammar.specs.Rows.{State, state_number}
use Rattle.grammar.specs.Rows.{start, declared, type_name, type_equals, type_body, constructor_end, constructor_next}
use Rattle.grammar.specs.Rows.{pair_first_type, pair_comma, pair_second_type, pair_close, pair_in, input_type, expression}
use Rattle.grammar.specs.Rows.{undefined_type, bracket, done, in_pair_first, in_pair_second, let_name, let_equals}
use Rattle.grammar.specs.Rows.{in_let_bound, in_let_body, init_query, init_type, rec_word, rec_name, rec_equals, in_rec_bound}
use Rattle.grammar.specs.Rows.{in_rec_body, in_tested, pattern, in_matched, in_pattern_first, in_pattern_second, in_then}
use Rattle.grammar.specs.Rows.{in_else, delay_bracket, constant, in_delay_constant, in_constant_first, in_constant_second}
use Rattle.grammar.specs.Rows.{in_delayed, delay_close, index, index_one, index_two}
use Rattle.grammar.specs.Machine.{dead, live, WordLeft, no_word, in_name, spelt, back, after_bytes, ends}

-- the bytes that complete what a state is in
abbrev closing : State → List ℕ
closing start = 84 ∷ 89 ∷ 80 ∷ 69 ∷ 32 ∷ 120 ∷ 61 ∷ 120 ∷ 32 ∷ 73 ∷ 78 ∷ 32 ∷ 73 ∷ 78 ∷ 80 ∷ 85 ∷ 84 ∷ 32 ∷ 120 ∷ 32 ∷ 120 ∷ 32 ∷ []  -- TYPE x=x IN INPUT x x
closing declared = 73 ∷ 78 ∷ 80 ∷ 85 ∷ 84 ∷ 32 ∷ 120 ∷ 32 ∷ 120 ∷ 32 ∷ []  -- INPUT x x
closing type_name = 120 ∷ 61 ∷ 120 ∷ 32 ∷ 73 ∷ 78 ∷ 32 ∷ 73 ∷ 78 ∷ 80 ∷ 85 ∷ 84 ∷ 32 ∷ 120 ∷ 32 ∷ 120 ∷ 32 ∷ []  -- x=x IN INPUT x x
closing type_equals = 61 ∷ 120 ∷ 32 ∷ 73 ∷ 78 ∷ 32 ∷ 73 ∷ 78 ∷ 80 ∷ 85 ∷ 84 ∷ 32 ∷ 120 ∷ 32 ∷ 120 ∷ 32 ∷ []  -- =x IN INPUT x x
closing type_body = 120 ∷ 32 ∷ 73 ∷ 78 ∷ 32 ∷ 73 ∷ 78 ∷ 80 ∷ 85 ∷ 84 ∷ 32 ∷ 120 ∷ 32 ∷ 120 ∷ 32 ∷ []  -- x IN INPUT x x
closing constructor_end = 73 ∷ 78 ∷ 32 ∷ 73 ∷ 78 ∷ 80 ∷ 85 ∷ 84 ∷ 32 ∷ 120 ∷ 32 ∷ 120 ∷ 32 ∷ []  -- IN INPUT x x
closing constructor_next = 120 ∷ 32 ∷ 73 ∷ 78 ∷ 32 ∷ 73 ∷ 78 ∷ 80 ∷ 85 ∷ 84 ∷ 32 ∷ 120 ∷ 32 ∷ 120 ∷ 32 ∷ []  -- x IN INPUT x x
closing pair_first_type = 120 ∷ 44 ∷ 120 ∷ 41 ∷ 73 ∷ 78 ∷ 32 ∷ 73 ∷ 78 ∷ 80 ∷ 85 ∷ 84 ∷ 32 ∷ 120 ∷ 32 ∷ 120 ∷ 32 ∷ []  -- x,x)IN INPUT x x
closing pair_comma = 44 ∷ 120 ∷ 41 ∷ 73 ∷ 78 ∷ 32 ∷ 73 ∷ 78 ∷ 80 ∷ 85 ∷ 84 ∷ 32 ∷ 120 ∷ 32 ∷ 120 ∷ 32 ∷ []  -- ,x)IN INPUT x x
closing pair_second_type = 120 ∷ 41 ∷ 73 ∷ 78 ∷ 32 ∷ 73 ∷ 78 ∷ 80 ∷ 85 ∷ 84 ∷ 32 ∷ 120 ∷ 32 ∷ 120 ∷ 32 ∷ []  -- x)IN INPUT x x
closing pair_close = 41 ∷ 73 ∷ 78 ∷ 32 ∷ 73 ∷ 78 ∷ 80 ∷ 85 ∷ 84 ∷ 32 ∷ 120 ∷ 32 ∷ 120 ∷ 32 ∷ []  -- )IN INPUT x x
closing pair_in = 73 ∷ 78 ∷ 32 ∷ 73 ∷ 78 ∷ 80 ∷ 85 ∷ 84 ∷ 32 ∷ 120 ∷ 32 ∷ 120 ∷ 32 ∷ []  -- IN INPUT x x
closing input_type = 120 ∷ 32 ∷ 120 ∷ 32 ∷ []  -- x x
closing expression = 120 ∷ 32 ∷ []  -- x
closing undefined_type = 120 ∷ 32 ∷ []  -- x
closing bracket = 120 ∷ 44 ∷ 120 ∷ 41 ∷ []  -- x,x)
closing done = []
closing in_pair_first = 44 ∷ 120 ∷ 41 ∷ []  -- ,x)
closing in_pair_second = 41 ∷ []  -- )
closing let_name = 120 ∷ 61 ∷ 120 ∷ 32 ∷ 73 ∷ 78 ∷ 32 ∷ 120 ∷ 41 ∷ []  -- x=x IN x)
closing let_equals = 61 ∷ 120 ∷ 32 ∷ 73 ∷ 78 ∷ 32 ∷ 120 ∷ 41 ∷ []  -- =x IN x)
closing in_let_bound = 73 ∷ 78 ∷ 32 ∷ 120 ∷ 41 ∷ []  -- IN x)
closing in_let_body = 41 ∷ []  -- )
closing init_query = 63 ∷ 120 ∷ 32 ∷ 82 ∷ 69 ∷ 67 ∷ 32 ∷ 120 ∷ 61 ∷ 120 ∷ 32 ∷ 73 ∷ 78 ∷ 32 ∷ 120 ∷ 41 ∷ []  -- ?x REC x=x IN x)
closing init_type = 120 ∷ 32 ∷ 82 ∷ 69 ∷ 67 ∷ 32 ∷ 120 ∷ 61 ∷ 120 ∷ 32 ∷ 73 ∷ 78 ∷ 32 ∷ 120 ∷ 41 ∷ []  -- x REC x=x IN x)
closing rec_word = 82 ∷ 69 ∷ 67 ∷ 32 ∷ 120 ∷ 61 ∷ 120 ∷ 32 ∷ 73 ∷ 78 ∷ 32 ∷ 120 ∷ 41 ∷ []  -- REC x=x IN x)
closing rec_name = 120 ∷ 61 ∷ 120 ∷ 32 ∷ 73 ∷ 78 ∷ 32 ∷ 120 ∷ 41 ∷ []  -- x=x IN x)
closing rec_equals = 61 ∷ 120 ∷ 32 ∷ 73 ∷ 78 ∷ 32 ∷ 120 ∷ 41 ∷ []  -- =x IN x)
closing in_rec_bound = 73 ∷ 78 ∷ 32 ∷ 120 ∷ 41 ∷ []  -- IN x)
closing in_rec_body = 41 ∷ []  -- )
closing in_tested = 77 ∷ 65 ∷ 84 ∷ 67 ∷ 72 ∷ 69 ∷ 83 ∷ 32 ∷ 120 ∷ 32 ∷ 84 ∷ 72 ∷ 69 ∷ 78 ∷ 32 ∷ 120 ∷ 32 ∷ 69 ∷ 76 ∷ 83 ∷ 69 ∷ 32 ∷ 120 ∷ 41 ∷ []  -- MATCHES x THEN x ELSE x)
closing pattern = 120 ∷ 32 ∷ []  -- x
closing in_matched = 84 ∷ 72 ∷ 69 ∷ 78 ∷ 32 ∷ 120 ∷ 32 ∷ 69 ∷ 76 ∷ 83 ∷ 69 ∷ 32 ∷ 120 ∷ 41 ∷ []  -- THEN x ELSE x)
closing in_pattern_first = 44 ∷ 120 ∷ 41 ∷ []  -- ,x)
closing in_pattern_second = 41 ∷ []  -- )
closing in_then = 69 ∷ 76 ∷ 83 ∷ 69 ∷ 32 ∷ 120 ∷ 41 ∷ []  -- ELSE x)
closing in_else = 41 ∷ []  -- )
closing delay_bracket = 40 ∷ 120 ∷ 44 ∷ 120 ∷ 41 ∷ 41 ∷ []  -- (x,x))
closing constant = 120 ∷ 32 ∷ []  -- x
closing in_delay_constant = 44 ∷ 120 ∷ 41 ∷ 41 ∷ []  -- ,x))
closing in_constant_first = 44 ∷ 120 ∷ 41 ∷ []  -- ,x)
closing in_constant_second = 41 ∷ []  -- )
closing in_delayed = 41 ∷ 41 ∷ []  -- ))
closing delay_close = 41 ∷ []  -- )
closing index = 49 ∷ 93 ∷ []  -- 1]
closing index_one = 93 ∷ []  -- ]
closing index_two = 93 ∷ []  -- ]

-- a state that is not the end
abbrev Unended : State → Type 0
Unended start = Unit {0}
Unended declared = Unit {0}
Unended type_name = Unit {0}
Unended type_equals = Unit {0}
Unended type_body = Unit {0}
Unended constructor_end = Unit {0}
Unended constructor_next = Unit {0}
Unended pair_first_type = Unit {0}
Unended pair_comma = Unit {0}
Unended pair_second_type = Unit {0}
Unended pair_close = Unit {0}
Unended pair_in = Unit {0}
Unended input_type = Unit {0}
Unended expression = Unit {0}
Unended undefined_type = Unit {0}
Unended bracket = Unit {0}
Unended done = ⊥
Unended in_pair_first = Unit {0}
Unended in_pair_second = Unit {0}
Unended let_name = Unit {0}
Unended let_equals = Unit {0}
Unended in_let_bound = Unit {0}
Unended in_let_body = Unit {0}
Unended init_query = Unit {0}
Unended init_type = Unit {0}
Unended rec_word = Unit {0}
Unended rec_name = Unit {0}
Unended rec_equals = Unit {0}
Unended in_rec_bound = Unit {0}
Unended in_rec_body = Unit {0}
Unended in_tested = Unit {0}
Unended pattern = Unit {0}
Unended in_matched = Unit {0}
Unended in_pattern_first = Unit {0}
Unended in_pattern_second = Unit {0}
Unended in_then = Unit {0}
Unended in_else = Unit {0}
Unended delay_bracket = Unit {0}
Unended constant = Unit {0}
Unended in_delay_constant = Unit {0}
Unended in_constant_first = Unit {0}
Unended in_constant_second = Unit {0}
Unended in_delayed = Unit {0}
Unended delay_close = Unit {0}
Unended index = Unit {0}
Unended index_one = Unit {0}
Unended index_two = Unit {0}

name-ended : (K : List State) (rest : List ℕ) → after_bytes (back K (in_name 1)) (32 ∷ rest) ≡ after_bytes (back K no_word) rest
name-ended [] rest = refl
name-ended (q ∷ K) rest = refl

closed : (q : State) → Unended q → (K : List State) (rest : List ℕ) → after_bytes (live q K no_word) (closing q ++ rest) ≡ after_bytes (back K no_word) rest
closed start u K rest = name-ended K rest
closed declared u K rest = name-ended K rest
closed type_name u K rest = name-ended K rest
closed type_equals u K rest = name-ended K rest
closed type_body u K rest = name-ended K rest
closed constructor_end u K rest = name-ended K rest
closed constructor_next u K rest = name-ended K rest
closed pair_first_type u K rest = name-ended K rest
closed pair_comma u K rest = name-ended K rest
closed pair_second_type u K rest = name-ended K rest
closed pair_close u K rest = name-ended K rest
closed pair_in u K rest = name-ended K rest
closed input_type u K rest = name-ended K rest
closed expression u K rest = name-ended K rest
closed undefined_type u K rest = name-ended K rest
closed bracket u K rest = refl
closed done u K rest = absurd u
closed in_pair_first u K rest = refl
closed in_pair_second u K rest = refl
closed let_name u K rest = refl
closed let_equals u K rest = refl
closed in_let_bound u K rest = refl
closed in_let_body u K rest = refl
closed init_query u K rest = refl
closed init_type u K rest = refl
closed rec_word u K rest = refl
closed rec_name u K rest = refl
closed rec_equals u K rest = refl
closed in_rec_bound u K rest = refl
closed in_rec_body u K rest = refl
closed in_tested u K rest = refl
closed pattern u K rest = name-ended K rest
closed in_matched u K rest = refl
closed in_pattern_first u K rest = refl
closed in_pattern_second u K rest = refl
closed in_then u K rest = refl
closed in_else u K rest = refl
closed delay_bracket u K rest = refl
closed constant u K rest = name-ended K rest
closed in_delay_constant u K rest = refl
closed in_constant_first u K rest = refl
closed in_constant_second u K rest = refl
closed in_delayed u K rest = refl
closed delay_close u K rest = refl
closed index u K rest = refl
closed index_one u K rest = refl
closed index_two u K rest = refl

-- the end, or a state that is not
end-or-not : (q : State) → (eqb (state_number q) 16 ≡ true) ⊎ Unended q
end-or-not start = inr tt
end-or-not declared = inr tt
end-or-not type_name = inr tt
end-or-not type_equals = inr tt
end-or-not type_body = inr tt
end-or-not constructor_end = inr tt
end-or-not constructor_next = inr tt
end-or-not pair_first_type = inr tt
end-or-not pair_comma = inr tt
end-or-not pair_second_type = inr tt
end-or-not pair_close = inr tt
end-or-not pair_in = inr tt
end-or-not input_type = inr tt
end-or-not expression = inr tt
end-or-not undefined_type = inr tt
end-or-not bracket = inr tt
end-or-not done = inl refl
end-or-not in_pair_first = inr tt
end-or-not in_pair_second = inr tt
end-or-not let_name = inr tt
end-or-not let_equals = inr tt
end-or-not in_let_bound = inr tt
end-or-not in_let_body = inr tt
end-or-not init_query = inr tt
end-or-not init_type = inr tt
end-or-not rec_word = inr tt
end-or-not rec_name = inr tt
end-or-not rec_equals = inr tt
end-or-not in_rec_bound = inr tt
end-or-not in_rec_body = inr tt
end-or-not in_tested = inr tt
end-or-not pattern = inr tt
end-or-not in_matched = inr tt
end-or-not in_pattern_first = inr tt
end-or-not in_pattern_second = inr tt
end-or-not in_then = inr tt
end-or-not in_else = inr tt
end-or-not delay_bracket = inr tt
end-or-not constant = inr tt
end-or-not in_delay_constant = inr tt
end-or-not in_constant_first = inr tt
end-or-not in_constant_second = inr tt
end-or-not in_delayed = inr tt
end-or-not delay_close = inr tt
end-or-not index = inr tt
end-or-not index_one = inr tt
end-or-not index_two = inr tt

-- the bytes that complete a state and those that wait under it
abbrev all_closing : List State → List ℕ
all_closing [] = []
all_closing (q ∷ K) = cond (eqb (state_number q) 16) [] (closing q ++ all_closing K)

-- at the end no more is needed; from another state its bytes lead back to the one that waits
module _ (q : State) (K : List State) (more : List ℕ) (onward : ends (after_bytes (back K no_word) more) ≡ true) where
  closes-one : (x : Bool) → eqb (state_number q) 16 ≡ x → (x ≡ true) ⊎ Unended q → ends (after_bytes (live q K no_word) (cond x [] (closing q ++ more))) ≡ true
  closes-one true e d = e
  closes-one false e (inl d) = absurd (let z : ◌≡◌ {A = ℕ} 0 1 = cc in omega arith)
  closes-one false e (inr u) = ap ends (closed q u K more) ∙ onward

  pub closes-state : ends (after_bytes (live q K no_word) (cond (eqb (state_number q) 16) [] (closing q ++ more))) ≡ true
  closes-state = closes-one (eqb (state_number q) 16) refl (end-or-not q)

closes-all : (K : List State) → ends (after_bytes (back K no_word) (all_closing K)) ≡ true
closes-all [] = refl
closes-all (q ∷ K) = closes-state q K (all_closing K) (closes-all K)

-- a blank after the letters that a word lacks
abbrev word_ending : WordLeft → List ℕ
word_ending no_word = 32 ∷ []
word_ending (in_name n) = 32 ∷ []
word_ending (spelt left) = left ++ (32 ∷ [])

letters-read : (q : State) (K : List State) (left more : List ℕ)
    → after_bytes (live q K (spelt left)) ((left ++ (32 ∷ [])) ++ more) ≡ after_bytes (live q K no_word) more
letters-read q K [] more = refl
letters-read q K (c ∷ left) more =
    ap (λ x. after_bytes (cond x (live q K (spelt left)) dead) ((left ++ (32 ∷ [])) ++ more)) (eq-eqb c c refl) ∙ letters-read q K left more

word-ended : (q : State) (K : List State) (w : WordLeft) (more : List ℕ)
    → after_bytes (live q K w) (word_ending w ++ more) ≡ after_bytes (live q K no_word) more
word-ended q K no_word more = refl
word-ended q K (in_name n) more = refl
word-ended q K (spelt left) more = letters-read q K left more

pub completable : (q : State) (K : List State) (w : WordLeft) → (more : List ℕ) × (ends (after_bytes (live q K w) more) ≡ true)
completable q K w = (word_ending w ++ all_closing (q ∷ K), ap ends (word-ended q K w (all_closing (q ∷ K))) ∙ closes-all (q ∷ K))
