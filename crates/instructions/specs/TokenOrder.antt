-- The instructions of a text once more, token by token: what the code goes by, and no part of what is promised. In each state of the
-- grammar's machine a token says one instruction or none; the bracket of a pair says none for itself, and what follows it says it first.
-- A declared name has the number of the types up to it, and that of the constructors up to it since the last type.
use Rattle.std.specs.Prelude.{ℕ, suc, Bool, false, cond, List, [], ◌∷◌, ◌++◌, eqb}
use Rattle.grammar.specs.Tokens.{Token, keyword, symbol, name_token, IF, MATCHES, DELAY, opens, closes, comma, bar, query, one, two, between}
use Rattle.grammar.specs.Rows.{State, state_number, Lead, a_symbol, a_keyword, a_name}
use Rattle.grammar.specs.Rows.{type_name, type_body, constructor_next, pair_first_type, pair_second_type, input_type, expression, undefined_type, bracket}
use Rattle.grammar.specs.Rows.{in_pair_second, let_name, in_let_body, init_type, in_rec_body, in_tested, pattern, in_matched, in_pattern_first, in_pattern_second}
use Rattle.grammar.specs.Rows.{in_else, constant, in_delay_constant, in_constant_second, in_delayed, index}
use Rattle.grammar.specs.Machine.{Config, dead, live, lead_byte, on_token}
use Rattle.name_rules.specs.Declared.{a_type, a_constructor, the_input, DeclaredName, declared_as, same_name, is_among, is_declared, type_role, constructor_role}
use Rattle.name_rules.specs.TokenWalk.{NameScope, bound_in, declared_in, scope_after}
use Rattle.layout.specs.Resolved.{distance}
use Rattle.instructions.specs.Instruction.{
  Instruction,
  op_of,
  instruction_of,
  declare_type,
  count_constructor,
  first_type,
  second_type,
  input_has,
  use_name,
  use_constant,
  use_undefined,
  open_pair,
  open_let,
  open_if,
  open_delay,
  take_first,
  take_second,
  close,
  close_if,
  open_rec,
  begin_pattern,
  open_parts,
  next_part,
  close_parts,
  next_alternative,
  match_type,
  match_one,
  use_leaf,
  use_zeros,
  open_constant,
  close_constant,
  end_constant,
}

-- a state with a token and the number of the instruction that it says there
pub data SayingRule : Type 0 where
  says : State → Lead → (op : ℕ) → SayingRule

abbrev pub saying_rules : List SayingRule
saying_rules =
    says type_name a_name (op_of declare_type)
    ∷ says type_body a_name (op_of count_constructor)
    ∷ says constructor_next a_name (op_of count_constructor)
    ∷ says pair_first_type a_name (op_of (first_type 0))
    ∷ says pair_second_type a_name (op_of (second_type 0))
    ∷ says input_type a_name (op_of (input_has 0))
    ∷ says expression a_name (op_of (use_name 0))
    ∷ says bracket a_name (op_of (use_name 0))
    ∷ says bracket (a_symbol query) (op_of open_pair)
    ∷ says bracket (a_symbol opens) (op_of open_pair)
    ∷ says bracket (a_keyword IF) (op_of open_if)
    ∷ says bracket (a_keyword DELAY) (op_of open_delay)
    ∷ says undefined_type a_name (op_of (use_undefined 0))
    ∷ says in_pair_second (a_symbol closes) (op_of close)
    ∷ says let_name a_name (op_of open_let)
    ∷ says in_let_body (a_symbol closes) (op_of close)
    ∷ says init_type a_name (op_of (open_rec 0))
    ∷ says in_rec_body (a_symbol closes) (op_of close)
    ∷ says in_tested (a_keyword MATCHES) (op_of begin_pattern)
    ∷ says pattern a_name (op_of (match_type 0))
    ∷ says pattern (a_symbol opens) (op_of open_parts)
    ∷ says in_matched (a_symbol bar) (op_of next_alternative)
    ∷ says in_pattern_first (a_symbol bar) (op_of next_alternative)
    ∷ says in_pattern_first (a_symbol comma) (op_of next_part)
    ∷ says in_pattern_second (a_symbol bar) (op_of next_alternative)
    ∷ says in_pattern_second (a_symbol closes) (op_of close_parts)
    ∷ says in_else (a_symbol closes) (op_of close_if)
    ∷ says constant a_name (op_of (use_leaf 0 0))
    ∷ says constant (a_symbol opens) (op_of (open_constant 0))
    ∷ says in_delay_constant (a_symbol comma) (op_of end_constant)
    ∷ says in_constant_second (a_symbol closes) (op_of close_constant)
    ∷ says in_delayed (a_symbol closes) (op_of close)
    ∷ says index (a_symbol one) (op_of take_first)
    ∷ says index (a_symbol two) (op_of take_second)
    ∷ []

-- the number of no instruction
abbrev pub silent : ℕ
silent = 30

-- by the numbers of a state and of a token's first byte
abbrev pub op_from : (state byte : ℕ) → List SayingRule → ℕ
op_from n b [] = silent
op_from n b (says q l op ∷ more) = cond (cond (eqb n (state_number q)) (eqb b (lead_byte l)) false) op (op_from n b more)

abbrev pub op_by : State → ℕ → ℕ
op_by q b = op_from (state_number q) b saying_rules

-- the declared names from the one with these letters on, the last declared first
abbrev pub named_from : List ℕ → List DeclaredName → List DeclaredName
named_from w [] = []
named_from w (declared_as v r ∷ D) = cond (same_name w v) (declared_as v r ∷ D) (named_from w D)

abbrev pub types_among : List DeclaredName → ℕ
types_among [] = 0
types_among (declared_as v a_type ∷ D) = suc (types_among D)
types_among (declared_as v a_constructor ∷ D) = types_among D
types_among (declared_as v the_input ∷ D) = types_among D

abbrev pub constructors_among : List DeclaredName → ℕ
constructors_among [] = 0
constructors_among (declared_as v a_type ∷ D) = 0
constructors_among (declared_as v a_constructor ∷ D) = suc (constructors_among D)
constructors_among (declared_as v the_input ∷ D) = 0

-- an instruction with the numbers of a declared name
abbrev pub declared_said : (op : ℕ) → List ℕ → List DeclaredName → Instruction
declared_said op w D = instruction_of op (types_among (named_from w D)) (constructors_among (named_from w D))

abbrev pub value_said : List ℕ → List (List ℕ) → List DeclaredName → Instruction
value_said w B D =
    cond (is_among w B)
    (use_name (distance w B))
    (cond (is_declared constructor_role w D) (declared_said (op_of (use_constant 0 0)) w D) (use_name (distance w B)))

-- a state of a DELAY's constant waits
abbrev pub in_constant : List State → Bool
in_constant [] = false
in_constant (q ∷ K) = between 39 41 (state_number q)

-- the number of an instruction over a declared name: in a pattern by whether it is a type, after `?` by where it stands
abbrev pub declared_op : (op : ℕ) (delayed type : Bool) → ℕ
declared_op op delayed type =
    cond (eqb op (op_of (match_type 0))) (cond type (op_of (match_type 0)) (op_of (match_one 0 0)))
    (cond (eqb op (op_of (use_undefined 0))) (cond delayed (op_of (use_zeros 0)) (op_of (use_undefined 0))) op)

-- what a name says by the number of its state, and any other token with its place
abbrev pub name_said : (op : ℕ) (delayed : Bool) → List ℕ → List (List ℕ) → List DeclaredName → List Instruction
name_said op delayed w B D =
    cond (eqb op silent) []
    (cond (eqb op (op_of (use_name 0))) (value_said w B D ∷ [])
    (declared_said (declared_op op delayed (is_declared type_role w D)) w D ∷ []))

abbrev pub other_said : (op place : ℕ) → List Instruction
other_said op p = cond (eqb op silent) [] (instruction_of op p 0 ∷ [])

-- a name after a bracket begins a pair
abbrev pub pair_before : State → List Instruction → List Instruction
pair_before q is = cond (eqb (state_number q) (state_number bracket)) (open_pair ∷ is) is

abbrev pub instructions_on : State → List State → Token → NameScope → List Instruction
instructions_on q K (keyword k p) S = other_said (op_by q (lead_byte (a_keyword k))) p
instructions_on q K (symbol s p) S = other_said (op_by q (lead_byte (a_symbol s))) p
instructions_on q K (name_token w p) S = pair_before q (name_said (op_by q (lead_byte a_name)) (in_constant K) w (bound_in S) (declared_in S))

abbrev pub walk_instructions : Config → NameScope → List Token → List Instruction
walk_instructions c S [] = []
walk_instructions dead S (t ∷ ts) = []
walk_instructions (live q K w) S (t ∷ ts) = instructions_on q K t S ++ walk_instructions (on_token t q K) (scope_after q t S) ts
