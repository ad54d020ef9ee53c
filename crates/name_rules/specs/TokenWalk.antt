-- The checks on names once more, token by token: what the code goes by, and no part of what is promised. In each state of the grammar's
-- machine at most one rule holds for a name, and at most one token changes the names in scope.
use Rattle.std.specs.Prelude.{ℕ, Bool, true, false, cond, List, [], ◌∷◌, ◌++◌, eqb, ltb}
use Rattle.grammar.specs.Tokens.{Token, keyword, symbol, name_token, IN, closes}
use Rattle.grammar.specs.Rows.{State, state_number, Lead, a_symbol, a_keyword, a_name}
use Rattle.grammar.specs.Rows.{type_name, type_body, constructor_next, pair_first_type, pair_second_type, input_type, expression}
use Rattle.grammar.specs.Rows.{undefined_type, bracket, let_name, in_let_bound, in_let_body, init_type, rec_name, in_rec_body, pattern, constant}
use Rattle.grammar.specs.Machine.{Config, dead, live, lead_byte, on_token}
use Rattle.name_rules.specs.Declared.{Role, a_type, a_constructor, the_input, DeclaredName, declared_as, same_name}
use Rattle.name_rules.specs.Checks.{PlacedCheck, check_at}

-- what a name has to be: new, a type, a type or a constructor, a constructor, a value
pub data NameRule : Type 0 where
  new_name type_use pattern_use constant_use value_use ruleless : NameRule

-- what a token does to the names in scope: nothing; a name is kept for later; a constructor is declared, after its type or not; a name is
-- bound; the name kept is bound, or declared as a type, a pair type after the name of its second part; the nearest bound name goes
pub data ScopeEffect : Type 0 where
  keeps_scope pends declares_first declares_next binds binds_pending declares_pending unbinds : ScopeEffect

-- a state with its rule, and the token that has an effect there
pub data StateRule : Type 0 where
  in_state : State → NameRule → Lead → ScopeEffect → StateRule

abbrev pub state_rules : List StateRule
state_rules =
    in_state type_name new_name a_name pends
    ∷ in_state type_body new_name a_name declares_first
    ∷ in_state constructor_next new_name a_name declares_next
    ∷ in_state pair_first_type type_use a_name keeps_scope
    ∷ in_state pair_second_type type_use a_name declares_pending
    ∷ in_state input_type type_use a_name keeps_scope
    ∷ in_state expression value_use a_name keeps_scope
    ∷ in_state bracket value_use a_name keeps_scope
    ∷ in_state undefined_type type_use a_name keeps_scope
    ∷ in_state let_name new_name a_name pends
    ∷ in_state in_let_bound ruleless (a_keyword IN) binds_pending
    ∷ in_state in_let_body ruleless (a_symbol closes) unbinds
    ∷ in_state init_type type_use a_name keeps_scope
    ∷ in_state rec_name new_name a_name binds
    ∷ in_state in_rec_body ruleless (a_symbol closes) unbinds
    ∷ in_state pattern pattern_use a_name keeps_scope
    ∷ in_state constant constant_use a_name keeps_scope
    ∷ []

-- the row of a state
abbrev pub rule_from : ℕ → List StateRule → NameRule
rule_from n [] = ruleless
rule_from n (in_state q r l e ∷ more) = cond (eqb n (state_number q)) r (rule_from n more)

abbrev pub lead_from : ℕ → List StateRule → Lead
lead_from n [] = a_name
lead_from n (in_state q r l e ∷ more) = cond (eqb n (state_number q)) l (lead_from n more)

abbrev pub effect_from : ℕ → List StateRule → ScopeEffect
effect_from n [] = keeps_scope
effect_from n (in_state q r l e ∷ more) = cond (eqb n (state_number q)) e (effect_from n more)

abbrev pub rule_in : State → NameRule
rule_in q = rule_from (state_number q) state_rules

abbrev pub effect_on : State → Lead → ScopeEffect
effect_on q l =
    cond (eqb (lead_byte l) (lead_byte (lead_from (state_number q) state_rules))) (effect_from (state_number q) state_rules) keeps_scope

-- the names kept for later, those that LETs bind, the nearest first, and those that are declared
pub data NameScope : Type 0 where
  scope : (pending bound : List (List ℕ)) → List DeclaredName → NameScope

abbrev pub bound_in : NameScope → List (List ℕ)
bound_in (scope P B D) = B

abbrev pub declared_in : NameScope → List DeclaredName
declared_in (scope P B D) = D

-- what a name stands for, by number: a type, a constructor, `input`, a bound name, nothing
abbrev pub role_number : Role → ℕ
role_number a_type = 0
role_number a_constructor = 1
role_number the_input = 2

abbrev pub role_in : List ℕ → List (List ℕ) → List DeclaredName → ℕ
role_in w [] [] = 4
role_in w [] (declared_as v r ∷ D) = cond (same_name w v) (role_number r) (role_in w [] D)
role_in w (v ∷ B) D = cond (same_name w v) 3 (role_in w B D)

abbrev pub admits : NameRule → ℕ → Bool
admits new_name n = eqb n 4
admits type_use n = eqb n 0
admits pattern_use n = ltb n 2
admits constant_use n = eqb n 1
admits value_use n = cond (eqb n 0) false (ltb n 4)
admits ruleless n = true

-- only a value may be a bound name
abbrev pub searched_among : NameRule → NameScope → List (List ℕ)
searched_among new_name S = []
searched_among type_use S = []
searched_among pattern_use S = []
searched_among constant_use S = []
searched_among value_use S = bound_in S
searched_among ruleless S = []

abbrev pub declare_pending : NameScope → NameScope
declare_pending (scope [] B D) = scope [] B D
declare_pending (scope (v ∷ P) B D) = scope P B (declared_as v a_type ∷ D)

abbrev pub bind_pending : NameScope → NameScope
bind_pending (scope [] B D) = scope [] B D
bind_pending (scope (v ∷ P) B D) = scope P (v ∷ B) D

abbrev pub unbind : NameScope → NameScope
unbind (scope P [] D) = scope P [] D
unbind (scope P (v ∷ B) D) = scope P B D

-- the scope in which a token is met: a type's name is taken before its first constructor
abbrev pub met_in : ScopeEffect → NameScope → NameScope
met_in keeps_scope S = S
met_in pends S = S
met_in declares_first S = declare_pending S
met_in declares_next S = S
met_in binds S = S
met_in binds_pending S = S
met_in declares_pending S = S
met_in unbinds S = S

-- the scope after a name, and after any other token
abbrev pub left_by : ScopeEffect → List ℕ → NameScope → NameScope
left_by keeps_scope w S = S
left_by pends w (scope P B D) = scope (w ∷ P) B D
left_by declares_first w (scope P B D) = scope P B (declared_as w a_constructor ∷ D)
left_by declares_next w (scope P B D) = scope P B (declared_as w a_constructor ∷ D)
left_by binds w (scope P B D) = scope P (w ∷ B) D
left_by binds_pending w S = S
left_by declares_pending w S = declare_pending S
left_by unbinds w S = S

abbrev pub ended_by : ScopeEffect → NameScope → NameScope
ended_by keeps_scope S = S
ended_by pends S = S
ended_by declares_first S = S
ended_by declares_next S = S
ended_by binds S = S
ended_by binds_pending S = bind_pending S
ended_by declares_pending S = S
ended_by unbinds S = unbind S

abbrev pub scope_after : State → Token → NameScope → NameScope
scope_after q (keyword k p) S = ended_by (effect_on q (a_keyword k)) S
scope_after q (symbol s p) S = ended_by (effect_on q (a_symbol s)) S
scope_after q (name_token w p) S = left_by (effect_on q a_name) w (met_in (effect_on q a_name) S)

-- nothing is bound where a name is declared
abbrev pub none_bound : NameScope → Bool
none_bound (scope P [] D) = true
none_bound (scope P (v ∷ B) D) = false

abbrev pub may_take : ScopeEffect → NameScope → Bool
may_take keeps_scope S = true
may_take pends S = true
may_take declares_first S = none_bound S
may_take declares_next S = none_bound S
may_take binds S = true
may_take binds_pending S = true
may_take declares_pending S = none_bound S
may_take unbinds S = true

-- the check on a name that is met in a scope
abbrev pub holds_in : State → List ℕ → NameScope → Bool
holds_in q w S = admits (rule_in q) (role_in w (searched_among (rule_in q) S) (declared_in S))

abbrev pub name_holds : State → List ℕ → NameScope → Bool
name_holds q w S = cond (may_take (effect_on q a_name) S) (holds_in q w (met_in (effect_on q a_name) S)) false

abbrev pub checks_on : State → Token → NameScope → List PlacedCheck
checks_on q (keyword k p) S = []
checks_on q (symbol s p) S = []
checks_on q (name_token w p) S = check_at p (name_holds q w S) ∷ []

abbrev pub walk_checks : Config → NameScope → List Token → List PlacedCheck
walk_checks c S [] = []
walk_checks dead S (t ∷ ts) = []
walk_checks (live q K w) S (t ∷ ts) = checks_on q t S ++ walk_checks (on_token t q K) (scope_after q t S) ts
