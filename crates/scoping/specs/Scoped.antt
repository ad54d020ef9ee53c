-- The scopes of names in the tables of the code.
use Rattle.std.specs.Prelude.{ℕ, zero, suc, ◌+◌, ◌-◌, ◌≤◌, ◌<◌, ◌≡◌, Bool, true, false, cond, List, [], ◌∷◌, map, length, get_or, eqb}
use Rattle.grammar.specs.Sizes.{text_table}
use Rattle.grammar.specs.Rows.{State, state_number, states}
use Rattle.grammar.specs.Machine.{lead_byte}
use Rattle.recognizer.specs.Coded.{lead_bytes}
use Rattle.name_rules.specs.TokenWalk.{NameRule, new_name, type_use, pattern_use, constant_use, value_use, ruleless, admits, rule_in, state_rules, lead_from, effect_from}
use Rattle.name_rules.specs.TokenWalk.{ScopeEffect, keeps_scope, pends, declares_first, declares_next, binds, binds_pending, declares_pending, unbinds}
use Rattle.name_rules.specs.TokenWalk.{NameScope, scope, may_take, holds_in, met_in, left_by}
use Rattle.symbols.specs.Names.{letters_at, Inside, declared_names, bound_names, Hashed, Roles, BoundRoles}

-- the numbers of the tables
abbrev pub bit_of : Bool → ℕ
bit_of true = 1
bit_of false = 0

abbrev pub searches_bound : NameRule → ℕ
searches_bound new_name = 0
searches_bound type_use = 0
searches_bound pattern_use = 0
searches_bound constant_use = 0
searches_bound value_use = 1
searches_bound ruleless = 0

abbrev pub admission_row : NameRule → List ℕ
admission_row r =
    bit_of (admits r 0) ∷ bit_of (admits r 1) ∷ bit_of (admits r 2) ∷ bit_of (admits r 3) ∷ bit_of (admits r 4) ∷ searches_bound r ∷ []

unfoldable pub admission_table : List (List ℕ)
admission_table = map (λ q. admission_row (rule_in q)) states

abbrev pub effect_number : ScopeEffect → ℕ
effect_number keeps_scope = 0
effect_number pends = 1
effect_number declares_first = 2
effect_number declares_next = 3
effect_number binds = 4
effect_number binds_pending = 5
effect_number declares_pending = 6
effect_number unbinds = 7

abbrev pub effect_of : ℕ → ScopeEffect
effect_of n =
    get_or (keeps_scope ∷ pends ∷ declares_first ∷ declares_next ∷ binds ∷ binds_pending ∷ declares_pending ∷ unbinds ∷ []) n keeps_scope

abbrev pub effect_by : State → ℕ → ScopeEffect
effect_by q b = cond (eqb b (lead_byte (lead_from (state_number q) state_rules))) (effect_from (state_number q) state_rules) keeps_scope

unfoldable pub effect_table : List (List ℕ)
effect_table = map (λ q. map (λ b. effect_number (effect_by q b)) lead_bytes) states

-- the names kept for later, the last on top
abbrev pub pending_names : (text pendings : List ℕ) → ℕ → List (List ℕ)
pending_names text pendings zero = []
pending_names text pendings (suc k) = letters_at text (get_or pendings k 0) ∷ pending_names text pendings k

abbrev pub held_scope : (text : List ℕ) (base n m : ℕ) (spans roles pendings : List ℕ) → NameScope
held_scope text base n m spans roles pendings =
    scope (pending_names text pendings m) (bound_names text spans base (n - base)) (declared_names text spans roles base)

-- what the functions on scopes ask of the tables, with so much room, and give
pub record Scoping (text : List ℕ) (room base n m : ℕ) (spans links heads roles pendings : List ℕ) : Type 0 where
  pub hashed : Hashed text n spans links heads
  pub named : Roles roles base
  pub bound_roles : BoundRoles text spans roles base n
  pub above : base ≤ n
  pub pendings_long : length pendings ≡ text_table
  pub pendings_inside : (k : ℕ) → k < m → Inside text (get_or pendings k 0)
  pub few : n + m ≤ room
  pub roomy : room ≤ text_table

-- what binding a name gives
pub record NameBound (text : List ℕ) (span base n : ℕ) (spans roles spans' links' heads' roles' : List ℕ) : Type 0 where
  pub hashed : Hashed text (n + 1) spans' links' heads'
  pub named : Roles roles' base
  pub bound_roles : BoundRoles text spans' roles' base (n + 1)
  pub one_more : bound_names text spans' base (n + 1 - base) ≡ letters_at text span ∷ bound_names text spans base (n - base)
  pub same_declared : declared_names text spans' roles' base ≡ declared_names text spans roles base

-- the tables after a change hold a scope
pub record Rescoped (S : NameScope) (text : List ℕ) (room base n m : ℕ) (spans links heads roles pendings : List ℕ) : Type 0 where
  pub scoping : Scoping text room base n m spans links heads roles pendings
  pub same_scope : held_scope text base n m spans roles pendings ≡ S

-- what a name with an effect gives, met in a state and a scope: whether it keeps to its rule, and if so the scope after it
pub record NameNoted (q : State) (e : ScopeEffect) (w : List ℕ) (S : NameScope) (text : List ℕ) (room : ℕ) (ok : Bool) (base n m : ℕ)
    (spans links heads roles pendings : List ℕ) : Type 0
  where
    pub told : ok ≡ cond (may_take e S) (holds_in q w (met_in e S)) false
    pub rescoped : ok ≡ true → Rescoped (left_by e w (met_in e S)) text room base n m spans links heads roles pendings
