-- What the table of admissions says of a name that is met in a state, by the column of what it stands for.
-- Assumes nothing.
use Prim.Native.Nat.{ℕ, zero, suc, ◌+◌, ◌-◌, ◌≤◌, ◌<◌}
use native.Mathlib.Omega.{arith}
use mathlib.Core.Path.{◌≡◌, refl, sym, ap, ap₂, ◌∙◌}
use mathlib.Core.Bool.{Bool, true, false, cond}
use mathlib.Core.List.{List, [], ◌∷◌}
use lib.ListN.{get_or}
use lib.Dec.{eqb}
use Rattle.grammar.specs.Rows.{State, states, start}
use Rattle.recognizer.specs.Coded.{state_of}
use Rattle.name_rules.specs.TokenWalk.{NameRule, new_name, type_use, pattern_use, constant_use, value_use, ruleless, admits, rule_in, role_in, searched_among, holds_in, NameScope, scope, bound_in}
use Rattle.symbols.specs.Names.{letters_at, declared_names, bound_names, role_among, declared_role}
use Rattle.scoping.specs.Scoped.{bit_of, searches_bound, admission_row, admission_table, pending_names, held_scope}
use Rattle.scoping.proofs.TableLaws.{mapped_at}

admission-read : (table : List (List ℕ)) (state s c : ℕ) → table ≡ admission_table → state < 47 → s ≡ state
    → get_or (get_or table s []) c 0 ≡ get_or (admission_row (rule_in (state_of state))) c 0
unfolding admission_table
admission-read table state s c t h e =
    ap₂ (λ x y. get_or (get_or x y []) c 0) t e ∙ ap (λ k. get_or k c 0) (mapped_at (λ q. admission_row (rule_in q)) states state start [] h)

bit-one : (x : Bool) → eqb (bit_of x) 1 ≡ x
bit-one true = refl
bit-one false = refl

by-column : (r : NameRule) (c : ℕ) → c < 5 → eqb (get_or (admission_row r) c 0) 1 ≡ admits r c
by-column r zero h = bit-one (admits r 0)
by-column r (suc zero) h = bit-one (admits r 1)
by-column r (suc (suc zero)) h = bit-one (admits r 2)
by-column r (suc (suc (suc zero))) h = bit-one (admits r 3)
by-column r (suc (suc (suc (suc zero)))) h = bit-one (admits r 4)
by-column r (suc (suc (suc (suc (suc c))))) h = absurd (omega arith)

bound-searched : (r : NameRule) (S : NameScope) → searches_bound r ≡ 1 → searched_among r S ≡ bound_in S
bound-searched new_name S h = absurd (omega arith)
bound-searched type_use S h = absurd (omega arith)
bound-searched pattern_use S h = absurd (omega arith)
bound-searched constant_use S h = absurd (omega arith)
bound-searched value_use S h = refl
bound-searched ruleless S h = absurd (omega arith)

none-searched : (r : NameRule) (S : NameScope) → (searches_bound r ≡ 1 → ⊥) → searched_among r S ≡ []
none-searched new_name S h = refl
none-searched type_use S h = refl
none-searched pattern_use S h = refl
none-searched constant_use S h = refl
none-searched value_use S h = absurd (h refl)
none-searched ruleless S h = refl

-- a name's admission, by its number and the column that tells where it is looked for
module _ {table : List (List ℕ)} {state s : ℕ} (t : table ≡ admission_table) (h : state < 47) (e : s ≡ state)
    (text spans roles : List ℕ) (base n span : ℕ)
  where
    abbrev q : State
    q = state_of state

    admitted : (c k : ℕ) (x : List (List ℕ)) (m : ℕ) (pendings : List ℕ) → c ≡ k
        → k ≡ role_in (letters_at text span) x (declared_names text spans roles base) → k < 5
        → searched_among (rule_in q) (held_scope text base n m spans roles pendings) ≡ x
        → eqb (get_or (get_or table s []) c 0) 1 ≡ holds_in q (letters_at text span) (held_scope text base n m spans roles pendings)
    admitted c k x m pendings d f l g =
        ap (λ y. eqb y 1) (admission-read table state s c t h e)
        ∙ ap (λ y. eqb (get_or (admission_row (rule_in q)) y 0) 1) d
        ∙ by-column (rule_in q) k l
        ∙ ap (admits (rule_in q)) (f ∙ ap (λ y. role_in (letters_at text span) y (declared_names text spans roles base)) (sym g))

    pub nearest-admitted : (c k : ℕ) → get_or (get_or table s []) 5 0 ≡ 1 → c ≡ k → k ≡ role_among text spans roles base (n - base) span → k < 5
        → (m : ℕ) (pendings : List ℕ)
        → eqb (get_or (get_or table s []) c 0) 1 ≡ holds_in q (letters_at text span) (held_scope text base n m spans roles pendings)
    nearest-admitted c k b d f l m pendings =
        admitted c k (bound_names text spans base (n - base)) m pendings d f l
        (bound-searched (rule_in q) (held_scope text base n m spans roles pendings) (sym (admission-read table state s 5 t h e) ∙ b))

    pub declared-admitted : (c k : ℕ) → (get_or (get_or table s []) 5 0 ≡ 1 → ⊥) → c ≡ k → k ≡ declared_role text spans roles base span → k < 5
        → (m : ℕ) (pendings : List ℕ)
        → eqb (get_or (get_or table s []) c 0) 1 ≡ holds_in q (letters_at text span) (held_scope text base n m spans roles pendings)
    declared-admitted c k b d f l m pendings =
        admitted c k [] m pendings d f l
        (none-searched (rule_in q) (held_scope text base n m spans roles pendings) (λ o. b (admission-read table state s 5 t h e ∙ o)))
