-- What the functions ask of their callers that keep a text's names is not contradictory: on the text of sheet T there is an instance of each
-- struct of `symbols` or `scoping`, with its invariants, and of what a `requires` asks of it. The tables are those that the walk over T has at a token, which a comment
-- names by its place. T declares no pair type: for `note_pair` the text is that of the parity checker.
-- Assumes nothing.
use Prim.Native.Nat.{ℕ, zero, suc, ◌+◌, ◌≤◌, ◌<◌}
use mathlib.Core.Path.{◌≡◌, refl, subst, ◌∙◌}
use mathlib.Core.List.{List, [], ◌∷◌}
use native.Mathlib.Omega.{arith}
use lib.ListN.{length, get_or, set, replicate}
use Rattle.name_rules.specs.Declared.{declared_as, a_type, a_constructor, at_first}
use Rattle.name_rules.specs.TokenWalk.{scope}
use Rattle.std.proofs.Common.{Bor}
use Rattle.std.proofs.lemmas.List.{length-map}
use Rattle.symbols.specs.Names.{Inside, Hashed, Roles, declared_role, BoundRoles}
use Rattle.symbols.specs.RoleNumbers.{role_code, role_codes}
use Rattle.symbols.specs.declared.meanings.Role.{Role}
use Rattle.symbols.specs.declared.meanings.Role.TheVariants.{TypeName, Constructor, Unknown}
use Rattle.symbols.specs.declared.tables.NameTable.{NameTable}
use Rattle.symbols.proofs.Search.{none-hashed, hashed-more}
use Rattle.scoping.specs.Held.{held}
use Rattle.scoping.specs.declared.scopes.Scope.{Scope}
use Rattle.text_runs.proofs.TextTables.{toggle_text, inside, parity_text, inside-parity, padded_with, padded-with-long, padded, padded-long, four-long}

-- The names of T, each by its place and letters: bit, one and two are declared, x is bound.
abbrev spans₀ : List ℕ
spans₀ = padded (0 ∷ 0 ∷ 0 ∷ 0 ∷ [])

abbrev spans₁ : List ℕ
spans₁ = padded (163 ∷ 0 ∷ 0 ∷ 0 ∷ [])

abbrev spans₂ : List ℕ
spans₂ = padded (163 ∷ 355 ∷ 0 ∷ 0 ∷ [])

abbrev spans₃ : List ℕ
spans₃ = padded (163 ∷ 355 ∷ 547 ∷ 0 ∷ [])

abbrev spans₄ : List ℕ
spans₄ = padded (163 ∷ 355 ∷ 547 ∷ 1697 ∷ [])

pub heads₀ : List ℕ
heads₀ = replicate 4096 0

-- their hashes are 3341, 3686, 588 and 120
abbrev heads₁ : List ℕ
heads₁ = set heads₀ 3341 1

abbrev heads₂ : List ℕ
heads₂ = set heads₁ 3686 2

abbrev heads₃ : List ℕ
heads₃ = set heads₂ 588 3

abbrev heads₄ : List ℕ
heads₄ = set heads₃ 120 4

abbrev links₁ : List ℕ
links₁ = set spans₀ 0 (get_or heads₀ 3341 0)

abbrev links₂ : List ℕ
links₂ = set links₁ 1 (get_or heads₁ 3686 0)

abbrev links₃ : List ℕ
links₃ = set links₂ 2 (get_or heads₂ 588 0)

abbrev links₄ : List ℕ
links₄ = set links₃ 3 (get_or heads₃ 120 0)

none-hashed-yet : (text : List ℕ) → Hashed text 0 spans₀ spans₀ heads₀
unfolding heads₀
none-hashed-yet text = none-hashed text spans₀ spans₀ (four-long 0 0 0 0) (four-long 0 0 0 0)

pub hashed₀ : Hashed toggle_text 0 spans₀ spans₀ heads₀
hashed₀ = none-hashed-yet toggle_text

hashed₁ : Hashed toggle_text 1 spans₁ links₁ heads₁
unfolding toggle_text
hashed₁ = hashed-more hashed₀ 163 3341 (inside 163 tt) (omega arith) refl (omega arith)

pub hashed₂ : Hashed toggle_text 2 spans₂ links₂ heads₂
unfolding toggle_text
hashed₂ = hashed-more hashed₁ 355 3686 (inside 355 tt) (omega arith) refl (omega arith)

pub hashed₃ : Hashed toggle_text 3 spans₃ links₃ heads₃
unfolding toggle_text
hashed₃ = hashed-more hashed₂ 547 588 (inside 547 tt) (omega arith) refl (omega arith)

pub hashed₄ : Hashed toggle_text 4 spans₄ links₄ heads₄
unfolding toggle_text
hashed₄ = hashed-more hashed₃ 1697 120 (inside 1697 tt) (omega arith) refl (omega arith)

-- the tables of names: of no name, of those before `two`, with it, and with x
abbrev lent : List ℕ → Bor (List ℕ)
lent text = record { ref_ptr = (0, 0); now = text }

abbrev names₀ : NameTable
names₀ = record { text = lent toggle_text; count = 0; spans = spans₀; links = spans₀; heads = heads₀; hashed = hashed₀ }

abbrev names₂ : NameTable
names₂ = record { text = lent toggle_text; count = 2; spans = spans₂; links = links₂; heads = heads₂; hashed = hashed₂ }

abbrev names₃ : NameTable
names₃ = record { text = lent toggle_text; count = 3; spans = spans₃; links = links₃; heads = heads₃; hashed = hashed₃ }

abbrev names₄ : NameTable
names₄ = record { text = lent toggle_text; count = 4; spans = spans₄; links = links₄; heads = heads₄; hashed = hashed₄ }

-- the roles of the declared names: a type and two constructors; x is none of them
abbrev roles : List Role → List Role
roles rs = padded_with Unknown rs

abbrev roles₀ : List Role
roles₀ = roles []

abbrev roles₂ : List Role
roles₂ = roles (TypeName ∷ Constructor ∷ Unknown ∷ Unknown ∷ [])

abbrev pub roles₃ : List Role
roles₃ = roles (TypeName ∷ Constructor ∷ Constructor ∷ Unknown ∷ [])

abbrev pub roles₄ : List Role
roles₄ = roles (TypeName ∷ Constructor ∷ Constructor ∷ Unknown ∷ [])

roles-long : (rs : List Role) → length rs ≤ 65536 → length (role_codes (roles rs)) ≡ 65536
roles-long rs h = length-map (roles rs) role_code ∙ padded-with-long Unknown rs h

roles-of : (c d : Role) (base : ℕ) → ((k : ℕ) → k < base → get_or (role_codes (roles (TypeName ∷ Constructor ∷ c ∷ d ∷ []))) k 0 < 2)
    → Roles (role_codes (roles (TypeName ∷ Constructor ∷ c ∷ d ∷ []))) base
roles-of c d base f = record { roles_long = roles-long (TypeName ∷ Constructor ∷ c ∷ d ∷ []) (omega arith); few_roles = f }

first-two : (c d : Role) (k : ℕ) → k < 2 → get_or (role_codes (roles (TypeName ∷ Constructor ∷ c ∷ d ∷ []))) k 0 < 2
first-two c d zero h = omega arith
first-two c d (suc zero) h = omega arith
first-two c d (suc (suc k)) h = absurd (omega arith)

first-three : (d : Role) (k : ℕ) → k < 3 → get_or (role_codes (roles (TypeName ∷ Constructor ∷ Constructor ∷ d ∷ []))) k 0 < 2
first-three d zero h = omega arith
first-three d (suc zero) h = omega arith
first-three d (suc (suc zero)) h = omega arith
first-three d (suc (suc (suc k))) h = absurd (omega arith)

pub named₂ : Roles (role_codes roles₂) 2
named₂ = roles-of Unknown Unknown 2 (first-two Unknown Unknown)

pub named₃ : Roles (role_codes roles₃) 3
named₃ = roles-of Constructor Unknown 3 (first-three Unknown)

pub no-roles : Roles (role_codes roles₀) 0
no-roles = record { roles_long = roles-long [] (omega arith); few_roles = λ k m. absurd (omega arith) }

pub none-bound : (text spans roles : List ℕ) (base : ℕ) → BoundRoles text spans roles base base
none-bound text spans roles base k l h = absurd (omega arith)

pub x-bound : BoundRoles toggle_text spans₄ (role_codes roles₄) 3 4
unfolding toggle_text
x-bound k l h =
    let e : 3 ≡ k = omega arith in
    subst (λ j. get_or (role_codes roles₄) j 0 ≡ declared_role toggle_text spans₄ (role_codes roles₄) 3 (get_or spans₄ j 0)) e refl

-- Crate `symbols`.
span-asks : 1 < 32
span-asks = omega arith

letters-asks : Inside toggle_text 3233
letters-asks = inside 3233 tt

find-asks : Inside names₄.text.now 3233 × (4 ≤ names₄.count)
find-asks = (inside 3233 tt, omega arith)

-- x is bound
push-asks : Inside names₃.text.now 1697 × (names₃.count < 65536)
push-asks = (inside 1697 tt, omega arith)

-- the last bracket
pop-asks : 0 < names₄.count
pop-asks = omega arith

role-asks : Inside names₄.text.now 3233 × (4 ≤ names₄.count) × (3 ≤ 4) × Roles (role_codes roles₄) 3
role-asks = (inside 3233 tt, omega arith, omega arith, named₃)

-- `two` in the pattern at 111; so asks `find_declared` too
declared-role-asks : Inside names₄.text.now 3555 × (3 ≤ names₄.count) × Roles (role_codes roles₄) 3
    × BoundRoles names₄.text.now names₄.spans (role_codes roles₄) 3 names₄.count
declared-role-asks = (inside 3555 tt, omega arith, named₃, x-bound)

-- Crate `scoping`. The type's name is kept until `one`, its first constructor.
abbrev pub pendings : List ℕ
pendings = padded (163 ∷ [])

pub pendings-long : length pendings ≡ 65536
pendings-long = padded-long (163 ∷ []) (omega arith)

pub bit-pending : (k : ℕ) → k < 1 → Inside toggle_text (get_or pendings k 0)
bit-pending zero h = inside 163 tt
bit-pending (suc k) h = absurd (omega arith)

pub none-pending : (text : List ℕ) (k : ℕ) → k < 0 → Inside text (get_or pendings k 0)
none-pending text k h = absurd (omega arith)

-- at `one`, at the first `two`, after it, and at x at 101, in `IF x MATCHES two`
abbrev pub scope_one : Scope
scope_one = record {
  names = names₀;
  roles = roles₀;
  base = 0;
  pendings = pendings;
  waiting = 1;
  above = omega arith;
  named = no-roles;
  bound_roles = none-bound toggle_text spans₀ (role_codes roles₀) 0;
  pendings_long = pendings-long;
  few_waiting = omega arith;
  pendings_inside = bit-pending;
}

abbrev pub scope_two : Scope
scope_two = record {
  names = names₂;
  roles = roles₂;
  base = 2;
  pendings = pendings;
  waiting = 0;
  above = omega arith;
  named = named₂;
  bound_roles = none-bound toggle_text spans₂ (role_codes roles₂) 2;
  pendings_long = pendings-long;
  few_waiting = omega arith;
  pendings_inside = none-pending toggle_text;
}

abbrev pub scope_three : Scope
scope_three = record {
  names = names₃;
  roles = roles₃;
  base = 3;
  pendings = pendings;
  waiting = 0;
  above = omega arith;
  named = named₃;
  bound_roles = none-bound toggle_text spans₃ (role_codes roles₃) 3;
  pendings_long = pendings-long;
  few_waiting = omega arith;
  pendings_inside = none-pending toggle_text;
}

abbrev pub scope_x : Scope
scope_x = record {
  names = names₄;
  roles = roles₄;
  base = 3;
  pendings = pendings;
  waiting = 0;
  above = omega arith;
  named = named₃;
  bound_roles = x-bound;
  pendings_long = pendings-long;
  few_waiting = omega arith;
  pendings_inside = none-pending toggle_text;
}

-- the names in scope there
scope-at-x : held scope_x
    ≡ scope [] ((120 ∷ []) ∷ [])
    (declared_as (116 ∷ 119 ∷ 111 ∷ []) a_constructor ∷ declared_as (111 ∷ 110 ∷ 101 ∷ []) a_constructor ∷ declared_as (98 ∷ 105 ∷ 116 ∷ []) a_type ∷ at_first)
unfolding toggle_text
scope-at-x = refl

-- `two` is declared as a constructor
declare-asks : Inside scope_two.names.text.now 547 × (scope_two.names.count < 65536) × (scope_two.base ≡ scope_two.names.count) × (role_code Constructor < 2)
declare-asks = (inside 547 tt, omega arith, refl, omega arith)

bind-asks : Inside scope_three.names.text.now 1697 × (scope_three.names.count < 65536)
bind-asks = (inside 1697 tt, omega arith)

declare-pending-asks : (scope_one.base ≡ scope_one.names.count) × (scope_one.base + scope_one.waiting ≤ 65535)
declare-pending-asks = (refl, omega arith)

-- so ask `NameRule::at` and `Effect::at` of the state
admits-asks : Inside scope_x.names.text.now 3233 × (13 < 47)
admits-asks = (inside 3233 tt, omega arith)

effect-asks : (13 < 47) × (10 < 18)
effect-asks = (omega arith, omega arith)

note-first-asks : Inside scope_one.names.text.now 355 × (scope_one.names.count + scope_one.waiting < 65535) × (4 < 47)
note-first-asks = (inside 355 tt, omega arith, omega arith)

note-next-asks : Inside scope_two.names.text.now 547 × (scope_two.names.count + scope_two.waiting < 65535) × (6 < 47)
note-next-asks = (inside 547 tt, omega arith, omega arith)

-- so asks `note_token` of `resolving` too
note-name-asks : Inside scope_x.names.text.now 3233 × (scope_x.names.count + scope_x.waiting < 65535) × (13 < 47)
note-name-asks = (inside 3233 tt, omega arith, omega arith)

-- the last bracket; so ask `bind_pending` and `unbind` too
note-other-asks : scope_x.names.count + scope_x.waiting < 65535
note-other-asks = omega arith

-- the second `bit` of `TYPE two = (bit, bit)`, at 39 in the parity checker: bit, hi and lo are declared, and two is kept for later
abbrev parity_spans : List ℕ
parity_spans = padded (163 ∷ 354 ∷ 514 ∷ 0 ∷ [])

abbrev parity_heads : List ℕ
parity_heads = set heads₁ 3329 2

abbrev parity_links : List ℕ
parity_links = set (set links₁ 1 (get_or heads₁ 3329 0)) 2 (get_or parity_heads 3459 0)

pub parity-hashed : Hashed parity_text 3 parity_spans parity_links (set parity_heads 3459 3)
unfolding parity_text
parity-hashed =
    hashed-more
    (hashed-more
    (hashed-more (none-hashed-yet parity_text) 163 3341 (inside-parity 163 tt) (omega arith) refl (omega arith))
    354 3329 (inside-parity 354 tt) (omega arith) refl (omega arith))
    514 3459 (inside-parity 514 tt) (omega arith) refl (omega arith)

abbrev two_pending : List ℕ
two_pending = padded (867 ∷ [])

pub two-pending : (k : ℕ) → k < 1 → Inside parity_text (get_or two_pending k 0)
two-pending zero h = inside-parity 867 tt
two-pending (suc k) h = absurd (omega arith)

abbrev pub scope_pair : Scope
scope_pair = record {
  names = record {
    text = lent parity_text;
    count = 3;
    spans = parity_spans;
    links = parity_links;
    heads = set parity_heads 3459 3;
    hashed = parity-hashed;
  };
  roles = roles₃;
  base = 3;
  pendings = two_pending;
  waiting = 1;
  above = omega arith;
  named = named₃;
  bound_roles = none-bound parity_text parity_spans (role_codes roles₃) 3;
  pendings_long = padded-long (867 ∷ []) (omega arith);
  few_waiting = omega arith;
  pendings_inside = two-pending;
}

note-pair-asks : Inside scope_pair.names.text.now 1251 × (scope_pair.names.count + scope_pair.waiting < 65535) × (9 < 47)
note-pair-asks = (inside-parity 1251 tt, omega arith, omega arith)
