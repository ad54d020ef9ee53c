-- The names in the tables, after one more is declared or bound.
-- Assumes nothing.
use Prim.Native.Nat.{ℕ, zero, suc, ◌+◌, ◌-◌, ◌≤◌, ◌<◌}
use native.Mathlib.Omega.{arith}
use native.Mathlib.Numerals.{add-one}
use native.Mathlib.Decide.{ℕ_discrete}
use mathlib.Core.Path.{◌≡◌, refl, sym, ap, ap₂, subst, ◌∙◌}
use mathlib.Core.List.{List, [], ◌∷◌}
use lib.ListN.{length, get_or, set, length-set}
use lib.Seq.{get_or-set_same, get_or-set_other}
use Rattle.name_rules.specs.Declared.{declared_as}
use Rattle.name_rules.specs.TokenWalk.{role_in}
use Rattle.symbols.specs.Names.{letters_at, declared_names, bound_names, role_named, Hashed, Roles, declared_role, BoundRoles}
use Rattle.std.proofs.lemmas.List.{map-set}
use Rattle.symbols.specs.RoleNumbers.{role_code, role_codes}
use Rattle.symbols.specs.declared.tables.NameTable.{NameTable}
use Rattle.symbols.specs.declared.meanings.Role.{Role}
use Rattle.scoping.specs.declared.scopes.Scope.{Scope}
use Rattle.scoping.specs.Scoped.{NameBound}

module _ (text spans : List ℕ) (n v : ℕ) where
  declared-kept : (roles roles' : List ℕ) (m : ℕ) → m ≤ n → ((k : ℕ) → k < m → get_or roles' k 0 ≡ get_or roles k 0)
      → declared_names text (set spans n v) roles' m ≡ declared_names text spans roles m
  declared-kept roles roles' zero h s = refl
  declared-kept roles roles' (suc k) h s =
      ap₂ (λ x r. declared_as (letters_at text x) (role_named r) ∷ declared_names text (set spans n v) roles' k)
      (get_or-set_other spans n k v 0 (λ e. omega arith)) (s k (omega arith))
      ∙ ap (λ D. declared_as (letters_at text (get_or spans k 0)) (role_named (get_or roles k 0)) ∷ D)
      (declared-kept roles roles' k (omega arith) (λ j l. s j (omega arith)))

  bound-kept : (base k : ℕ) → base + k ≤ n → bound_names text (set spans n v) base k ≡ bound_names text spans base k
  bound-kept base zero h = refl
  bound-kept base (suc k) h =
      ap₂ (λ x B. letters_at text x ∷ B) (get_or-set_other spans n (base + k) v 0 (λ e. omega arith)) (bound-kept base k (omega arith))

  bound-more : (base : ℕ) → base ≤ n → n < length spans
      → bound_names text (set spans n v) base (n + 1 - base) ≡ letters_at text v ∷ bound_names text spans base (n - base)
  bound-more base h l =
      let e : n + 1 - base ≡ suc (n - base) = omega arith in
      let f : base + (n - base) ≡ n = omega arith in
      ap (bound_names text (set spans n v) base) e
      ∙ ap₂ (λ x B. letters_at text x ∷ B) (ap (λ k. get_or (set spans n v) k 0) f ∙ get_or-set_same spans n v 0 l)
      (bound-kept base (n - base) (omega arith))

-- one declared name more
pub roles_more : {roles : List ℕ} {n : ℕ} (kind : ℕ) → Roles roles n → n < 65536 → kind < 2 → Roles (set roles n kind) (n + 1)
roles_more {roles} {n} kind r low few =
    record { roles_long = length-set roles n kind ∙ r.roles_long; few_roles = λ k h. go k h (ℕ_discrete k n) }
  where
    go : (k : ℕ) → k < n + 1 → Dec (k ≡ n) → get_or (set roles n kind) k 0 < 2
    go k h (yes f) =
        subst (λ x. x < 2)
        (sym (ap (λ j. get_or (set roles n kind) j 0) f ∙ get_or-set_same roles n kind 0 (omega (arith, r.roles_long)))) few
    go k h (no f) = subst (λ x. x < 2) (sym (get_or-set_other roles n k kind 0 f)) (r.few_roles k (omega (arith, f)))

pub declared-more : {roles spans' : List ℕ} {n : ℕ} (text spans : List ℕ) (span kind : ℕ) → spans' ≡ set spans n span → Roles roles n → n < 65536
    → length spans ≡ 65536
    → declared_names text spans' (set roles n kind) (n + 1) ≡ declared_as (letters_at text span) (role_named kind) ∷ declared_names text spans roles n
declared-more {roles} {n} text spans span kind e r low long =
    ap (λ s. declared_names text s (set roles n kind) (n + 1)) e
    ∙ ap (declared_names text (set spans n span) (set roles n kind)) (add-one n)
    ∙ ap₂ (λ x k. declared_as (letters_at text x) (role_named k) ∷ declared_names text (set spans n span) (set roles n kind) n)
    (get_or-set_same spans n span 0 (omega (arith, long))) (get_or-set_same roles n kind 0 (omega (arith, r.roles_long)))
    ∙ ap (λ D. declared_as (letters_at text span) (role_named kind) ∷ D)
    (declared-kept text spans n span roles (set roles n kind) n (omega arith) (λ k h. get_or-set_other roles n k kind 0 (λ z. omega arith)))

-- one bound name more
pub name-bound : {text spans roles spans' links' heads' : List ℕ} {span base n role : ℕ} → Hashed text (n + 1) spans' links' heads' → spans' ≡ set spans n span
    → length spans ≡ 65536 → n < 65536 → base ≤ n → Roles roles base → BoundRoles text spans roles base n → role ≡ declared_role text spans roles base span
    → NameBound text span base n spans roles spans' links' heads' (set roles n role)
name-bound {text} {spans} {roles} {spans'} {span} {base} {n} {role} t e long room low r b o = record {
  hashed = t;
  named = record {
    roles_long = length-set roles n role ∙ r.roles_long;
    few_roles = λ k h. subst (λ x. x < 2) (sym (get_or-set_other roles n k role 0 (λ z. omega arith))) (r.few_roles k h);
  };
  bound_roles = λ k h l. go k h l (ℕ_discrete k n);
  one_more = ap (λ l. bound_names text l base (n + 1 - base)) e ∙ bound-more text spans n span base low (omega (arith, long));
  same_declared = same;
}
  where
    same : declared_names text spans' (set roles n role) base ≡ declared_names text spans roles base
    same =
        ap (λ l. declared_names text l (set roles n role) base) e
        ∙ declared-kept text spans n span roles (set roles n role) base low (λ k h. get_or-set_other roles n k role 0 (λ z. omega arith))

    as_before : (k x : ℕ) → get_or spans' k 0 ≡ x
        → declared_role text spans roles base x ≡ declared_role text spans' (set roles n role) base (get_or spans' k 0)
    as_before k x f = ap₂ (λ v D. role_in (letters_at text v) [] D) (sym f) (sym same)

    go : (k : ℕ) → base ≤ k → k < n + 1 → Dec (k ≡ n)
        → get_or (set roles n role) k 0 ≡ declared_role text spans' (set roles n role) base (get_or spans' k 0)
    go k h l (yes f) =
        ap (λ j. get_or (set roles n role) j 0) f
        ∙ get_or-set_same roles n role 0 (omega (arith, r.roles_long))
        ∙ o
        ∙ as_before k span (ap₂ (λ s j. get_or s j 0) e f ∙ get_or-set_same spans n span 0 (omega (arith, long)))
    go k h l (no f) =
        get_or-set_other roles n k role 0 f
        ∙ b k h (omega (arith, f))
        ∙ as_before k (get_or spans k 0) (ap (λ s. get_or s k 0) e ∙ get_or-set_other spans n k span 0 f)

-- of a scope
pub scope-bound : (s : Scope) (t : NameTable) (span : ℕ) (role : Role)
    → (t.text.now ≡ s.names.text.now) × (t.count ≡ s.names.count + 1) × (t.spans ≡ set s.names.spans s.names.count span) → s.names.count < 65536
    → role_code role ≡ declared_role s.names.text.now s.names.spans (role_codes s.roles) s.base span
    → NameBound s.names.text.now span s.base s.names.count s.names.spans (role_codes s.roles) t.spans t.links t.heads
    (role_codes (set s.roles s.names.count role))
scope-bound s t span role p room e =
    subst (λ l. NameBound s.names.text.now span s.base s.names.count s.names.spans (role_codes s.roles) t.spans t.links t.heads l)
    (sym (map-set role_code s.roles s.names.count role))
    (name-bound (subst (λ n. Hashed s.names.text.now n t.spans t.links t.heads) p.1 (subst (λ x. Hashed x t.count t.spans t.links t.heads) p.0 t.hashed))
    p.2 s.names.hashed.spans_long room s.above s.named s.bound_roles e)
