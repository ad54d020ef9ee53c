-- What a name stands for, by the entry that a search finds.
-- Assumes nothing.
use Prim.Native.Nat.{ℕ, zero, suc, ◌+◌, ◌-◌, ◌≤◌, ◌<◌}
use native.Mathlib.Omega.{arith}
use native.Mathlib.Decide.{dec_lt}
use mathlib.Core.Path.{◌≡◌, refl, sym, ap, subst, ◌∙◌}
use mathlib.Core.Bool.{Bool, true, false, cond}
use mathlib.Core.List.{List, []}
use lib.ListN.{get_or}
use lib.Dec.{ltb}
use borrow.Author.Tests.{lt-ltb, le-ltb}
use Rattle.name_rules.specs.Declared.{same_name, input, DeclaredName}
use Rattle.name_rules.proofs.SameName.{same-equal}
use Rattle.name_rules.specs.TokenWalk.{role_in, role_number}
use Rattle.symbols.specs.Names.{letters_at, nearest, role_named, declared_names, bound_names, Roles, role_among, declared_role, BoundRoles}
use Rattle.symbols.specs.RoleNumbers.{role_code, role_codes}
use Rattle.symbols.specs.declared.meanings.Role.{Role as TableRole}
use Rattle.symbols.specs.declared.meanings.Role.TheVariants.{TypeName, Constructor, Input, Bound, Unknown}
use Rattle.std.proofs.Math.ListN.{get_or-map}
use Rattle.std.specs.Prelude.{nat_lt}
use Rattle.symbols.proofs.Search.{entry_name, nearest-below}

module _ (text spans roles : List ℕ) (base : ℕ) (w : List ℕ) where
  -- among the bound names
  bound-role : (D : List DeclaredName) (extra : ℕ)
      → role_in w (bound_names text spans base extra) D
      ≡ cond (ltb base (nearest text spans w (base + extra))) 3 (role_in w [] D)
  bound-role D zero =
      let e : base + 0 ≡ base = omega arith in
      sym
      (ap (λ x. cond x 3 (role_in w [] D))
      (le-ltb base (nearest text spans w (base + 0)) (subst (λ m. nearest text spans w m ≤ base) (sym e) (nearest-below text spans w base))))
  bound-role D (suc k) =
      let e : base + suc k ≡ suc (base + k) = omega arith in
      go (same_name w (entry_name text spans (base + k))) (bound-role D k)
      ∙ ap (λ m. cond (ltb base (nearest text spans w m)) 3 (role_in w [] D)) (sym e)
    where
      go : (x : Bool) → role_in w (bound_names text spans base k) D ≡ cond (ltb base (nearest text spans w (base + k))) 3 (role_in w [] D)
          → cond x 3 (role_in w (bound_names text spans base k) D)
          ≡ cond (ltb base (cond x (suc (base + k)) (nearest text spans w (base + k)))) 3 (role_in w [] D)
      go true again = sym (ap (λ x. cond x 3 (role_in w [] D)) (lt-ltb base (suc (base + k)) (omega arith)))
      go false again = again

  -- what is found among the declared ones is found there alone
  pub found-low : (extra : ℕ) → nearest text spans w (base + extra) ≤ base → nearest text spans w (base + extra) ≡ nearest text spans w base
  found-low zero h = let e : base + 0 ≡ base = omega arith in ap (nearest text spans w) e
  found-low (suc k) h =
      let e : base + suc k ≡ suc (base + k) = omega arith in
      ap (nearest text spans w) e
      ∙ go (same_name w (entry_name text spans (base + k))) (subst (λ m. nearest text spans w m ≤ base) e h) (found-low k)
    where
      go : (x : Bool) → cond x (suc (base + k)) (nearest text spans w (base + k)) ≤ base
          → (nearest text spans w (base + k) ≤ base → nearest text spans w (base + k) ≡ nearest text spans w base)
          → cond x (suc (base + k)) (nearest text spans w (base + k)) ≡ nearest text spans w base
      go true l again = absurd (omega arith)
      go false l again = again l

  -- the declared names
  abbrev by_entry : ℕ → ℕ
  by_entry zero = cond (same_name w input) 2 4
  by_entry (suc k) = get_or roles k 0

  role-again : (r : ℕ) → r < 2 → role_number (role_named r) ≡ r
  role-again zero h = refl
  role-again (suc zero) h = refl
  role-again (suc (suc r)) h = absurd (omega arith)

  declared-entry : (m : ℕ) → ((k : ℕ) → k < m → get_or roles k 0 < 2)
      → role_in w [] (declared_names text spans roles m) ≡ by_entry (nearest text spans w m)
  declared-entry zero few = refl
  declared-entry (suc k) few =
      go (same_name w (entry_name text spans k)) (declared-entry k (λ j h. few j (omega arith)))
    where
      go : (x : Bool) → role_in w [] (declared_names text spans roles k) ≡ by_entry (nearest text spans w k)
          → cond x (role_number (role_named (get_or roles k 0))) (role_in w [] (declared_names text spans roles k))
          ≡ by_entry (cond x (suc k) (nearest text spans w k))
      go true again = role-again (get_or roles k 0) (few k (omega arith))
      go false again = again

-- the name that a search finds has the letters that are looked for
nearest-letters : (text spans w : List ℕ) (m j : ℕ) → nearest text spans w m ≡ suc j → w ≡ entry_name text spans j
nearest-letters text spans w zero j e = absurd (omega arith)
nearest-letters text spans w (suc k) j e = go (same_name w (entry_name text spans k)) refl e (nearest-letters text spans w k j)
  where
    go : (x : Bool) → same_name w (entry_name text spans k) ≡ x → cond x (suc k) (nearest text spans w k) ≡ suc j
        → (nearest text spans w k ≡ suc j → w ≡ entry_name text spans j) → w ≡ entry_name text spans j
    go true s f again = let g : k ≡ j = omega arith in same-equal w (entry_name text spans k) s ∙ ap (entry_name text spans) g
    go false s f again = again f

-- the ways out of the search for a name's role, by the number of the entry that is found, or 0
module _ (text spans roles : List ℕ) (base limit span number : ℕ) (low : base ≤ limit) (r : Roles roles base)
    (found : number ≡ nearest text spans (letters_at text span) limit)
  where
    found-whole : number ≡ nearest text spans (letters_at text span) (base + (limit - base))
    found-whole = let e : limit ≡ base + (limit - base) = omega arith in found ∙ ap (nearest text spans (letters_at text span)) e

    by-bound : (x : Bool) → ltb base number ≡ x
        → role_among text spans roles base (limit - base) span
        ≡ cond x 3 (role_in (letters_at text span) [] (declared_names text spans roles base))
    by-bound x e =
        bound-role text spans roles base (letters_at text span) (declared_names text spans roles base) (limit - base)
        ∙ ap (λ y. cond y 3 (role_in (letters_at text span) [] (declared_names text spans roles base)))
        (ap (ltb base) (sym found-whole) ∙ e)

    pub bound-found : base < number → 3 ≡ role_among text spans roles base (limit - base) span
    bound-found h = sym (by-bound true (lt-ltb base number h))

    -- what is found among the declared ones
    pub declared-there : number ≤ base → number ≡ nearest text spans (letters_at text span) base
    declared-there h = found-whole ∙ found-low text spans roles base (letters_at text span) (limit - base) (subst (λ x. x ≤ base) found-whole h)

    by-declared : number ≤ base → role_among text spans roles base (limit - base) span ≡ by_entry text spans roles base (letters_at text span) number
    by-declared h =
        by-bound false (le-ltb base number h)
        ∙ declared-entry text spans roles base (letters_at text span) base r.few_roles
        ∙ ap (by_entry text spans roles base (letters_at text span)) (sym (declared-there h))

    pub nothing-found : 0 ≡ number → cond (same_name (letters_at text span) input) 2 4 ≡ role_among text spans roles base (limit - base) span
    nothing-found z = sym (by-declared (omega arith) ∙ ap (by_entry text spans roles base (letters_at text span)) (sym z))

    -- and for its role among the declared names alone
    alone : number ≤ base → role_among text spans roles base (limit - base) span ≡ declared_role text spans roles base span
    alone h = by-bound false (le-ltb base number h)

    pub nothing-alone : 0 ≡ number → cond (same_name (letters_at text span) input) 2 4 ≡ declared_role text spans roles base span
    nothing-alone z = nothing-found z ∙ alone (omega arith)

    module _ (k : ℕ) (entry : suc k ≡ number) where
      pub declared-found : number ≤ base → get_or roles k 0 ≡ role_among text spans roles base (limit - base) span
      declared-found h = sym (by-declared h ∙ ap (by_entry text spans roles base (letters_at text span)) (sym entry))

      pub entry-alone : BoundRoles text spans roles base limit → get_or roles k 0 ≡ declared_role text spans roles base span
      entry-alone b = go (dec_lt base number)
        where
          go : Dec (base < number) → get_or roles k 0 ≡ declared_role text spans roles base span
          go (yes h) =
              let l = nearest-below text spans (letters_at text span) limit in
              b k (omega arith) (omega (arith, found))
              ∙ ap (λ w. role_in w [] (declared_names text spans roles base))
              (sym (nearest-letters text spans (letters_at text span) limit k (sym found ∙ sym entry)))
          go (no h) = declared-found (omega (arith, h)) ∙ alone (omega (arith, h))

      -- and for its entry among them
      pub declared-nowhere : BoundRoles text spans roles base limit → base < number → 1 < get_or roles k 0
          → 0 ≡ nearest text spans (letters_at text span) base
      declared-nowhere b h l =
          go (nearest text spans (letters_at text span) base) refl
        where
          go : (j : ℕ) → nearest text spans (letters_at text span) base ≡ j → 0 ≡ j
          go zero e = refl
          go (suc j) e =
              let f : get_or roles k 0 ≡ get_or roles j 0
              = entry-alone b
              ∙ declared-entry text spans roles base (letters_at text span) base r.few_roles
              ∙ ap (by_entry text spans roles base (letters_at text span)) e in
              let u = subst (λ x. x ≤ base) e (nearest-below text spans (letters_at text span) base) in
              let v = r.few_roles j (omega arith) in
              absurd (omega arith)

-- a role in the table, and its number
pub code-at : (roles : List TableRole) (k : ℕ) → role_code (get_or roles k TypeName) ≡ get_or (role_codes roles) k 0
code-at roles k = sym (get_or-map role_code roles k TypeName)

pub not-declared : (r : TableRole) → nat_lt (role_code r) 2 ≡ false → 1 < role_code r
not-declared TypeName h = absurd (let z : ◌≡◌ {A = ℕ} 0 1 = cc in omega arith)
not-declared Constructor h = absurd (let z : ◌≡◌ {A = ℕ} 0 1 = cc in omega arith)
not-declared Input h = omega arith
not-declared Bound h = omega arith
not-declared Unknown h = omega arith

pub neither-declared : (r : TableRole) → (r ≡ TypeName → ⊥) → (r ≡ Constructor → ⊥) → 1 < role_code r
neither-declared TypeName n m = absurd (n refl)
neither-declared Constructor n m = absurd (m refl)
neither-declared Input n m = omega arith
neither-declared Bound n m = omega arith
neither-declared Unknown n m = omega arith
