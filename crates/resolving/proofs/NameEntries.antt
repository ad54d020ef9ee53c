-- A declared name has the numbers of the entry that a search finds; a bound one the distance of its entry from the last.
-- Assumes nothing.
use Prim.Native.Nat.{ℕ, zero, suc, ◌+◌, ◌-◌, ◌≤◌, ◌<◌}
use native.Mathlib.Omega.{arith}
use mathlib.Core.Path.{◌≡◌, refl, sym, ap, ap₂, subst, ◌∙◌}
use mathlib.Core.Bool.{Bool, true, false, cond}
use mathlib.Core.List.{List, [], ◌∷◌}
use lib.ListN.{get_or}
use lib.Dec.{eqb}
use borrow.Author.Tests.{ne_eqb}
use Rattle.name_rules.specs.Declared.{Role, the_input, DeclaredName, declared_as, same_name, is_among, is_declared, type_role, constructor_role, input, at_first}
use Rattle.symbols.specs.Names.{letters_at, nearest, role_named, declared_names, bound_names, Roles}
use Rattle.symbols.proofs.Search.{nearest-below}
use Rattle.symbols.proofs.Roles.{found-low}
use Rattle.layout.specs.Resolved.{distance}
use Rattle.instructions.specs.Instruction.{instruction_of, use_name}
use Rattle.instructions.specs.TokenOrder.{named_from, types_among, constructors_among, declared_op, declared_said, value_said}
use Rattle.resolving.specs.Said.{Numbered, types_below, ranks_below, entry_in, role_at, named_said}

module _ (text spans roles : List ℕ) where
  pub type-names-counted : (m : ℕ) → types_among (declared_names text spans roles m) ≡ types_below roles m
  type-names-counted zero = refl
  type-names-counted (suc k) = go (get_or roles k 0) (type-names-counted k)
    where
      go : (r : ℕ) → types_among (declared_names text spans roles k) ≡ types_below roles k
          → types_among (declared_as (letters_at text (get_or spans k 0)) (role_named r) ∷ declared_names text spans roles k)
          ≡ cond (eqb r 0) (suc (types_below roles k)) (types_below roles k)
      go zero again = ap suc again
      go (suc r) again =
          again ∙ sym (ap (λ x. cond x (suc (types_below roles k)) (types_below roles k)) (ne_eqb (suc r) 0 (λ z. omega arith)))

  pub ranks-counted : (m : ℕ) → constructors_among (declared_names text spans roles m) ≡ ranks_below roles m
  ranks-counted zero = refl
  ranks-counted (suc k) = go (get_or roles k 0) (ranks-counted k)
    where
      go : (r : ℕ) → constructors_among (declared_names text spans roles k) ≡ ranks_below roles k
          → constructors_among (declared_as (letters_at text (get_or spans k 0)) (role_named r) ∷ declared_names text spans roles k)
          ≡ cond (eqb r 0) 0 (suc (ranks_below roles k))
      go zero again = refl
      go (suc r) again = ap suc again ∙ sym (ap (λ x. cond x 0 (suc (ranks_below roles k))) (ne_eqb (suc r) 0 (λ z. omega arith)))

  -- a number of the names from one on is in a table of these numbers
  module _ (count : List DeclaredName → ℕ) (numbers : List ℕ) (w : List ℕ) (first : count at_first ≡ 0) (empty : count [] ≡ 0) where
    entry-counted : (m : ℕ) → ((k : ℕ) → k < m → get_or numbers k 0 ≡ count (declared_names text spans roles (suc k)))
        → count (named_from w (declared_names text spans roles m)) ≡ entry_in numbers (nearest text spans w m)
    entry-counted zero f = go (same_name w input)
      where
        go : (x : Bool) → count (cond x at_first []) ≡ 0
        go true = first
        go false = empty
    entry-counted (suc k) f =
        go (same_name w (letters_at text (get_or spans k 0))) (entry-counted k (λ j h. f j (omega arith))) (f k (omega arith))
      where
        go : (x : Bool) → count (named_from w (declared_names text spans roles k)) ≡ entry_in numbers (nearest text spans w k)
            → get_or numbers k 0 ≡ count (declared_names text spans roles (suc k))
            → count (cond x (declared_names text spans roles (suc k)) (named_from w (declared_names text spans roles k)))
            ≡ entry_in numbers (cond x (suc k) (nearest text spans w k))
        go true again e = sym e
        go false again e = again

  -- so is its role
  module _ (role : Role → Bool) (kind : ℕ) (w : List ℕ) (same : (r : ℕ) → r < 2 → role (role_named r) ≡ eqb r kind) (none : role the_input ≡ false) where
    entry-role : (m : ℕ) → ((k : ℕ) → k < m → get_or roles k 0 < 2)
        → is_declared role w (declared_names text spans roles m) ≡ role_at kind roles (nearest text spans w m)
    entry-role zero f = go (same_name w input)
      where
        go : (x : Bool) → cond x (role the_input) false ≡ false
        go true = none
        go false = refl
    entry-role (suc k) f =
        go (same_name w (letters_at text (get_or spans k 0))) (entry-role k (λ j h. f j (omega arith))) (same (get_or roles k 0) (f k (omega arith)))
      where
        go : (x : Bool) → is_declared role w (declared_names text spans roles k) ≡ role_at kind roles (nearest text spans w k)
            → role (role_named (get_or roles k 0)) ≡ eqb (get_or roles k 0) kind
            → cond x (role (role_named (get_or roles k 0))) (is_declared role w (declared_names text spans roles k))
            ≡ role_at kind roles (cond x (suc k) (nearest text spans w k))
        go true again e = e
        go false again e = again

  -- a bound name, and one that is not bound
  module _ (base : ℕ) (w : List ℕ) where
    bound-distance : (extra : ℕ) → base < nearest text spans w (base + extra)
        → (is_among w (bound_names text spans base extra) ≡ true)
        × (distance w (bound_names text spans base extra) + nearest text spans w (base + extra) ≡ base + extra)
    bound-distance zero h =
        let e : base + 0 ≡ base = omega arith in
        let l = subst (λ m. nearest text spans w m ≤ base) (sym e) (nearest-below text spans w base) in
        absurd (omega arith)
    bound-distance (suc k) h =
        let e : base + suc k ≡ suc (base + k) = omega arith in
        let b = go (same_name w (letters_at text (get_or spans (base + k) 0))) (subst (λ m. base < nearest text spans w m) e h) (bound-distance k) in
        (b.0, subst (λ m. distance w (bound_names text spans base (suc k)) + nearest text spans w m ≡ m) (sym e) b.1)
      where
        go : (x : Bool) → base < cond x (suc (base + k)) (nearest text spans w (base + k))
            → (base < nearest text spans w (base + k)
            → (is_among w (bound_names text spans base k) ≡ true)
            × (distance w (bound_names text spans base k) + nearest text spans w (base + k) ≡ base + k))
            → (cond x true (is_among w (bound_names text spans base k)) ≡ true)
            × (cond x 0 (suc (distance w (bound_names text spans base k))) + cond x (suc (base + k)) (nearest text spans w (base + k)) ≡ suc (base + k))
        go true l again = (refl, omega arith)
        go false l again = let a = again l in (a.0, let d = a.1 in omega arith)

    unbound-distance : (extra : ℕ) → nearest text spans w (base + extra) ≤ base
        → (is_among w (bound_names text spans base extra) ≡ false) × (distance w (bound_names text spans base extra) ≡ extra)
    unbound-distance zero h = (refl, refl)
    unbound-distance (suc k) h =
        let e : base + suc k ≡ suc (base + k) = omega arith in
        go (same_name w (letters_at text (get_or spans (base + k) 0))) (subst (λ m. nearest text spans w m ≤ base) e h) (unbound-distance k)
      where
        go : (x : Bool) → cond x (suc (base + k)) (nearest text spans w (base + k)) ≤ base
            → (nearest text spans w (base + k) ≤ base
            → (is_among w (bound_names text spans base k) ≡ false) × (distance w (bound_names text spans base k) ≡ k))
            → (cond x true (is_among w (bound_names text spans base k)) ≡ false) × (cond x 0 (suc (distance w (bound_names text spans base k))) ≡ suc k)
        go true l again = absurd (omega arith)
        go false l again = let a = again l in (a.0, ap suc a.1)

type-kind : (r : ℕ) → r < 2 → type_role (role_named r) ≡ eqb r 0
type-kind zero h = refl
type-kind (suc zero) h = refl
type-kind (suc (suc r)) h = absurd (omega arith)

constructor-kind : (r : ℕ) → r < 2 → constructor_role (role_named r) ≡ eqb r 1
constructor-kind zero h = refl
constructor-kind (suc zero) h = refl
constructor-kind (suc (suc r)) h = absurd (omega arith)

-- what a name says, by the entry that is found
module _ (text spans : List ℕ) {roles types ranks : List ℕ} {base : ℕ} (r : Roles roles base) (s : Numbered roles types ranks base) (w : List ℕ) where
  abbrev D : List DeclaredName
  D = declared_names text spans roles base

  named-types : types_among (named_from w D) ≡ entry_in types (nearest text spans w base)
  named-types =
      entry-counted text spans roles types_among types w refl refl base (λ k h. s.types_right k h ∙ sym (type-names-counted text spans roles (suc k)))

  named-ranks : constructors_among (named_from w D) ≡ entry_in ranks (nearest text spans w base)
  named-ranks =
      entry-counted text spans roles constructors_among ranks w refl refl base (λ k h. s.ranks_right k h ∙ sym (ranks-counted text spans roles (suc k)))

  pub declared-said : (op : ℕ) (k : ℕ) → k ≡ nearest text spans w base → declared_said op w D ≡ instruction_of op (entry_in types k) (entry_in ranks k)
  declared-said op k e =
      ap₂ (instruction_of op) (named-types ∙ ap (entry_in types) (sym e)) (named-ranks ∙ ap (entry_in ranks) (sym e))

  pub named-said : (op : ℕ) (delayed : Bool) (k said : ℕ) → k ≡ nearest text spans w base → said ≡ declared_op op delayed (role_at 0 roles k)
      → named_said op delayed w D ≡ instruction_of said (entry_in types k) (entry_in ranks k)
  named-said op delayed k said e f =
      ap (λ x. declared_said (declared_op op delayed x) w D)
      (entry-role text spans roles type_role 0 w type-kind refl base r.few_roles ∙ ap (role_at 0 roles) (sym e))
      ∙ ap (λ x. declared_said x w D) (sym f)
      ∙ declared-said said k e

  module _ (n k : ℕ) (h : base ≤ n) (found : k ≡ nearest text spans w n) where
    abbrev B : List (List ℕ)
    B = bound_names text spans base (n - base)

    whole : k ≡ nearest text spans w (base + (n - base))
    whole = let e : n ≡ base + (n - base) = omega arith in found ∙ ap (nearest text spans w) e

    pub bound-below : k ≤ n
    bound-below = subst (λ x. x ≤ n) (sym found) (nearest-below text spans w n)

    pub bound-said : base < k → value_said w B D ≡ use_name (n - k)
    bound-said l =
        let b = bound-distance text spans roles base w (n - base) (subst (λ x. base < x) whole l) in
        let d = b.1 in
        let e : distance w B ≡ n - k = omega (arith, whole) in
        ap (λ x. cond x (use_name (distance w B)) (cond (is_declared constructor_role w D) (declared_said 6 w D) (use_name (distance w B)))) b.0 ∙ ap use_name e

    module _ (l : k ≤ base) where
      low : k ≡ nearest text spans w base
      low = whole ∙ found-low text spans roles base w (n - base) (subst (λ x. x ≤ base) whole l)

      unbound : value_said w B D ≡ cond (role_at 1 roles k) (declared_said 6 w D) (use_name (n - base))
      unbound =
          let u = unbound-distance text spans roles base w (n - base) (subst (λ x. x ≤ base) whole l) in
          ap (λ x. cond x (use_name (distance w B)) (cond (is_declared constructor_role w D) (declared_said 6 w D) (use_name (distance w B)))) u.0
          ∙ ap₂ (λ x y. cond x (declared_said 6 w D) (use_name y))
          (entry-role text spans roles constructor_role 1 w constructor-kind refl base r.few_roles ∙ ap (role_at 1 roles) (sym low)) u.1

      pub constructor-said : true ≡ role_at 1 roles k → value_said w B D ≡ instruction_of 6 (entry_in types k) (entry_in ranks k)
      constructor-said e =
          unbound ∙ ap (λ x. cond x (declared_said 6 w D) (use_name (n - base))) (sym e) ∙ declared-said 6 k low

      pub input-said : false ≡ role_at 1 roles k → value_said w B D ≡ use_name (n - base)
      input-said e = unbound ∙ ap (λ x. cond x (declared_said 6 w D) (use_name (n - base))) (sym e)

-- there are no more types or constructors than names
pub types_few : (roles : List ℕ) (k : ℕ) → types_below roles k ≤ k
types_few roles zero = omega arith
types_few roles (suc k) = go (eqb (get_or roles k 0) 0) (types_few roles k)
  where
    go : (x : Bool) → types_below roles k ≤ k → cond x (suc (types_below roles k)) (types_below roles k) ≤ suc k
    go true h = omega arith
    go false h = omega arith

pub ranks-few : (roles : List ℕ) (k : ℕ) → ranks_below roles k ≤ k
ranks-few roles zero = omega arith
ranks-few roles (suc k) = go (eqb (get_or roles k 0) 0) (ranks-few roles k)
  where
    go : (x : Bool) → ranks_below roles k ≤ k → cond x 0 (suc (ranks_below roles k)) ≤ suc k
    go true h = omega arith
    go false h = omega arith
