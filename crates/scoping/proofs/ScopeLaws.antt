-- The scope that the tables hold, after a name is put into them or taken from them.
-- Assumes nothing.
use Prim.Native.Nat.{ℕ, zero, suc, ◌+◌, ◌-◌, ◌≤◌, ◌<◌}
use native.Mathlib.Omega.{arith}
use native.Mathlib.Numerals.{add-one}
use mathlib.Core.Path.{◌≡◌, refl, sym, ap, ap₂, subst, ◌∙◌}
use mathlib.Core.Bool.{Bool, true, false, cond}
use mathlib.Core.List.{List, [], ◌∷◌}
use lib.ListN.{length, get_or, set}
use lib.Seq.{get_or-set_same, get_or-set_other}
use Rattle.name_rules.specs.Declared.{declared_as, a_type}
use Rattle.grammar.specs.Rows.{State}
use Rattle.name_rules.specs.TokenWalk.{NameScope, scope, declare_pending, ScopeEffect, may_take, holds_in, met_in, left_by}
use Rattle.name_rules.specs.TokenWalk.{pends, binds, bind_pending, unbind}
use Rattle.symbols.specs.Names.{letters_at, declared_names, bound_names, role_named, Hashed, Roles}
use Rattle.symbols.specs.RoleNumbers.{role_codes}
use Rattle.symbols.specs.declared.tables.NameTable.{NameTable}
use Rattle.symbols.proofs.Search.{entry-read}
use Rattle.scoping.specs.declared.scopes.Scope.{Scope}
use Rattle.scoping.specs.Scoped.{pending_names, held_scope, Scoping, effect_of}
use Rattle.scoping.specs.Held.{held, Declared, Bound, ScopeAfter, Noted}
use Rattle.scoping.specs.TableNumbers.{effect_code}
use Rattle.scoping.specs.declared.tables.Effect.{Effect}

-- nothing changes but the room
pub roomier : {text : List ℕ} {room base n m : ℕ} {spans links heads roles pendings : List ℕ} (more : ℕ) → room ≤ more → more ≤ 65536
    → Scoping text room base n m spans links heads roles pendings → Scoping text more base n m spans links heads roles pendings
roomier more h l s = record {
  hashed = s.hashed;
  named = s.named;
  bound_roles = s.bound_roles;
  above = s.above;
  pendings_long = s.pendings_long;
  pendings_inside = s.pendings_inside;
  few = omega (arith, s.few);
  roomy = l;
}

-- the facts of a scope, with so much room
pub scoping-of : (s : Scope) (room : ℕ) → s.names.count + s.waiting ≤ room → room ≤ 65536
    → Scoping s.names.text.now room s.base s.names.count s.waiting s.names.spans s.names.links s.names.heads (role_codes s.roles) s.pendings
scoping-of s room f r = record {
  hashed = s.names.hashed;
  named = s.named;
  bound_roles = s.bound_roles;
  above = s.above;
  pendings_long = s.pendings_long;
  pendings_inside = s.pendings_inside;
  few = f;
  roomy = r;
}

-- the tables as they are made
pub first-scoping : {text spans links heads roles pendings : List ℕ} → Hashed text 0 spans links heads → Roles roles 0 → length pendings ≡ 65536
    → Scoping text 0 0 0 0 spans links heads roles pendings
first-scoping t r l = record {
  hashed = t;
  named = r;
  bound_roles = λ k h j. absurd (omega arith);
  above = omega arith;
  pendings_long = l;
  pendings_inside = λ k h. absurd (omega arith);
  few = omega arith;
  roomy = omega arith;
}

pub after : {S : NameScope} {room : ℕ} (old new : Scope) → new.names.text.now ≡ old.names.text.now → new.names.count + new.waiting ≤ room → room ≤ 65536
    → held new ≡ S → ScopeAfter S room old new
after {room} old new e f r h = record {
  same_text = e;
  rescoped = record {
    scoping =
        subst
        (λ t. Scoping t room new.base new.names.count new.waiting new.names.spans new.names.links new.names.heads (role_codes new.roles) new.pendings) e
        (scoping-of new room f r);
    same_scope =
        ap (λ t. held_scope t new.base new.names.count new.waiting new.names.spans (role_codes new.roles) new.pendings) (sym e) ∙ h;
  };
}

pub after-held : {S : NameScope} {room : ℕ} {old new : Scope} → ScopeAfter S room old new → held new ≡ S
after-held {new} a =
    ap (λ t. held_scope t new.base new.names.count new.waiting new.names.spans (role_codes new.roles) new.pendings) a.same_text ∙ a.rescoped.same_scope

-- the name that waits on top
pub pending-top : (text pendings : List ℕ) (m : ℕ) → (m ≡ 0 → ⊥)
    → pending_names text pendings m ≡ letters_at text (get_or pendings (m - 1) 0) ∷ pending_names text pendings (m - 1)
pending-top text pendings m h = let e : m ≡ suc (m - 1) = omega (arith, h) in ap (pending_names text pendings) e

no_bound : (text spans : List ℕ) (base : ℕ) → bound_names text spans base (base - base) ≡ []
no_bound text spans base = let e : base - base ≡ 0 = omega arith in ap (bound_names text spans base) e

module _ (s : Scope) where
  abbrev text : List ℕ
  text = s.names.text.now

  abbrev waits : List (List ℕ)
  waits = pending_names text s.pendings s.waiting

  abbrev bounds : List (List ℕ)
  bounds = bound_names text s.names.spans s.base (s.names.count - s.base)

  -- where nothing is bound
  held-bare : s.base ≡ s.names.count → held s ≡ scope waits [] (declared_names text s.names.spans (role_codes s.roles) s.base)
  held-bare e =
      ap (λ k. scope waits (bound_names text s.names.spans s.base (k - s.base)) (declared_names text s.names.spans (role_codes s.roles) s.base)) (sym e)
      ∙ ap (λ B. scope waits B (declared_names text s.names.spans (role_codes s.roles) s.base)) (no_bound text s.names.spans s.base)

  bound_some : s.base < s.names.count
      → bounds ≡ letters_at text (get_or s.names.spans (s.base + (s.names.count - s.base - 1)) 0)
      ∷ bound_names text s.names.spans s.base (s.names.count - s.base - 1)
  bound_some h = let e : s.names.count - s.base ≡ suc (s.names.count - s.base - 1) = omega arith in ap (bound_names text s.names.spans s.base) e

  -- the nearest bound name goes
  pub unbound-held : (t : NameTable) → s.base < s.names.count → t.text.now ≡ text → t.count ≡ s.names.count - 1 → t.spans ≡ s.names.spans
      → held_scope t.text.now s.base t.count s.waiting t.spans (role_codes s.roles) s.pendings ≡ unbind (held s)
  unbound-held t h e f g =
      let o : t.count - s.base ≡ s.names.count - s.base - 1 = omega arith in
      ap₂ (λ x l. held_scope x s.base t.count s.waiting l (role_codes s.roles) s.pendings) e g
      ∙ ap (λ k. scope waits (bound_names text s.names.spans s.base k) (declared_names text s.names.spans (role_codes s.roles) s.base)) o
      ∙ sym (ap (λ B. unbind (scope waits B (declared_names text s.names.spans (role_codes s.roles) s.base))) (bound_some h))

-- after one declared name more
module _ {span kind : ℕ} {old new : Scope} (d : Declared span kind old new) (bare : old.base ≡ old.names.count) where
  declared-held : (m : ℕ)
      → held_scope new.names.text.now new.base new.names.count m new.names.spans (role_codes new.roles) new.pendings
      ≡ scope (pending_names (text old) old.pendings m) []
      (declared_as (letters_at (text old) span) (role_named kind) ∷ declared_names (text old) old.names.spans (role_codes old.roles) old.base)
  declared-held m =
      ap₂ (λ t p. held_scope t new.base new.names.count m new.names.spans (role_codes new.roles) p) d.same_text d.same_pendings
      ∙ ap₂ (λ b n. held_scope (text old) b n m new.names.spans (role_codes new.roles) old.pendings) d.more_declared (d.more_names ∙ ap (λ n. n + 1) (sym bare))
      ∙ ap₂ (λ B D. scope (pending_names (text old) old.pendings m) B D) (no_bound (text old) new.names.spans (old.base + 1)) d.declared

pub type-held : (x : ℕ) {old new : Scope} → (old.waiting ≡ 0 → ⊥) → old.base ≡ old.names.count → Declared (get_or old.pendings (old.waiting - 1) x) 0 old new
    → held_scope new.names.text.now new.base new.names.count (old.waiting - 1) new.names.spans (role_codes new.roles) new.pendings ≡ declare_pending (held old)
type-held x {old} z bare d =
    declared-held d bare (old.waiting - 1)
    ∙ ap
    (λ v. scope (pending_names (text old) old.pendings (old.waiting - 1)) []
    (declared_as v a_type ∷ declared_names (text old) old.names.spans (role_codes old.roles) old.base))
    (entry-read (text old) old.pendings (old.waiting - 1) x (let h = old.few_waiting in let l = old.pendings_long in omega (arith, z)))
    ∙ sym
    (ap declare_pending
    (held-bare old bare
    ∙ ap (λ P. scope P [] (declared_names (text old) old.names.spans (role_codes old.roles) old.base)) (pending-top (text old) old.pendings old.waiting z)))

-- after one bound name more
module _ {span : ℕ} {old new : Scope} (b : Bound span old new) where
  bound-held : (m : ℕ)
      → held_scope new.names.text.now new.base new.names.count m new.names.spans (role_codes new.roles) new.pendings
      ≡ scope (pending_names (text old) old.pendings m) (letters_at (text old) span ∷ bounds old)
      (declared_names (text old) old.names.spans (role_codes old.roles) old.base)
  bound-held m =
      ap₂ (λ t p. held_scope t new.base new.names.count m new.names.spans (role_codes new.roles) p) b.same_text b.same_pendings
      ∙ ap₂ (λ c n. held_scope (text old) c n m new.names.spans (role_codes new.roles) old.pendings) b.same_base b.more_names
      ∙ ap₂ (λ B D. scope (pending_names (text old) old.pendings m) B D) b.bound.one_more b.bound.same_declared

  pub name-bound-held : held new ≡ left_by binds (letters_at (text old) span) (held old)
  name-bound-held =
      ap (λ m. held_scope new.names.text.now new.base new.names.count m new.names.spans (role_codes new.roles) new.pendings) b.same_waiting
      ∙ bound-held old.waiting

pub pending-bound-held : (x : ℕ) {old new : Scope} → (old.waiting ≡ 0 → ⊥) → Bound (get_or old.pendings (old.waiting - 1) x) old new
    → held_scope new.names.text.now new.base new.names.count (old.waiting - 1) new.names.spans (role_codes new.roles) new.pendings ≡ bind_pending (held old)
pending-bound-held x {old} z b =
    bound-held b (old.waiting - 1)
    ∙ ap
    (λ v. scope (pending_names (text old) old.pendings (old.waiting - 1)) (v ∷ bounds old)
    (declared_names (text old) old.names.spans (role_codes old.roles) old.base))
    (entry-read (text old) old.pendings (old.waiting - 1) x (let h = old.few_waiting in let l = old.pendings_long in omega (arith, z)))
    ∙ sym
    (ap (λ P. bind_pending (scope P (bounds old) (declared_names (text old) old.names.spans (role_codes old.roles) old.base)))
    (pending-top (text old) old.pendings old.waiting z))

-- after one more that waits
pending-kept : (text pendings : List ℕ) (m v k : ℕ) → k ≤ m → pending_names text (set pendings m v) k ≡ pending_names text pendings k
pending-kept text pendings m v zero h = refl
pending-kept text pendings m v (suc k) h =
    ap₂ (λ x P. letters_at text x ∷ P) (get_or-set_other pendings m k v 0 (λ e. omega arith)) (pending-kept text pendings m v k (omega arith))

pub pended-held : (s : Scope) (span : ℕ) → s.waiting < 65536
    → held_scope (text s) s.base s.names.count (s.waiting + 1) s.names.spans (role_codes s.roles) (set s.pendings s.waiting span)
    ≡ left_by pends (letters_at (text s) span) (held s)
pended-held s span l =
    ap (λ P. scope P (bounds s) (declared_names (text s) s.names.spans (role_codes s.roles) s.base))
    (ap (pending_names (text s) (set s.pendings s.waiting span)) (add-one s.waiting)
    ∙ ap₂ (λ x P. letters_at (text s) x ∷ P)
    (get_or-set_same s.pendings s.waiting span 0 (let h = s.pendings_long in omega arith))
    (pending-kept (text s) s.pendings s.waiting span s.waiting (omega arith)))

-- a good name
module _ {q : State} {e : ScopeEffect} {span : ℕ} (old new : Scope) where
  pub noted-name : true ≡ cond (may_take e (held old)) (holds_in q (letters_at (text old) span) (met_in e (held old))) false
      → ScopeAfter (left_by e (letters_at (text old) span) (met_in e (held old))) (old.names.count + old.waiting + 1) old new → Noted q e span old true new
  noted-name t a = record { same_text = a.same_text; noted = record { told = t; rescoped = λ z. a.rescoped } }

-- an effect of the code's
pub by-effect : {q : State} {span : ℕ} {ok : Bool} (old new : Scope) (effect e : Effect) → effect ≡ e
    → Noted q (effect_of (effect_code e)) span old ok new → Noted q (effect_of (effect_code effect)) span old ok new
by-effect {q} {span} {ok} old new effect e f n = subst (λ x. Noted q (effect_of (effect_code x)) span old ok new) (sym f) n
