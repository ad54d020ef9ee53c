-- The scope that the code's tables hold, and what changes of it give.
use Rattle.std.specs.Prelude.{ℕ, ◌+◌, ◌≡◌, Bool, ◌∷◌}
use Rattle.grammar.specs.Rows.{State}
use Rattle.name_rules.specs.Declared.{declared_as}
use Rattle.name_rules.specs.TokenWalk.{NameScope, ScopeEffect}
use Rattle.symbols.specs.Names.{letters_at, declared_names, role_named}
use Rattle.symbols.specs.RoleNumbers.{role_codes}
use Rattle.scoping.specs.declared.scopes.Scope.{Scope}
use Rattle.scoping.specs.Scoped.{held_scope, Rescoped, NameBound, NameNoted}

abbrev pub held : Scope → NameScope
held s = held_scope s.names.text.now s.base s.names.count s.waiting s.names.spans (role_codes s.roles) s.pendings

-- one declared name more
pub record Declared (span kind : ℕ) (old new : Scope) : Type 0 where
  pub same_text : new.names.text.now ≡ old.names.text.now
  pub more_names : new.names.count ≡ old.names.count + 1
  pub more_declared : new.base ≡ old.base + 1
  pub same_pendings : new.pendings ≡ old.pendings
  pub same_waiting : new.waiting ≡ old.waiting
  pub declared : declared_names old.names.text.now new.names.spans (role_codes new.roles) (old.base + 1)
      ≡ declared_as (letters_at old.names.text.now span) (role_named kind) ∷ declared_names old.names.text.now old.names.spans (role_codes old.roles) old.base

-- one bound name more
pub record Bound (span : ℕ) (old new : Scope) : Type 0 where
  pub same_text : new.names.text.now ≡ old.names.text.now
  pub more_names : new.names.count ≡ old.names.count + 1
  pub same_base : new.base ≡ old.base
  pub same_pendings : new.pendings ≡ old.pendings
  pub same_waiting : new.waiting ≡ old.waiting
  pub bound : NameBound old.names.text.now span old.base old.names.count old.names.spans (role_codes old.roles) new.names.spans new.names.links new.names.heads (role_codes new.roles)

-- the scope after a change, with so much room
pub record ScopeAfter (S : NameScope) (room : ℕ) (old new : Scope) : Type 0 where
  pub same_text : new.names.text.now ≡ old.names.text.now
  pub rescoped : Rescoped S old.names.text.now room new.base new.names.count new.waiting new.names.spans new.names.links new.names.heads (role_codes new.roles) new.pendings

-- whether a name with an effect keeps to its rule, and if so the scope after it
pub record Noted (q : State) (e : ScopeEffect) (span : ℕ) (old : Scope) (ok : Bool) (new : Scope) : Type 0 where
  pub same_text : new.names.text.now ≡ old.names.text.now
  pub noted : NameNoted q e (letters_at old.names.text.now span) (held old) old.names.text.now (old.names.count + old.waiting + 1) ok
      new.base new.names.count new.waiting new.names.spans new.names.links new.names.heads (role_codes new.roles) new.pendings
