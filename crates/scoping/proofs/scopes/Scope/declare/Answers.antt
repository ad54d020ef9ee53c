-- Beside its place the name gets its role.
-- Assumes nothing.
use Rattle.std.proofs.Common.{refl, sym, ap, ◌∙◌, ◌+◌, subst, arith, get_or, set}
use Rattle.std.proofs.lemmas.List.{map-set}
use Rattle.symbols.specs.Names.{Inside, Roles, declared_names}
use Rattle.symbols.specs.RoleNumbers.{role_code}
use Rattle.scoping.proofs.EntryLaws.{roles_more, declared-more}
use Rattle.scoping.proofs.scopes.Scope.declare.Goals as goal

pub invariant_of-self : goal.invariant_of-self
invariant_of-self c =
    let s = c.args.self.now in
    let p = c.push.ensures in
    let b = c.requires.2 in
    record {
      above = omega (arith, p.1);
      named = subst (λ l. Roles l (s.base + 1)) (sym (map-set role_code s.roles s.base c.args.role)) (roles_more (role_code c.args.role) s.named (omega (arith, c.requires.1)) c.requires.3);
      bound_roles = λ k h l. absurd (omega (arith, p.1));
      pendings_long = s.pendings_long;
      few_waiting = s.few_waiting;
      pendings_inside = λ k h. subst (λ t. Inside t (get_or s.pendings k 0)) (sym p.0) (s.pendings_inside k h);
    }

pub returns : goal.returns
returns c =
    let s = c.args.self.now in
    let p = c.push.ensures in
    record {
      same_text = p.0;
      more_names = p.1;
      more_declared = refl;
      same_pendings = refl;
      same_waiting = refl;
      declared =
          ap (λ l. declared_names s.names.text.now c.push.new.self.spans l (s.base + 1)) (map-set role_code s.roles s.base c.args.role)
          ∙ declared-more s.names.text.now s.names.spans c.args.span (role_code c.args.role) (p.2 ∙ ap (λ k. set s.names.spans k c.args.span) (sym c.requires.2)) s.named (omega (arith, c.requires.1, c.requires.2)) s.names.hashed.spans_long;
    }
