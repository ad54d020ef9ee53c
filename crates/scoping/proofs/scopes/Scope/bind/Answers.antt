-- Beside its place the name gets its role among the declared names.
-- Assumes nothing.
use Rattle.std.proofs.Common.{refl, sym, ap, ◌∙◌, subst, arith, get_or, set}
use Rattle.symbols.specs.Names.{Inside, declared_role}
use Rattle.symbols.specs.RoleNumbers.{role_codes}
use Rattle.scoping.proofs.EntryLaws.{scope-bound}
use Rattle.scoping.proofs.scopes.Scope.bind.Goals as goal

pub invariant_of-self : goal.invariant_of-self
invariant_of-self c =
    let s = c.args.self.now in
    let p = c.push.ensures in
    let b = scope-bound s c.push.new.self c.args.span c.declared_role-role.result p c.requires.1 c.declared_role-role.ensures in
    let h = s.above in
    record {
      above = omega (arith, p.1);
      named = b.named;
      bound_roles = λ k h l. b.bound_roles k h (omega (arith, p.1)) ∙ ap (λ x. declared_role x c.push.new.self.spans (role_codes (set s.roles s.names.count c.declared_role-role.result)) s.base (get_or c.push.new.self.spans k 0)) (sym p.0);
      pendings_long = s.pendings_long;
      few_waiting = s.few_waiting;
      pendings_inside = λ k h. subst (λ t. Inside t (get_or s.pendings k 0)) (sym p.0) (s.pendings_inside k h);
    }

pub returns : goal.returns
returns c =
    let s = c.args.self.now in
    let p = c.push.ensures in
    record {
      same_text = p.0;
      more_names = p.1;
      same_base = refl;
      same_pendings = refl;
      same_waiting = refl;
      bound = scope-bound s c.push.new.self c.args.span c.declared_role-role.result p c.requires.1 c.declared_role-role.ensures;
    }
