-- The nearest bound name is the last one of the table.
-- Assumes nothing.
use Rattle.std.proofs.Common.{refl, arith}
use Rattle.scoping.proofs.ScopeLaws.{after, unbound-held}
use Rattle.scoping.proofs.scopes.Scope.unbind.Goals as goal

pub returns-then-self : goal.returns-then-self
returns-then-self c =
    let s = c.args.self.now in
    let p = c.pop.ensures in
    let h = c.if-self.true in
    let l = c.requires in
    (after s _ p.0 (omega (arith, p.1)) (omega arith) (unbound-held s c.pop.new.self h p.0 p.1 p.2), refl)
