-- The name that waits on top is declared.
-- Assumes nothing.
use Rattle.std.proofs.Common.{◌∙◌, arith}
use Rattle.scoping.proofs.ScopeLaws.{after, type-held}
use Rattle.scoping.proofs.scopes.Scope.declare_pending.Goals as goal

pub returns-then-self-ne0 : goal.returns-then-self-ne0
returns-then-self-ne0 c =
    let s = c.args.self.now in
    let d = c.declare.ensures in
    let z = c.if-self-ne0.true in
    let l = c.requires.1 in
    (after s _ d.same_text (omega (arith, d.more_names, z, c.requires.0)) (omega (arith, l)) (type-held _ z c.requires.0 d), d.more_declared ∙ (omega (arith, d.more_names, c.requires.0)), d.same_pendings)
