-- The name that waits on top is bound.
-- Assumes nothing.
use Rattle.std.proofs.Common.{arith}
use Rattle.scoping.proofs.ScopeLaws.{after, pending-bound-held}
use Rattle.scoping.proofs.scopes.Scope.bind_pending.Goals as goal

pub returns-then-self-ne0 : goal.returns-then-self-ne0
returns-then-self-ne0 c =
    let s = c.args.self.now in
    let b = c.bind.ensures in
    let z = c.if-self-ne0.true in
    let l = c.requires in
    (after s _ b.same_text (omega (arith, b.more_names, z)) (omega arith) (pending-bound-held _ z b), b.same_pendings)
