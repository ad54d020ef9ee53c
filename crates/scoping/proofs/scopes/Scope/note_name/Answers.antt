-- By the effect.
-- Assumes nothing.
use Rattle.std.proofs.Common.{refl, arith}
use Rattle.scoping.specs.declared.tables.Effect.TheVariants.{Pends, Binds}
use Rattle.scoping.proofs.ScopeLaws.{after, by-effect, noted-name, pended-held, name-bound-held}
use Rattle.scoping.proofs.scopes.Scope.note_name.Goals as goal

pub returns-in-Pends : goal.returns-in-Pends
returns-in-Pends c =
    let s = c.args.self.now in
    let l = c.requires.1 in
    by-effect s _ c.args.effect Pends c.in-Pends.is
    (noted-name s _ (c.if-not-admits.ensures s.waiting s.pendings) (after s _ refl (omega arith) (omega arith) (pended-held s c.args.span (omega arith))))

pub returns-in-Binds : goal.returns-in-Binds
returns-in-Binds c =
    let s = c.args.self.now in
    let l = c.requires.1 in
    let b = c.bind.ensures in
    by-effect s c.bind.new.self c.args.effect Binds c.in-Binds.is
    (noted-name s c.bind.new.self (c.if-not-admits.ensures s.waiting s.pendings) (after s c.bind.new.self b.same_text (omega (arith, b.more_names, b.same_waiting)) (omega arith) (name-bound-held b)))
