-- No naming before, another word than d, another word before, and one more d. Assumes nothing.
use native.Mathlib.Omega.{arith}
use Rattle.structure.proofs.Namers.{entry-several, entry-shared, entry-badly}
use Rattle.structure.proofs.naming.Named.with.Goals as goal

pub returns-in-Well-clause-summed : goal.returns-in-Well-clause-summed
returns-in-Well-clause-summed c =
    λ ns words e.
    let v = rw c.in-Well.is at e in
    entry-shared (record { by = c.args.naming.by; at = c.args.naming.at }) ns words v (λ z. omega (arith, z)) c.if-naming-eq-WORD_D.true
    (omega (arith, c.if-naming-eq-WORD_D.true, c.if-first-naming.true))

pub returns-in_default-2-clause-summed : goal.returns-in_default-2-clause-summed
returns-in_default-2-clause-summed c =
    λ ns words e.
    let v = rw c.in-Well.is at e in
    entry-several (record { by = c.args.naming.by; at = c.args.naming.at }) ns words v (λ z. omega (arith, z)) (omega (arith, c.requires.2, c.if-naming-eq-WORD_D.false))

pub returns-in_default-3-clause-summed : goal.returns-in_default-3-clause-summed
returns-in_default-3-clause-summed c =
    λ ns words e. entry-badly (record { by = c.args.naming.by; at = c.args.naming.at }) ns words c.requires.2 (rw c.in_default.is at e)
