-- The tables as they are.
-- Assumes nothing.
use Prim.Native.Nat.{◌-◌}
use native.Mathlib.Omega.{arith}
use mathlib.Core.Path.{sym, ap, ap₂, ◌∙◌}
use lib.ListN.{length, drop}
use Rattle.instructions.proofs.CodeLaws.{held-length, held-dropped}
use Rattle.instructions.proofs.code.Code.truncate.Goals as goal

pub invariant_of-self : goal.invariant_of-self
invariant_of-self c =
    let s = c.self.inside in
    let n = sym (held-length s.ops s.firsts s.seconds s.len) ∙ ap length c.self.view_is in
    let b = c.requires in
    let l = c.self.invariant in
    omega (arith, n)

pub returns : goal.returns
returns c =
    let s = c.self.inside in
    let n = sym (held-length s.ops s.firsts s.seconds s.len) ∙ ap length c.self.view_is in
    let b = c.requires in
    sym (held-dropped s.ops s.firsts s.seconds s.len c.args.n (omega (arith, n)))
    ∙ ap₂ (λ k C. drop (k - c.args.n) C) n c.self.view_is
