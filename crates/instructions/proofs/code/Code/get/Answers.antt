-- An entry of each table.
-- Assumes nothing.
use native.Mathlib.Omega.{arith}
use mathlib.Core.Path.{sym, ap, ◌∙◌}
use lib.ListN.{length}
use Rattle.instructions.specs.Code.{from_bottom}
use Rattle.instructions.proofs.CodeLaws.{held-length, held-from-bottom}
use Rattle.instructions.proofs.code.Code.get.Goals as goal

pub bounds-self-inside-k : goal.bounds-self-inside-k
bounds-self-inside-k c =
    let s = c.self.inside in
    let n = sym (held-length s.ops s.firsts s.seconds s.len) ∙ ap length c.self.view_is in
    let b = c.requires in
    let l = c.self.invariant in
    omega (arith, n)

pub offset_bounds-self-inside-k : goal.offset_bounds-self-inside-k
offset_bounds-self-inside-k c =
    let s = c.self.inside in
    let n = sym (held-length s.ops s.firsts s.seconds s.len) ∙ ap length c.self.view_is in
    let b = c.requires in
    let l = c.self.invariant in
    omega (arith, n)

pub bounds-self-inside-k-2 : goal.bounds-self-inside-k-2
bounds-self-inside-k-2 c =
    let s = c.self.inside in
    let n = sym (held-length s.ops s.firsts s.seconds s.len) ∙ ap length c.self.view_is in
    let b = c.requires in
    let l = c.self.invariant in
    omega (arith, n)

pub offset_bounds-self-inside-k-2 : goal.offset_bounds-self-inside-k-2
offset_bounds-self-inside-k-2 c =
    let s = c.self.inside in
    let n = sym (held-length s.ops s.firsts s.seconds s.len) ∙ ap length c.self.view_is in
    let b = c.requires in
    let l = c.self.invariant in
    omega (arith, n)

pub bounds-self-inside-k-3 : goal.bounds-self-inside-k-3
bounds-self-inside-k-3 c =
    let s = c.self.inside in
    let n = sym (held-length s.ops s.firsts s.seconds s.len) ∙ ap length c.self.view_is in
    let b = c.requires in
    let l = c.self.invariant in
    omega (arith, n)

pub returns : goal.returns
returns c =
    let s = c.self.inside in
    let n = sym (held-length s.ops s.firsts s.seconds s.len) ∙ ap length c.self.view_is in
    let b = c.requires in
    held-from-bottom s.ops s.firsts s.seconds s.len c.args.k (omega (arith, n)) ∙ ap (from_bottom c.args.k) c.self.view_is
